use Rattle.std.proofs.Common.{◌≡◌, ◌∙◌, ap, append_assoc}
use Rattle.std.proofs.lemmas.Result.{IfOk-weaker}
use Rattle.hex.specs.Hex.{encode_lower}
use Rattle.startup.specs.CancelPacket.{packet_bytes}
use Rattle.answer.proofs.decide.forward_line.Goals as goal

pub returns : goal.returns
returns c =
    let text : c.as_str-packet.result.now ≡ encode_lower (packet_bytes c.args.packet) =
    c.as_str-packet.ensures.value ∙ c.in_ok-packet.ensures ∙ ap encode_lower c.as_slice.ensures in
    IfOk-weaker c.format.result _ _ (λ line h. h ∙ rw text (simp append_assoc)) c.format.ensures.ok
