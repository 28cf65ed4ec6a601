use Rattle.std.proofs.Common.{◌≡◌, ◌∙◌, ap, append_assoc}
use Rattle.std.proofs.lemmas.Result.{IfOk-weaker}
use Rattle.pg_ids.specs.AnyKey.{long_part_of}
use Rattle.answer.specs.Texts.{part_text}
use Rattle.answer.proofs.answers.key_line.Goals as goal

pub returns-clause-line : goal.returns-clause-line
returns-clause-line c =
    let part : c.as_str-part.result.now ≡ part_text (long_part_of c.args.key) =
    c.as_str-part.ensures.value ∙ c.in_ok-part.ensures ∙ ap part_text c.long_part.ensures in
    IfOk-weaker c.format.result _ _ (λ line h. h
    ∙ rw (
      c.get-peer.ensures.value,
      c.get-slot.ensures,
      c.get-secret.ensures,
      c.get-hops.ensures.value,
      c.short-short.ensures,
      part,
    ) (simp append_assoc)) c.format.ensures.ok
