use Rattle.std.proofs.Common.{◌≤◌, ◌++◌, ◌∙◌, ℕ, drop, replicate, sym, ap, subst, lit≤}
use Rattle.std.proofs.lemmas.List.{append-nil}
use Rattle.base64.specs.Engines.{standard}
use Rattle.base64.specs.GeneralPurpose.{encoded_size_of, encode_of}
use Rattle.scram.specs.Base64.{base64}
use Rattle.scram.proofs.encoding.is_base64_of.Goals as goal

pub returns : goal.returns
unfolding base64
returns c =
    let size = ap (encoded_size_of standard) c.told-bytes in
    let ok = c.encode_slice.ensures.fits (subst (λ (n : ℕ). n ≤ 44) (sym size) (lit≤ tt)) in
    let written = rw ok at c.encode_slice.ensures.written in
    let encoded = encode_of standard c.args.bytes.now in
    let all = written ∙ ap (λ (n : ℕ). encoded ++ drop n (replicate 44 0)) size ∙ append-nil encoded in
    (λ yes. c.same.ensures.0 yes ∙ all, λ is. c.same.ensures.1 (is ∙ sym all))
