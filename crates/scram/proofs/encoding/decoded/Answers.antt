use Rattle.std.proofs.Common.{◌∙◌, sym, refl}
use Rattle.scram.specs.Base64.{base64}
use Rattle.scram.proofs.encoding.decoded.Goals as goal

pub returns-in-Ok : goal.returns-in-Ok
unfolding base64
returns-in-Ok c = (
  c.in-Ok.ensures.bytes,
  c.in-Ok.ensures.exact (refl, refl),
  λ other are is.
      let both = c.in-Ok.ensures.strict (refl, refl) other are in
      let same = sym (both.1 is) ∙ c.in-Ok.ensures.ok in
      cc same,
)

pub returns-in-Err-DecodeError : goal.returns-in-Err-DecodeError
unfolding base64
returns-in-Err-DecodeError c = λ bytes are is.
    let both = c.in-Err-DecodeError.ensures.strict (refl, refl) bytes are in
    let fails = rw c.in-Err-DecodeError.field-0-is at c.in-Err-DecodeError.ensures.err in
    let contrary = sym (both.1 is) ∙ fails in
    cc contrary
