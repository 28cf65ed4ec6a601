use Rattle.std.proofs.Common.{◌<◌, ◌^◌, ◌∙◌, sym, ap, arith}
use Rattle.std.specs.Result.{result_ok}
use Rattle.std.proofs.lemmas.Fmt.{parse-decimal, IsAscii-decimal}
use Rattle.std.proofs.lemmas.Str.{IsUtf8-from_ascii}
use Rattle.std.specs.Str.{IsUtf8}
use Rattle.std.proofs.Common.{subst}
use Rattle.scram.proofs.number.number_in.Goals as goal

pub returns-in-Ok : goal.returns-in-Ok
returns-in-Ok c = λ number below is.
    let wide : number < 2 ^ 64 = omega arith in
    let read = parse-decimal 32 number c.in-Ok.text.now c.parse.result below wide (c.in-Ok.ensures.cases.0 ∙ is) c.parse.ensures.value.0 in
    c.ok.ensures.value ∙ ap result_ok read

pub returns-in-Err : goal.returns-in-Err
returns-in-Err c = λ number below is.
    let wide : number < 2 ^ 64 = omega arith in
    absurd (c.in-Err.ensures.cases.0 (subst IsUtf8 (sym is) (IsUtf8-from_ascii _ (IsAscii-decimal number wide))))
