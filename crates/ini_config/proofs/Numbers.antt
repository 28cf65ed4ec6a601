-- Decimal numbers, as `parse` reads them.
use Rattle.std.proofs.Common.{◌≡◌, ℕ, ◌<◌, ◌^◌, Bool, true, false, not, eqb, zero, suc, Ok, Err, refl, ◌&&◌, List, length, Result, arith, rules}
use Rattle.std.specs.Char.{is_ascii_digit}
use Rattle.std.specs.List.{list_all}
use Rattle.std.specs.Result.{OkIff, result_ok}
use Rattle.std.specs.Option.{SomeIff}
use Rattle.std.specs.Str.Parse.{digits_value, ParsesUnsigned}
use Rattle.std.proofs.lemmas.Str.Parse.{IsDigitsTest, IsNumeralModel, numerals_by_value, parse_digits}
use Rattle.ini_config.specs.Text.{is_digits, is_empty}

all_digits : IsDigitsTest (λ ds. list_all is_ascii_digit ds ≡ true)
all_digits = search rules

own : IsNumeralModel (λ ds. list_all is_ascii_digit ds ≡ true) (digits_value 10)
own = numerals_by_value _ all_digits

not_zero : (n : ℕ) → not (eqb n 0) ≡ true → 0 < n
not_zero zero e = cc
not_zero (suc n) e = omega arith

parts : (a b : Bool) → (a && b) ≡ true → (a ≡ true) × (b ≡ true)
parts true true e = (refl, refl)
parts true false e = cc
parts false b e = cc

some_iff : {E : Type 0} (P Q : Type 0) (r : Result ℕ E) (v : ℕ) → Q → OkIff r (Q × P) v → SomeIff (result_ok r) P v
some_iff P Q (Ok x) v q h = (h.0.1, h.1)
some_iff P Q (Err e) v q h = λ p. h (q, p)

-- what `parse` makes of digits
pub value_parsed : {E : Type 0} (bs : List ℕ) (r : Result ℕ E) → is_digits bs ≡ true → ParsesUnsigned 32 10 bs r → SomeIff (result_ok r) (digits_value 10 bs < 2 ^ 32) (digits_value 10 bs)
value_parsed bs r digits parses =
    let p = parts (not (is_empty bs)) (list_all is_ascii_digit bs) digits in
    let some : 0 < length bs = omega (arith, not_zero (length bs) p.0) in
    some_iff (digits_value 10 bs < 2 ^ 32) (0 < length bs) r (digits_value 10 bs) some (parse_digits own 32 bs r parses p.1)
