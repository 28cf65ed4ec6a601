-- What base64 and digits lack.
use Rattle.std.proofs.Common.{◌≡◌, ◌≢◌, ℕ, zero, suc, ◌<◌, ◌^◌, ◌==◌, ◌&&◌, Bool, true, not, List, [], ◌∷◌, ◌++◌, length, replicate, get_or, refl, sym, ap, ◌∙◌, arith}
use Rattle.std.specs.Str.Parse.{AllDigits}
use Rattle.std.specs.Fmt.{decimal}
use Rattle.std.proofs.lemmas.Str.Parse.{digit_from_value}
use Rattle.std.proofs.lemmas.Fmt.{decimal_is_IsNumeral}
use Rattle.std.proofs.lemmas.Bool.{eq-eqb, and_parts}
use Rattle.base64.specs.Rfc4648.{encode_symbols, padding_len}
use Rattle.base64.specs.Engines.{standard}
use Rattle.base64.specs.GeneralPurpose.{engine_symbols}
use Rattle.scram.specs.Base64.{base64}
use Rattle.scram.specs.Messages.{Lacks}

pub Lacks-append : (byte : ℕ) (xs ys : List ℕ) → Lacks byte xs → Lacks byte ys → Lacks byte (xs ++ ys)
Lacks-append byte [] ys a b = b
Lacks-append byte (x ∷ xs) ys a b = (a.0, Lacks-append byte xs ys a.1 b)

Lacks-replicate : (byte n x : ℕ) → x ≢ byte → Lacks byte (replicate n x)
Lacks-replicate byte zero x other = tt
Lacks-replicate byte (suc n) x other = (other, Lacks-replicate byte n x other)

-- no symbol of an alphabet is this byte
abbrev has_none : ℕ → List ℕ → Bool
has_none byte [] = true
has_none byte (x ∷ xs) = not (x == byte) && has_none byte xs

differs : (x byte : ℕ) → not (x == byte) ≡ true → x ≢ byte
differs x byte h same =
    let e = ap not (eq-eqb x byte same) in
    let contrary = sym e ∙ h in
    cc contrary

get_none : (byte : ℕ) (t : List ℕ) → 0 ≢ byte → has_none byte t ≡ true → (k : ℕ) → get_or t k 0 ≢ byte
get_none byte [] zero_isnt h k = zero_isnt
get_none byte (x ∷ xs) zero_isnt h zero = differs x byte (and_parts (not (x == byte)) (has_none byte xs) h).0
get_none byte (x ∷ xs) zero_isnt h (suc k) = get_none byte xs zero_isnt (and_parts (not (x == byte)) (has_none byte xs) h).1 k

symbols_lack : (byte : ℕ) (t : List ℕ) → ((k : ℕ) → get_or t k 0 ≢ byte) → (m : List ℕ) → Lacks byte (encode_symbols t m)
unfolding encode_symbols
symbols_lack byte t none [] = tt
symbols_lack byte t none (a ∷ []) = (none _, (none _, tt))
symbols_lack byte t none (a ∷ b ∷ []) = (none _, (none _, (none _, tt)))
symbols_lack byte t none (a ∷ b ∷ c ∷ rest) = (none _, (none _, (none _, (none _, symbols_lack byte t none rest))))

pub base64_lacks : (byte : ℕ) → 0 ≢ byte → 61 ≢ byte → has_none byte (engine_symbols standard) ≡ true → (m : List ℕ) → Lacks byte (base64 m)
unfolding base64
base64_lacks byte zero_isnt pad_isnt none m =
    Lacks-append byte (encode_symbols (engine_symbols standard) m) (replicate (padding_len (length m)) 61)
    (symbols_lack byte (engine_symbols standard) (get_none byte (engine_symbols standard) zero_isnt none) m)
    (Lacks-replicate byte (padding_len (length m)) 61 pad_isnt)

-- no comma, colon or dollar sign
pub base64_comma : (m : List ℕ) → Lacks 44 (base64 m)
base64_comma m = base64_lacks 44 (λ e. cc) (λ e. cc) refl m

pub base64_colon : (m : List ℕ) → Lacks 58 (base64 m)
base64_colon m = base64_lacks 58 (λ e. cc) (λ e. cc) refl m

pub base64_dollar : (m : List ℕ) → Lacks 36 (base64 m)
base64_dollar m = base64_lacks 36 (λ e. cc) (λ e. cc) refl m

digits_lack_colon : (ds : List ℕ) → AllDigits 10 ds → Lacks 58 ds
digits_lack_colon [] all = tt
digits_lack_colon (d ∷ ds) all =
    let range = digit_from_value d all.0 in
    ((λ e. absurd (omega (arith, range.0, range.1, e))), digits_lack_colon ds all.1)

pub decimal_colon : (n : ℕ) → n < 2 ^ 64 → Lacks 58 (decimal n)
decimal_colon n low = digits_lack_colon (decimal n) (decimal_is_IsNumeral n low).0.1
