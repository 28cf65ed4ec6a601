-- What is written for the bytes of a value reads as the value.
use Rattle.std.proofs.Common.{◌≡◌, ◌∙◌, ◌≢◌, ℕ, ◌+◌, ◌/◌, ◌%◌, ◌<◌, ◌≤◌, ◌==◌, ◌⊎◌, Bool, true, false, not, ◌&&◌, if◌then◌else◌, nat_lt, nat_le, List, [], ◌∷◌, ◌++◌, refl, sym, ap, subst, inl, inr, arith}
use Rattle.std.specs.List.{AllByRecursion, list_all, flat_map}
use Rattle.std.proofs.lemmas.Bool.{cases_Bool, cases_lt, cond_below, cond_above, and_parts, not-true, eqb-false, ltb-true, leb-true, agree_below_at, true≢false}
use Rattle.tracked_parameters.specs.Values.{IsText}
use Rattle.tracked_parameters.specs.Constant.{IsHexDigit, IsPiece, ReadsAs}
use Rattle.tracked_parameters.specs.Settings.{IsPrintable}
use Rattle.tracked_parameters.specs.Stored.{is_plain, hex_digit, piece}

-- a printable byte
abbrev pub is_printable : ℕ → Bool
is_printable byte = nat_le 32 byte && nat_lt byte 127

pub printable : (byte : ℕ) → is_printable byte ≡ true → IsPrintable byte
printable byte is =
    let parts = and_parts (nat_le 32 byte) (nat_lt byte 127) is in
    (leb-true 32 byte parts.0, ltb-true byte 127 parts.1)

pub all_printable : (text : List ℕ) → list_all is_printable text ≡ true → AllByRecursion IsPrintable text
all_printable [] is = tt
all_printable (byte ∷ text) is =
    let parts = and_parts (is_printable byte) (list_all is_printable text) is in
    (printable byte parts.0, all_printable text parts.1)

is_inside : ℕ → Bool
is_inside byte = not (byte == 39)

no_quote : (text : List ℕ) → list_all is_inside text ≡ true → AllByRecursion (λ byte. byte ≢ 39) text
unfolding is_inside
no_quote [] is = tt
no_quote (byte ∷ text) is =
    let parts = and_parts (not (byte == 39)) (list_all is_inside text) is in
    (eqb-false byte 39 (not-true (byte == 39) parts.0), no_quote text parts.1)

abbrev piece_printable : ℕ → Bool
unfolding piece
piece_printable byte = list_all is_printable (piece byte)

abbrev piece_inside : ℕ → Bool
piece_inside byte = list_all is_inside (piece byte)

always : ℕ → Bool
always byte = true

each_printable : (byte : ℕ) → byte < 256 → list_all is_printable (piece byte) ≡ true
unfolding piece always
each_printable byte below = agree_below_at piece_printable always 256 byte refl below

each_inside : (byte : ℕ) → byte < 256 → list_all is_inside (piece byte) ≡ true
unfolding piece always is_inside
each_inside byte below = agree_below_at piece_inside always 256 byte refl below

pub all_append : {A : Type 0} (P : A → Type 0) (xs ys : List A) → AllByRecursion P xs → AllByRecursion P ys → AllByRecursion P (xs ++ ys)
all_append P [] ys all more = more
all_append P (x ∷ xs) ys all more = (all.0, all_append P xs ys all.1 more)

-- what is written for a text is printable, and no quote stands in it
pub constant_printable : (value : List ℕ) → IsText value → AllByRecursion IsPrintable (flat_map piece value)
constant_printable [] text = tt
constant_printable (byte ∷ value) text =
    all_append IsPrintable (piece byte) (flat_map piece value) (all_printable (piece byte) (each_printable byte text.0.1)) (constant_printable value text.1)

pub constant_closed : (value : List ℕ) → IsText value → AllByRecursion (λ byte. byte ≢ 39) (flat_map piece value)
constant_closed [] text = tt
constant_closed (byte ∷ value) text =
    all_append (λ (b : ℕ). b ≢ 39) (piece byte) (flat_map piece value) (no_quote (piece byte) (each_inside byte text.0.1)) (constant_closed value text.1)

digit_is : (value : ℕ) → value < 16 → IsHexDigit (hex_digit value) value
digit_is value small = go (cases_lt value 10)
  where
    go : (value < 10) ⊎ (10 ≤ value) → IsHexDigit (hex_digit value) value
    go (inl low) = inl (low, sym (cond_below value 10 (48 + value) (87 + value) low))
    go (inr high) = inr (high, small, inl (sym (cond_above value 10 (48 + value) (87 + value) (87 + value) high refl)))

plain_is : (byte : ℕ) → is_plain byte ≡ true → IsPiece byte (byte ∷ [])
plain_is byte plain =
    inl ((λ is. true≢false (sym plain ∙ ap is_plain is)), (λ is. true≢false (sym plain ∙ ap is_plain is)), refl)

escape_is : (byte : ℕ) → byte < 256 → IsPiece byte (92 ∷ 120 ∷ hex_digit (byte / 16) ∷ hex_digit (byte % 16) ∷ [])
escape_is byte below =
    inr (inr (inr (record {
      first = hex_digit (byte / 16);
      second = hex_digit (byte % 16);
      high = byte / 16;
      low = byte % 16;
      first_is = digit_is (byte / 16) (omega arith);
      second_is = digit_is (byte % 16) (omega arith);
      byte_is = omega arith;
      spelled = refl;
    })))

piece_is : (byte : ℕ) → byte < 256 → IsPiece byte (piece byte)
unfolding piece
piece_is byte below = go (cases_Bool (is_plain byte))
  where
    go : (is_plain byte ≡ true) ⊎ (is_plain byte ≡ false) → IsPiece byte (if is_plain byte then byte ∷ [] else 92 ∷ 120 ∷ hex_digit (byte / 16) ∷ hex_digit (byte % 16) ∷ [])
    go (inl plain) = subst (λ (b : Bool). IsPiece byte (if b then byte ∷ [] else 92 ∷ 120 ∷ hex_digit (byte / 16) ∷ hex_digit (byte % 16) ∷ [])) (sym plain) (plain_is byte plain)
    go (inr not_plain) = subst (λ (b : Bool). IsPiece byte (if b then byte ∷ [] else 92 ∷ 120 ∷ hex_digit (byte / 16) ∷ hex_digit (byte % 16) ∷ [])) (sym not_plain) (escape_is byte below)

-- it reads as the text
pub constant_reads : (value : List ℕ) → IsText value → ReadsAs value (flat_map piece value)
constant_reads [] text = refl
constant_reads (byte ∷ value) text =
    (piece byte, flat_map piece value, piece_is byte text.0.1, refl, constant_reads value text.1)
