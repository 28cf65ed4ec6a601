-- A text stands for one value at most.
use Rattle.std.proofs.Common.{◌≡◌, ◌∙◌, ◌≢◌, ℕ, ◌+◌, ◌*◌, ◌⊎◌, List, [], ◌∷◌, ◌++◌, refl, sym, ap, subst, inl, inr, arith}
use Rattle.tracked_parameters.specs.Constant.{IsHexDigit, IsPiece, ReadsAs}

one_digit : (digit v w : ℕ) → IsHexDigit digit v → IsHexDigit digit w → v ≡ w
one_digit digit v w (inl (a, e)) (inl (b, f)) = omega (arith, a, e, b, f)
one_digit digit v w (inl (a, e)) (inr (b, d, inl f)) = omega (arith, a, e, b, d, f)
one_digit digit v w (inl (a, e)) (inr (b, d, inr f)) = omega (arith, a, e, b, d, f)
one_digit digit v w (inr (a, g, inl e)) (inl (b, f)) = omega (arith, a, e, b, g, f)
one_digit digit v w (inr (a, g, inr e)) (inl (b, f)) = omega (arith, a, e, b, g, f)
one_digit digit v w (inr (a, g, inl e)) (inr (b, d, inl f)) = omega (arith, a, e, b, d, g, f)
one_digit digit v w (inr (a, g, inl e)) (inr (b, d, inr f)) = omega (arith, a, e, b, d, g, f)
one_digit digit v w (inr (a, g, inr e)) (inr (b, d, inl f)) = omega (arith, a, e, b, d, g, f)
one_digit digit v w (inr (a, g, inr e)) (inr (b, d, inr f)) = omega (arith, a, e, b, d, g, f)

-- what a text that begins with a piece looks like
record Plain (byte : ℕ) (text rest : List ℕ) : Type 0 where
  no_quote : byte ≢ 39
  no_backslash : byte ≢ 92
  is : text ≡ byte ∷ rest

record Doubled (byte : ℕ) (text rest : List ℕ) : Type 0 where
  byte_is : byte ≡ 39
  is : text ≡ 39 ∷ 39 ∷ rest

record Escaped (byte : ℕ) (text rest : List ℕ) : Type 0 where
  byte_is : (byte ≡ 39) ⊎ (byte ≡ 92)
  is : text ≡ 92 ∷ byte ∷ rest

record Hex (byte : ℕ) (text rest : List ℕ) : Type 0 where
  first : ℕ
  second : ℕ
  high : ℕ
  low : ℕ
  first_is : IsHexDigit first high
  second_is : IsHexDigit second low
  byte_is : byte ≡ 16 * high + low
  is : text ≡ 92 ∷ 120 ∷ first ∷ second ∷ rest

abbrev Shape : ℕ → List ℕ → List ℕ → Type 0
Shape byte text rest = Plain byte text rest ⊎ Doubled byte text rest ⊎ Escaped byte text rest ⊎ Hex byte text rest

shape : (byte : ℕ) (piece text rest : List ℕ) → IsPiece byte piece → text ≡ piece ++ rest → Shape byte text rest
shape byte piece text rest (inl (a, b, e)) is = inl (record { no_quote = a; no_backslash = b; is = is ∙ ap (λ (p : List ℕ). p ++ rest) e })
shape byte piece text rest (inr (inl (a, e))) is = inr (inl (record { byte_is = a; is = is ∙ ap (λ (p : List ℕ). p ++ rest) e }))
shape byte piece text rest (inr (inr (inl (a, e)))) is = inr (inr (inl (record { byte_is = a; is = is ∙ ap (λ (p : List ℕ). p ++ rest) e })))
shape byte piece text rest (inr (inr (inr h))) is = inr (inr (inr (record {
  first = h.first;
  second = h.second;
  high = h.high;
  low = h.low;
  first_is = h.first_is;
  second_is = h.second_is;
  byte_is = h.byte_is;
  is = is ∙ ap (λ (p : List ℕ). p ++ rest) h.spelled;
})))

heads : (a b : ℕ) (r s t : List ℕ) → t ≡ a ∷ r → t ≡ b ∷ s → (a ≡ b) × (r ≡ s)
heads a b r s t e f = let same : a ∷ r ≡ b ∷ s = sym e ∙ f in (cc, cc)

not_special : (byte : ℕ) → (byte ≡ 39) ⊎ (byte ≡ 92) → byte ≡ 120 → ⊥
not_special byte (inl a) e = omega (arith, a, e)
not_special byte (inr a) e = omega (arith, a, e)

one_shape : (b c : ℕ) (t r s : List ℕ) → Shape b t r → Shape c t s → (b ≡ c) × (r ≡ s)
one_shape b c t r s (inl x) (inl y) = heads b c r s t x.is y.is
one_shape b c t r s (inl x) (inr (inl y)) = absurd (x.no_quote (heads b 39 r _ t x.is y.is).0)
one_shape b c t r s (inl x) (inr (inr (inl y))) = absurd (x.no_backslash (heads b 92 r _ t x.is y.is).0)
one_shape b c t r s (inl x) (inr (inr (inr y))) = absurd (x.no_backslash (heads b 92 r _ t x.is y.is).0)
one_shape b c t r s (inr (inl x)) (inl y) = absurd (y.no_quote (heads c 39 s _ t y.is x.is).0)
one_shape b c t r s (inr (inl x)) (inr (inl y)) =
    let one = heads 39 39 (39 ∷ r) (39 ∷ s) t x.is y.is in
    (x.byte_is ∙ sym y.byte_is, (heads 39 39 r s (39 ∷ r) refl one.1).1)
one_shape b c t r s (inr (inl x)) (inr (inr (inl y))) = let e = (heads 39 92 (39 ∷ r) (c ∷ s) t x.is y.is).0 in absurd (omega (arith, e))
one_shape b c t r s (inr (inl x)) (inr (inr (inr y))) = let e = (heads 39 92 (39 ∷ r) (120 ∷ y.first ∷ y.second ∷ s) t x.is y.is).0 in absurd (omega (arith, e))
one_shape b c t r s (inr (inr (inl x))) (inl y) = absurd (y.no_backslash (heads c 92 s _ t y.is x.is).0)
one_shape b c t r s (inr (inr (inl x))) (inr (inl y)) = let e = (heads 92 39 (b ∷ r) (39 ∷ s) t x.is y.is).0 in absurd (omega (arith, e))
one_shape b c t r s (inr (inr (inl x))) (inr (inr (inl y))) = heads b c r s (b ∷ r) refl (heads 92 92 (b ∷ r) (c ∷ s) t x.is y.is).1
one_shape b c t r s (inr (inr (inl x))) (inr (inr (inr y))) =
    absurd (not_special b x.byte_is (heads b 120 r (y.first ∷ y.second ∷ s) (b ∷ r) refl (heads 92 92 (b ∷ r) (120 ∷ y.first ∷ y.second ∷ s) t x.is y.is).1).0)
one_shape b c t r s (inr (inr (inr x))) (inl y) = absurd (y.no_backslash (heads c 92 s _ t y.is x.is).0)
one_shape b c t r s (inr (inr (inr x))) (inr (inl y)) = let e = (heads 92 39 (120 ∷ x.first ∷ x.second ∷ r) (39 ∷ s) t x.is y.is).0 in absurd (omega (arith, e))
one_shape b c t r s (inr (inr (inr x))) (inr (inr (inl y))) =
    absurd (not_special c y.byte_is (heads c 120 s (x.first ∷ x.second ∷ r) (c ∷ s) refl (heads 92 92 (c ∷ s) (120 ∷ x.first ∷ x.second ∷ r) t y.is x.is).1).0)
one_shape b c t r s (inr (inr (inr x))) (inr (inr (inr y))) =
    let one = (heads 92 92 (120 ∷ x.first ∷ x.second ∷ r) (120 ∷ y.first ∷ y.second ∷ s) t x.is y.is).1 in
    let two = (heads 120 120 (x.first ∷ x.second ∷ r) (y.first ∷ y.second ∷ s) (120 ∷ x.first ∷ x.second ∷ r) refl one).1 in
    let three = heads x.first y.first (x.second ∷ r) (y.second ∷ s) (x.first ∷ x.second ∷ r) refl two in
    let four = heads x.second y.second r s (x.second ∷ r) refl three.1 in
    let high = one_digit x.first x.high y.high x.first_is (subst (λ (d : ℕ). IsHexDigit d y.high) (sym three.0) y.first_is) in
    let low = one_digit x.second x.low y.low x.second_is (subst (λ (d : ℕ). IsHexDigit d y.low) (sym four.0) y.second_is) in
    (omega (arith, x.byte_is, y.byte_is, high, low), four.1)

no_shape : (byte : ℕ) (text rest : List ℕ) → Shape byte text rest → text ≡ [] → ⊥
no_shape byte text rest (inl x) e = nothing byte rest (sym e ∙ x.is)
  where
    nothing : (b : ℕ) (r : List ℕ) → [] ≡ b ∷ r → ⊥
    nothing b r e = cc
no_shape byte text rest (inr (inl x)) e = nothing 39 (39 ∷ rest) (sym e ∙ x.is)
  where
    nothing : (b : ℕ) (r : List ℕ) → [] ≡ b ∷ r → ⊥
    nothing b r e = cc
no_shape byte text rest (inr (inr (inl x))) e = nothing 92 (byte ∷ rest) (sym e ∙ x.is)
  where
    nothing : (b : ℕ) (r : List ℕ) → [] ≡ b ∷ r → ⊥
    nothing b r e = cc
no_shape byte text rest (inr (inr (inr x))) e = nothing 92 (120 ∷ x.first ∷ x.second ∷ rest) (sym e ∙ x.is)
  where
    nothing : (b : ℕ) (r : List ℕ) → [] ≡ b ∷ r → ⊥
    nothing b r e = cc

-- a text stands for no other value
pub one_reading : (value other text : List ℕ) → ReadsAs value text → ReadsAs other text → value ≡ other
one_reading [] [] text a b = refl
one_reading [] (byte ∷ other) text a (piece, rest, is, spelled, more) = absurd (no_shape byte text rest (shape byte piece text rest is spelled) a)
one_reading (byte ∷ value) [] text (piece, rest, is, spelled, more) b = absurd (no_shape byte text rest (shape byte piece text rest is spelled) b)
one_reading (byte ∷ value) (next ∷ other) text (piece, rest, is, spelled, more) (piece', rest', is', spelled', more') =
    let same = one_shape byte next text rest rest' (shape byte piece text rest is spelled) (shape next piece' text rest' is' spelled') in
    let tail = one_reading value other rest more (subst (ReadsAs other) (sym same.1) more') in
    let head = same.0 in
    cc
