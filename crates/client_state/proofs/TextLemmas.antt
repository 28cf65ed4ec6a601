-- A text ends in its first zero byte where its last byte is zero and no other is.
use Rattle.std.proofs.Common.{◌≡◌, ◌∙◌, ℕ, Bool, true, false, cond, eqb, ne_eqb, not, ◌&&◌, List, [], ◌∷◌, ◌++◌, length, inl, inr, refl, sym, ap, arith, length-append}
use Rattle.std.proofs.lemmas.Bool.{cases_Bool}
use Rattle.std.specs.List.{list_any}
use Rattle.client_state.specs.Text.{is_zero, is_one_string}

-- a test that is chosen, against both ways
last_alone : (b : Bool) → cond b true false ≡ (b && not false)
last_alone true = refl
last_alone false = refl

no_and : (b : Bool) → (b && false) ≡ false
no_and true = refl
no_and false = refl

not_empty : (rest : List ℕ) (last : ℕ) → eqb (length (rest ++ last ∷ [])) 0 ≡ false
not_empty rest last = ne_eqb _ _ (λ e. omega (arith, e, length-append rest (last ∷ [])))

-- whether the first zero byte is the last byte, by the last byte and those before it
pub one_string_last : (text : List ℕ) (last : ℕ)
    → is_one_string (text ++ last ∷ []) ≡ (is_zero last && not (list_any is_zero text))
one_string_last [] last = last_alone (is_zero last)
one_string_last (byte ∷ rest) last =
    elim (cases_Bool (eqb byte 0)) [
      | inl zero ↦ rw (zero, not_empty rest last) (sym (no_and (is_zero last)))
      | inr other ↦ rw other (one_string_last rest last)
    ]

-- with a last zero byte, those before it tell
pub after_zero : (body text : List ℕ) (last : ℕ) (seen : Bool) → body ≡ text ++ last ∷ [] → last ≡ 0
    → seen ≡ list_any is_zero text → not seen ≡ is_one_string body
after_zero body text last seen whole zero found =
    let tells : is_one_string body ≡ (is_zero last && not (list_any is_zero text)) =
    ap is_one_string whole ∙ one_string_last text last in
    let is : is_zero last ≡ true = ap is_zero zero in
    ap not found ∙ sym (tells ∙ ap (λ b. b && not (list_any is_zero text)) is)

-- with another last byte, the last byte tells
pub after_other : (body text : List ℕ) (last : ℕ) → body ≡ text ++ last ∷ [] → (last ≡ 0 → ⊥)
    → is_zero last ≡ is_one_string body
after_other body text last whole other =
    let tells : is_one_string body ≡ (is_zero last && not (list_any is_zero text)) =
    ap is_one_string whole ∙ one_string_last text last in
    let is : is_zero last ≡ false = ne_eqb _ _ other in
    is ∙ sym (tells ∙ ap (λ b. b && not (list_any is_zero text)) is)
