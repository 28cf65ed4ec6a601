-- A body of one string, read from its end.
use Rattle.std.proofs.Common.{◌≡◌, ℕ, ◌==◌, false, List, [], ◌∷◌, ◌++◌, get_or, drop, refl, sym, ap, ◌∙◌}
use Rattle.std.specs.List.{list_any}
use Rattle.std.proofs.lemmas.Bool.{ne_eqb}
use Rattle.startup.specs.StartupMessage.{HasNoZero}

none_after : (before : List ℕ) (last : ℕ) → [] ≡ before ++ last ∷ [] → ⊥
none_after [] last e = cc
none_after (byte ∷ before) last e = cc

same_first : (x y : ℕ) (xs ys : List ℕ) → x ∷ xs ≡ y ∷ ys → x ≡ y
same_first x y xs ys e = ap (λ l. get_or l 0 x) e

-- two lists are the same, and so are the bytes behind them
pub same_ends : (front text : List ℕ) (last byte : ℕ) → front ++ last ∷ [] ≡ text ++ byte ∷ []
    → (front ≡ text) × (last ≡ byte)
same_ends [] [] last byte e = (refl, same_first last byte [] [] e)
same_ends [] (y ∷ ys) last byte e = absurd (none_after ys byte (ap (drop 1) e))
same_ends (x ∷ xs) [] last byte e = absurd (none_after xs last (sym (ap (drop 1) e)))
same_ends (x ∷ xs) (y ∷ ys) last byte e =
    let rest = same_ends xs ys last byte (ap (drop 1) e) in
    let first = same_first x y (xs ++ last ∷ []) (ys ++ byte ∷ []) e in
    (ap (λ z. z ∷ xs) first ∙ ap (λ zs. y ∷ zs) rest.0, rest.1)

-- a text without a zero byte shows none
pub no_zero_found : (text : List ℕ) → HasNoZero text → list_any (λ byte. byte == 0) text ≡ false
no_zero_found [] none = refl
no_zero_found (byte ∷ text) none = simp (ne_eqb byte 0 none.0) (no_zero_found text none.1)
