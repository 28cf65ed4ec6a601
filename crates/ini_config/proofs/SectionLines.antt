-- The brackets of a section line.
use Rattle.std.proofs.Common.{◌≡◌, ℕ, suc, ◌-◌, List, [], ◌∷◌, ◌++◌, length, get_or, take, Option, Some, None, Bor, refl, sym, ap, ◌∙◌, arith}
use Rattle.std.specs.Prelude.{MatchOption}
use Rattle.std.specs.Option.{option_map}
use Rattle.std.proofs.lemmas.Bool.{ne_eqb, eq-eqb}
use Rattle.std.proofs.lemmas.Grind.{common_steps}
use Rattle.ini_config.specs.Settings.{bracketed}

pub bracketed-no_first : (line : List ℕ) → ((rest : List ℕ) → line ≡ 91 ∷ rest → ⊥) → bracketed line ≡ None
unfolding bracketed
bracketed-no_first [] h = refl
bracketed-no_first (b ∷ bs) h = rw (ne_eqb b 91 (λ e. h bs (ap (λ c. c ∷ bs) e))) refl

-- a list's last element
ends_with : (bs : List ℕ) (c : ℕ) → get_or bs (length bs - 1) 0 ≡ suc c → bs ≡ take (length bs - 1) bs ++ suc c ∷ []
ends_with [] c e = cc
ends_with (b ∷ bs) c e = grind (arith, common_steps)

bracketed-no_last : (rest : List ℕ) → ((front : List ℕ) → rest ≡ front ++ 93 ∷ [] → ⊥) → bracketed (91 ∷ rest) ≡ None
unfolding bracketed
bracketed-no_last rest h = rw (ne_eqb (get_or rest (length rest - 1) 0) 93 (λ e. h (take (length rest - 1) rest) (ends_with rest 92 e))) refl

bracketed-both : (name rest : List ℕ) → rest ≡ name ++ 93 ∷ [] → bracketed (91 ∷ rest) ≡ Some name
unfolding bracketed
bracketed-both name rest e =
    let last : get_or rest (length rest - 1) 0 ≡ 93 = grind (arith, common_steps) in
    let front : take (length rest - 1) rest ≡ name = grind (arith, common_steps) in
    rw (eq-eqb (get_or rest (length rest - 1) 0) 93 last, front) refl

-- after a first bracket
pub bracketed-after : (line rest : List ℕ) (r : Option (Bor (List ℕ))) → line ≡ 91 ∷ rest → MatchOption r ((front : List ℕ) → rest ≡ front ++ 93 ∷ [] → ⊥) (λ x. rest ≡ x.now ++ 93 ∷ [])
    → option_map (λ (x : Bor (List ℕ)). x.now) r ≡ bracketed line
bracketed-after line rest None e h = sym (ap bracketed e ∙ bracketed-no_last rest h)
bracketed-after line rest (Some x) e h = sym (ap bracketed e ∙ bracketed-both x.now rest h)
