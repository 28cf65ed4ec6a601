-- What a server connection has reported.
use Rattle.std.proofs.Common.{◌≡◌, ◌∙◌, ℕ, ◌<◌, ◌+◌, Bool, true, false, not, ◌&&◌, ◌||◌, Option, Some, None, is_some, List, [], ◌∷◌, length, drop, get_or, refl, sym, ap, arith}
use Rattle.std.specs.Borrow.{Bor}
use Rattle.std.specs.Option.{option_map}
use Rattle.std.proofs.lemmas.List.{drop_more}
use Rattle.tracked_parameters.specs.Server.{are_known}

-- whether all from a place on are known
known_more : (reported : List Bool) (values : List (Option (List ℕ))) (place : ℕ) → place < length values → length reported ≡ length values
    → are_known (drop place reported) (drop place values)
    ≡ ((not (get_or reported place false) || is_some (get_or values place None)) && are_known (drop (place + 1) reported) (drop (place + 1) values))
known_more reported values place within same =
    ap (λ (rs : List Bool). are_known rs (drop place values)) (drop_more reported place false (omega arith))
    ∙ ap (λ (vs : List (Option (List ℕ))). are_known (get_or reported place false ∷ drop (place + 1) reported) vs) (drop_more values place None within)

-- one more is known
pub known_step : (reported : List Bool) (values : List (Option (List ℕ))) (place : ℕ) (all : Bool) → place < length values → length reported ≡ length values
    → (not (get_or reported place false) || is_some (get_or values place None)) ≡ true → are_known (drop place reported) (drop place values) ≡ all → are_known (drop (place + 1) reported) (drop (place + 1) values) ≡ all
known_step reported values place all within same known is =
    sym (known_more reported values place within same ∙ ap (λ (b : Bool). b && are_known (drop (place + 1) reported) (drop (place + 1) values)) known) ∙ is

-- a parameter of which a value was read
pub read_known : (reported : Bool) (value : Option (List ℕ)) (found : Option (Bor (List ℕ))) → option_map (λ v. v.now) found ≡ value → is_some found ≡ true → (not reported || is_some value) ≡ true
read_known false value found is some = refl
read_known true value None is some = absurd (cc)
read_known true value (Some found) is some = ap is_some (sym is)

-- a parameter that wasn't reported
pub unreported_known : (reported : Bool) (value : Option (List ℕ)) → reported ≡ false → (not reported || is_some value) ≡ true
unreported_known false value is = refl
unreported_known true value is = absurd (cc)
