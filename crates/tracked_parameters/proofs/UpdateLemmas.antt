-- Values with others in their place.
use Rattle.std.proofs.Common.{◌≡◌, ◌∙◌, ℕ, zero, suc, ◌<◌, ◌≤◌, ◌+◌, Option, Some, None, IfSome, is_some, Result, Ok, Err, OnOk, List, [], ◌∷◌, ◌++◌, length, take, replicate, add-one, get_or, set, refl, sym, ap, subst, arith}
use Rattle.std.specs.Borrow.{Bor}
use Rattle.std.specs.Option.{option_map}
use Rattle.std.proofs.lemmas.List.{map-set, set-get_or, take_all, drop_all, append-nil}
use Rattle.tracked_parameters.specs.Values.{IsText, AreTexts, Agree}
use Rattle.tracked_parameters.specs.Stored.{kept, all_kept}
use Rattle.tracked_parameters.specs.Client.{updated, updated_one, updated_first}
use Rattle.tracked_parameters.specs.declared.value.Value.{Value}
use Rattle.tracked_parameters.proofs.PlaceLemmas.{all_set}

-- a value of which nothing is known any more
forgotten_at : (items : List Value) (place : ℕ) (new : Value) → kept new ≡ None → all_kept (set items place new) ≡ set (all_kept items) place None
forgotten_at items place new is = map-set kept items place new ∙ ap (λ (v : Option (List ℕ)). set (all_kept items) place v) is

pub kept_forgotten : (items : List Value) (place : ℕ) (new : Value) (now : List (Option (List ℕ))) → all_kept items ≡ now → kept new ≡ None → all_kept (set items place new) ≡ set now place None
kept_forgotten items place new now view is =
    forgotten_at items place new is ∙ ap (λ (vs : List (Option (List ℕ))). set vs place None) view

pub texts_forgotten : (items : List Value) (place : ℕ) (new : Value) → AreTexts (all_kept items) → kept new ≡ None → AreTexts (all_kept (set items place new))
texts_forgotten items place new all is =
    subst AreTexts (sym (forgotten_at items place new is)) (all_set (λ v. IfSome v IsText) (all_kept items) place None all tt)

pub length-updated : (values others : List (Option (List ℕ))) → length (updated values others) ≡ length values
length-updated [] others = refl
length-updated (value ∷ values) [] = refl
length-updated (value ∷ values) (other ∷ others) = ap (λ (n : ℕ). suc n) (length-updated values others)

-- one more that is taken over
step : (values others : List (Option (List ℕ))) (place : ℕ) → place < length values → length values ≡ length others
    → set (updated_first place values others) place (updated_one (get_or (updated_first place values others) place None) (get_or others place None)) ≡ updated_first (suc place) values others
step [] others place within same = absurd (omega arith)
step (value ∷ values) [] place within same = absurd (omega arith)
step (value ∷ values) (other ∷ others) zero within same = refl
step (value ∷ values) (other ∷ others) (suc place) within same =
    ap (λ (vs : List (Option (List ℕ))). updated_one value other ∷ vs) (step values others place (omega arith) (omega arith))

pub update_step : (values others now new : List (Option (List ℕ))) (place : ℕ) → place < length values → length values ≡ length others → now ≡ updated_first place values others
    → new ≡ set now place (updated_one (get_or now place None) (get_or others place None)) → new ≡ updated_first (place + 1) values others
update_step values others now new place within same is made =
    made ∙ ap (λ (vs : List (Option (List ℕ))). set vs place (updated_one (get_or vs place None) (get_or others place None))) is
    ∙ step values others place within same ∙ ap (λ (n : ℕ). updated_first n values others) (sym (add-one place))

-- all are taken over
pub update_all : (values others : List (Option (List ℕ))) (count : ℕ) → length values ≤ count → updated_first count values others ≡ updated values others
update_all values others count all =
    ap (λ (vs : List (Option (List ℕ))). take count (updated values others) ++ vs) (drop_all count values all)
    ∙ append-nil (take count (updated values others))
    ∙ take_all count (updated values others) (omega (arith, length-updated values others))

-- where the others are there already nothing is taken over
pub update_none : (values others : List (Option (List ℕ))) → length values ≡ length others → Agree others values → values ≡ updated values others
update_none [] others same agree = refl
update_none (value ∷ values) [] same agree = refl
update_none (value ∷ values) (None ∷ others) same agree =
    ap (λ (vs : List (Option (List ℕ))). value ∷ vs) (update_none values others (omega arith) agree.1)
update_none (value ∷ values) (Some other ∷ others) same agree =
    ap (λ (v : Option (List ℕ)). v ∷ values) agree.0
    ∙ ap (λ (vs : List (Option (List ℕ))). Some other ∷ vs) (update_none values others (omega arith) agree.1)

-- in the place of nothing the others stand as they are
pub update_unknown : (values : List (Option (List ℕ))) → updated (replicate (length values) None) values ≡ values
update_unknown [] = refl
update_unknown (None ∷ values) = ap (λ (vs : List (Option (List ℕ))). None ∷ vs) (update_unknown values)
update_unknown (Some value ∷ values) = ap (λ (vs : List (Option (List ℕ))). Some value ∷ vs) (update_unknown values)

-- a copy
pub copied : (values unknown new : List (Option (List ℕ))) (count : ℕ) → count ≡ length values → unknown ≡ replicate count None → new ≡ updated unknown values → new ≡ values
copied values unknown new count is none made =
    made ∙ ap (λ (vs : List (Option (List ℕ))). updated vs values) (none ∙ ap (λ (n : ℕ). replicate n None) is) ∙ update_unknown values

-- a place at which nothing is taken over
pub update_unreported : (values others : List (Option (List ℕ))) (place : ℕ) (there : Option (Bor (List ℕ))) → option_map (λ v. v.now) there ≡ get_or others place None → there ≡ None → values ≡ set values place (updated_one (get_or values place None) (get_or others place None))
update_unreported values others place there is none =
    let absent : get_or others place None ≡ None = sym is ∙ ap (option_map (λ v. v.now)) none in
    sym (ap (λ (v : Option (List ℕ)). set values place (updated_one (get_or values place None) v)) absent ∙ set-get_or values place None)

-- a place at which a value is taken over
pub update_taken : {E : Type 0} (result : Result Unit E) (values others new : List (Option (List ℕ))) (place : ℕ) (there : Option (Bor (List ℕ))) (value : Bor (List ℕ)) → option_map (λ v. v.now) there ≡ get_or others place None → there ≡ Some value
    → OnOk result (new ≡ set values place (Some value.now)) → OnOk result (new ≡ set values place (updated_one (get_or values place None) (get_or others place None)))
update_taken (Err e) values others new place there value is found made = tt
update_taken (Ok x) values others new place there value is found made =
    let present : get_or others place None ≡ Some value.now = sym is ∙ ap (option_map (λ v. v.now)) found in
    made ∙ sym (ap (λ (v : Option (List ℕ)). set values place (updated_one (get_or values place None) v)) present)
