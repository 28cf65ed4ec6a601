-- Values of which one is put in place of another.
use Rattle.std.proofs.Common.{◌≡◌, ◌∙◌, ℕ, zero, suc, ◌<◌, ◌≤◌, ◌+◌, Option, Some, None, IfSome, is_some, false, true, Result, Ok, Err, OnOk, OnErr, List, [], ◌∷◌, ◌++◌, length, take, add-one, get_or, set, refl, sym, ap, subst, arith}
use Rattle.std.specs.Borrow.{Bor}
use Rattle.std.proofs.lemmas.Bool.{true≢false, false≢true}
use Rattle.std.specs.Option.{option_map}
use Rattle.std.proofs.lemmas.List.{map-set, set-get_or, length-set, length-map, take_all, drop_all, append-nil}
use Rattle.startup.specs.StartupMessage.{HasNoZero}
use Rattle.tracked_parameters.specs.Values.{IsText, AreTexts, adopted, adopted_one, adopted_first}
use Rattle.tracked_parameters.specs.Stored.{kept, all_kept}
use Rattle.tracked_parameters.specs.declared.value.Value.{Value}
use Rattle.tracked_parameters.proofs.PlaceLemmas.{all_set}

-- bytes of which none is zero
pub is_text : (value : List ℕ) → HasNoZero value → ((i : ℕ) → get_or value i 0 < 256) → IsText value
is_text [] no_zero below = tt
is_text (byte ∷ value) no_zero below = ((no_zero.0, below 0), is_text value no_zero.1 (λ i. below (suc i)))

-- the one that is there
same_kept : (items : List Value) (place : ℕ) (old new : Value) → old ≡ get_or items place old → kept new ≡ kept old → all_kept (set items place new) ≡ all_kept items
same_kept items place old new is same =
    map-set kept items place new ∙ ap (λ (v : Option (List ℕ)). set (all_kept items) place v) same
    ∙ sym (map-set kept items place old) ∙ ap (λ (xs : List Value). all_kept xs) (ap (λ (v : Value). set items place v) is ∙ set-get_or items place old)

pub kept_set : {E : Type 0} (result : Result Unit E) (items : List Value) (place : ℕ) (new : Value) (value : List ℕ) (now : List (Option (List ℕ))) → all_kept items ≡ now → OnOk result (kept new ≡ Some value) → OnOk result (all_kept (set items place new) ≡ set now place (Some value))
kept_set (Ok x) items place new value now view ok =
    map-set kept items place new ∙ ap (λ (v : Option (List ℕ)). set (all_kept items) place v) ok
    ∙ ap (λ (vs : List (Option (List ℕ))). set vs place (Some value)) view
kept_set (Err e) items place new value now view ok = tt

pub kept_unset : {E : Type 0} (result : Result Unit E) (items : List Value) (place : ℕ) (old new : Value) (now : List (Option (List ℕ))) → all_kept items ≡ now → old ≡ get_or items place old → OnErr result (kept new ≡ kept old) → OnErr result (all_kept (set items place new) ≡ now)
kept_unset (Ok x) items place old new now view is err = tt
kept_unset (Err e) items place old new now view is err = same_kept items place old new is err ∙ view

pub texts_set : {E : Type 0} (result : Result Unit E) (items : List Value) (place : ℕ) (old new : Value) (value : List ℕ) → AreTexts (all_kept items) → HasNoZero value → ((i : ℕ) → get_or value i 0 < 256) → old ≡ get_or items place old → OnOk result (kept new ≡ Some value) → OnErr result (kept new ≡ kept old) → AreTexts (all_kept (set items place new))
texts_set (Ok x) items place old new value all no_zero below is ok err =
    subst AreTexts (sym (map-set kept items place new ∙ ap (λ (v : Option (List ℕ)). set (all_kept items) place v) ok))
    (all_set (λ v. IfSome v IsText) (all_kept items) place (Some value) all (is_text value no_zero below))
texts_set (Err e) items place old new value all no_zero below is ok err =
    subst AreTexts (sym (same_kept items place old new is err)) all

no_zero : (value : List ℕ) → IsText value → HasNoZero value
no_zero [] text = tt
no_zero (byte ∷ value) text = (text.0.0, no_zero value text.1)

text_of : (values : List (Option (List ℕ))) (place : ℕ) → AreTexts values → IfSome (get_or values place None) IsText
text_of [] place texts = tt
text_of (value ∷ values) zero texts = texts.0
text_of (value ∷ values) (suc place) texts = text_of values place texts.1

kept_at : (items : List Value) (place : ℕ) (value : Value) → place < length items → value ≡ get_or items place value → kept value ≡ get_or (all_kept items) place None
kept_at [] place value within is = absurd (omega arith)
kept_at (first ∷ items) zero value within is = ap kept is
kept_at (first ∷ items) (suc place) value within is = kept_at items place value (omega arith) is

-- the value at a place, as it is read there
pub read_at : (items : List Value) (now : List (Option (List ℕ))) (place : ℕ) (value : Value) (lent : Option (Bor (List ℕ))) → all_kept items ≡ now → place < length now → value ≡ get_or items place value → option_map (λ v. v.now) lent ≡ kept value → option_map (λ v. v.now) lent ≡ get_or now place None
read_at items now place value lent view within is kept_is =
    kept_is ∙ kept_at items place value (omega (arith, ap length view, length-map items kept)) is
    ∙ ap (λ (vs : List (Option (List ℕ))). get_or vs place None) view

-- a value that is lent has no zero byte
pub lent_text : (values : List (Option (List ℕ))) (place : ℕ) (lent : Option (Bor (List ℕ))) → AreTexts values → option_map (λ value. value.now) lent ≡ get_or values place None → IfSome lent (λ value. HasNoZero value.now)
lent_text values place None texts is = tt
lent_text values place (Some value) texts is =
    no_zero value.now (subst (λ (v : Option (List ℕ)). IfSome v IsText) (sym is) (text_of values place texts))

pub length-adopted : (wanted present : List (Option (List ℕ))) → length (adopted wanted present) ≡ length wanted
length-adopted [] present = refl
length-adopted (value ∷ wanted) [] = refl
length-adopted (value ∷ wanted) (there ∷ present) = ap (λ (n : ℕ). suc n) (length-adopted wanted present)

-- one more that is taken over
step : (wanted present : List (Option (List ℕ))) (place : ℕ) → place < length wanted → length wanted ≡ length present
    → set (adopted_first place wanted present) place (adopted_one (get_or (adopted_first place wanted present) place None) (get_or present place None)) ≡ adopted_first (suc place) wanted present
step [] present place within same = absurd (omega arith)
step (value ∷ wanted) [] place within same = absurd (omega arith)
step (value ∷ wanted) (there ∷ present) zero within same = refl
step (value ∷ wanted) (there ∷ present) (suc place) within same =
    ap (λ (vs : List (Option (List ℕ))). adopted_one value there ∷ vs) (step wanted present place (omega arith) (omega arith))

pub adopt_step : (wanted present now new : List (Option (List ℕ))) (place : ℕ) → place < length wanted → length wanted ≡ length present → now ≡ adopted_first place wanted present
    → new ≡ set now place (adopted_one (get_or now place None) (get_or present place None)) → new ≡ adopted_first (place + 1) wanted present
adopt_step wanted present now new place within same is made =
    made ∙ ap (λ (vs : List (Option (List ℕ))). set vs place (adopted_one (get_or vs place None) (get_or present place None))) is
    ∙ step wanted present place within same ∙ ap (λ (n : ℕ). adopted_first n wanted present) (sym (add-one place))

is_nothing : {A : Type 0} (o : Option A) → is_some o ≡ false → o ≡ None
is_nothing None is = refl
is_nothing (Some x) is = absurd (true≢false is)

-- a place at which nothing is taken over
pub kept_none : (values present : List (Option (List ℕ))) (place : ℕ) (value : Option (Bor (List ℕ))) → option_map (λ v. v.now) value ≡ get_or values place None → is_some value ≡ false → values ≡ set values place (adopted_one (get_or values place None) (get_or present place None))
kept_none values present place value is none =
    let here : get_or values place None ≡ None = sym is ∙ ap (option_map (λ v. v.now)) (is_nothing value none) in
    sym (ap (λ (v : Option (List ℕ)). set values place (adopted_one v (get_or present place None))) here
    ∙ ap (λ (v : Option (List ℕ)). set values place v) (sym here) ∙ set-get_or values place None)

adopts_nothing : (value there : Option (List ℕ)) → there ≡ None → adopted_one value there ≡ value
adopts_nothing None there none = refl
adopts_nothing (Some value) None none = refl
adopts_nothing (Some value) (Some other) none = absurd (cc)

pub kept_unknown : (values present : List (Option (List ℕ))) (place : ℕ) (there : Option (Bor (List ℕ))) → option_map (λ v. v.now) there ≡ get_or present place None → there ≡ None → values ≡ set values place (adopted_one (get_or values place None) (get_or present place None))
kept_unknown values present place there is none =
    let absent : get_or present place None ≡ None = sym is ∙ ap (option_map (λ v. v.now)) none in
    sym (ap (λ (v : Option (List ℕ)). set values place v) (adopts_nothing (get_or values place None) (get_or present place None) absent) ∙ set-get_or values place None)

pub length-set_at : (values new : List (Option (List ℕ))) (place : ℕ) (value : Option (List ℕ)) → new ≡ set values place value → length new ≡ length values
length-set_at values new place value made = ap length made ∙ length-set values place value

-- all are taken over
pub adopt_all : (wanted present : List (Option (List ℕ))) (count : ℕ) → length wanted ≤ count → adopted_first count wanted present ≡ adopted wanted present
adopt_all wanted present count all =
    ap (λ (vs : List (Option (List ℕ))). take count (adopted wanted present) ++ vs) (drop_all count wanted all)
    ∙ append-nil (take count (adopted wanted present))
    ∙ take_all count (adopted wanted present) (omega (arith, length-adopted wanted present))

takes : (own : Option (Bor (List ℕ))) (wanted : Option (List ℕ)) (there : List ℕ) → option_map (λ v. v.now) own ≡ wanted → is_some own ≡ true → adopted_one wanted (Some there) ≡ Some there
takes None wanted there is some = absurd (false≢true some)
takes (Some value) wanted there is some = ap (λ (v : Option (List ℕ)). adopted_one v (Some there)) (sym is)

-- a place at which a value is taken over
pub taken : {E : Type 0} (result : Result Unit E) (values present new : List (Option (List ℕ))) (place : ℕ) (own there : Option (Bor (List ℕ))) (value : Bor (List ℕ)) → option_map (λ v. v.now) own ≡ get_or values place None → is_some own ≡ true
    → option_map (λ v. v.now) there ≡ get_or present place None → there ≡ Some value → OnOk result (new ≡ set values place (Some value.now))
    → OnOk result (new ≡ set values place (adopted_one (get_or values place None) (get_or present place None)))
taken (Err e) values present new place own there value is some found here made = tt
taken (Ok x) values present new place own there value is some found here made =
    let present_is : get_or present place None ≡ Some value.now = sym found ∙ ap (option_map (λ v. v.now)) here in
    made ∙ ap (λ (v : Option (List ℕ)). set values place v)
    (sym (ap (λ (v : Option (List ℕ)). adopted_one (get_or values place None) v) present_is ∙ takes own (get_or values place None) value.now is some))
