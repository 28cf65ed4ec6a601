-- What a client wants at a server connection.
use Rattle.std.proofs.Common.{◌≡◌, ◌∙◌, ℕ, zero, suc, ◌<◌, ◌+◌, Bool, true, false, Option, Some, None, IfSome, is_some, Result, Ok, Err, OnOk, List, [], ◌∷◌, length, get_or, refl, sym, ap, subst, arith}
use Rattle.std.specs.Borrow.{Bor}
use Rattle.std.specs.Option.{option_map}
use Rattle.std.proofs.lemmas.Bool.{true≢false, false≢true}
use Rattle.tracked_parameters.specs.Values.{IsText, AreTexts, Agree}
use Rattle.tracked_parameters.specs.Settings.{difference}
use Rattle.tracked_parameters.specs.Stored.{is_there, joined}
use Rattle.tracked_parameters.specs.Client.{updated, updated_one, wanted_one, wanted_values}

pub get_or-wanted : (own login current : List (Option (List ℕ))) (place : ℕ) → place < length own → length login ≡ length own → length current ≡ length own
    → get_or (wanted_values own login current) place None ≡ wanted_one (get_or own place None) (get_or login place None) (get_or current place None)
get_or-wanted [] login current place within a b = absurd (omega arith)
get_or-wanted (own ∷ owns) [] current place within a b = absurd (omega arith)
get_or-wanted (own ∷ owns) (login ∷ logins) [] place within a b = absurd (omega arith)
get_or-wanted (own ∷ owns) (login ∷ logins) (there ∷ current) zero within a b = refl
get_or-wanted (own ∷ owns) (login ∷ logins) (there ∷ current) (suc place) within a b =
    get_or-wanted owns logins current place (omega arith) (omega arith) (omega arith)

pub length-wanted : (own login current : List (Option (List ℕ))) → length login ≡ length own → length current ≡ length own → length (wanted_values own login current) ≡ length own
length-wanted [] login current a b = refl
length-wanted (own ∷ owns) [] current a b = absurd (omega arith)
length-wanted (own ∷ owns) (login ∷ logins) [] a b = absurd (omega arith)
length-wanted (own ∷ owns) (login ∷ logins) (there ∷ current) a b =
    ap (λ (n : ℕ). suc n) (length-wanted owns logins current (omega arith) (omega arith))

text_wanted : (own login there : Option (List ℕ)) → IfSome own IsText → IfSome login IsText → IfSome (wanted_one own login there) IsText
text_wanted own login None a b = tt
text_wanted None login (Some there) a b = b
text_wanted (Some own) login (Some there) a b = a

-- what is wanted is texts
pub texts_wanted : (own login current : List (Option (List ℕ))) → AreTexts own → AreTexts login → AreTexts (wanted_values own login current)
texts_wanted [] login current a b = tt
texts_wanted (own ∷ owns) [] current a b = tt
texts_wanted (own ∷ owns) (login ∷ logins) [] a b = tt
texts_wanted (own ∷ owns) (login ∷ logins) (there ∷ current) a b =
    (text_wanted own login there a.0 b.0, texts_wanted owns logins current a.1 b.1)

-- whether a parameter has the value that is wanted, as it was read
pub wanted_there : (own login current : List (Option (List ℕ))) (place : ℕ) (o l t : Option (List ℕ)) (is : Bool) → place < length own → length login ≡ length own → length current ≡ length own
    → o ≡ get_or own place None → l ≡ get_or login place None → t ≡ get_or current place None → is ≡ is_there (wanted_one o l t) t
    → is_there (get_or (wanted_values own login current) place None) (get_or current place None) ≡ is
wanted_there own login current place o l t is within a b eo el et made =
    ap (λ (w : Option (List ℕ)). is_there w (get_or current place None)) (get_or-wanted own login current place within a b)
    ∙ sym (made ∙ ap (λ (v : Option (List ℕ)). is_there (wanted_one v l t) t) eo ∙ ap (λ (v : Option (List ℕ)). is_there (wanted_one (get_or own place None) v t) t) el
    ∙ ap (λ (v : Option (List ℕ)). is_there (wanted_one (get_or own place None) (get_or login place None) v) v) et)

-- a client that follows a connection finds its values there
pub followed_has : (own login current : List (Option (List ℕ))) → length login ≡ length own → length current ≡ length own → Agree (wanted_values (updated own current) login current) current
followed_has [] login current a b = tt
followed_has (own ∷ owns) [] current a b = absurd (omega arith)
followed_has (own ∷ owns) (login ∷ logins) [] a b = absurd (omega arith)
followed_has (own ∷ owns) (login ∷ logins) (None ∷ current) a b = (tt, followed_has owns logins current (omega arith) (omega arith))
followed_has (own ∷ owns) (login ∷ logins) (Some there ∷ current) a b = (refl, followed_has owns logins current (omega arith) (omega arith))

-- the same of a client whose values are those that it took over
pub follows : {E : Type 0} (result : Result Unit E) (new own login current there : List (Option (List ℕ))) → there ≡ current → length login ≡ length current → length own ≡ length current → OnOk result (new ≡ updated own there) → OnOk result (Agree (wanted_values new login current) current)
follows (Err e) new own login current there is a b made = tt
follows (Ok x) new own login current there is a b made =
    subst (λ (vs : List (Option (List ℕ))). Agree (wanted_values vs login current) current) (sym (made ∙ ap (λ (vs : List (Option (List ℕ))). updated own vs) is))
    (followed_has own login current (omega (arith, a, b)) (omega (arith, b)))
