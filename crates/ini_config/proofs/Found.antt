-- A key that is found in a map, and an element that a list has.
use Rattle.std.proofs.Common.{◌≡◌, ℕ, Bool, true, false, cond, ◌||◌, List, [], ◌∷◌, length, map, Option, Some, is_some, refl, sym, ap, subst, ◌∙◌}
use Rattle.std.specs.List.{list_any}
use Rattle.std.specs.Map.{lookup}
use Rattle.std.specs.Prelude.{Result}
use Rattle.std.proofs.lemmas.List.{length-map}
use Rattle.ini_config.specs.declared.fault.IniCode.{IniCode}
use Rattle.ini_config.specs.Reads.{Answers}
use Rattle.ini_config.specs.Settings.{one_more}

found : {X : Type 0} (b : Bool) (x : X) (o : Option X) (rest : Bool) → is_some o ≡ rest → is_some (cond b (Some x) o) ≡ (b || rest)
found true x o rest e = refl
found false x o rest e = e

module _ {K V D : Type 0} (test : K → Bool) (p : D → Bool) (see : K × V → D) (same : (e : K × V) → test e.0 ≡ p (see e)) where
  -- a key that passes is found where the list of what is seen has an element that passes
  pub found-seen : (es : List (K × V)) → is_some (lookup test es) ≡ list_any p (map see es)
  found-seen [] = refl
  found-seen (e ∷ es) = found (test e.0) e.1 (lookup test es) (list_any p (map see es)) (found-seen es) ∙ ap (λ b. b || list_any p (map see es)) (same e)

  -- so there is room for one more entry in the map where there is in the list
  pub room-seen : (es : List (K × V)) (given : Bool) (count : ℕ) (result : Result (Unit {0}) IniCode) → given ≡ is_some (lookup test es) → count ≡ length es → Answers (λ _. count) result (one_more given count)
      → Answers (λ _. length es) result (one_more (list_any p (map see es)) (length (map see es)))
  room-seen es given count result is len h =
      subst (λ n. Answers (λ _. n) result (one_more (list_any p (map see es)) (length (map see es)))) len
      (subst (λ n. Answers (λ _. count) result (one_more (list_any p (map see es)) n)) (len ∙ sym (length-map es see))
      (subst (λ b. Answers (λ _. count) result (one_more b count)) (is ∙ found-seen es) h))
