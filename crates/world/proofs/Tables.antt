-- Keys by place, where equal keys are the same.
use Rattle.std.proofs.Common.{◌≡◌, ◌≢◌, ◌++◌, IfSome, ℕ, suc, ◌<◌, Bool, true, false, cond, List, [], ◌∷◌, Option, Some, None, length, get_or, refl, ap, sym, ◌∙◌, arith, position, nat_lt, map}
use Rattle.std.specs.List.{slice_get, list_any, IsDistinct, position_or_len}
use Rattle.indexmap.specs.IndexSet.{insert_key}
use Rattle.std.specs.Cmp.{IsEquivalence}
use Rattle.std.proofs.lemmas.Option.{same_Some, none-some, slice_get-get_or, get_or_from_slice_get, slice_get_within}
use Rattle.std.proofs.lemmas.List.Quantifiers.{position-Some}
use Rattle.std.proofs.lemmas.List.Sums.{position_or_len_is}
use Rattle.std.proofs.lemmas.Map.Keys.{apart_from_distinct}
use Rattle.std.proofs.lemmas.Grind.{common_steps}
use Rattle.world.specs.declared.table.Found.{Found}
use Rattle.world.proofs.Lists.{read_map, from_map}

-- a test that no element passes
none_passes : {K : Type 0} (p : K → Bool) (ks : List K)
    → ((place : ℕ) (k : K) → slice_get ks place ≡ Some k → p k ≡ false) → list_any p ks ≡ false
none_passes p [] fails = refl
none_passes p (k ∷ ks) fails =
    let here = fails 0 k refl in
    let later = none_passes p ks (λ place x h. fails (suc place) x h) in
    grind (arith, common_steps, here, later)

-- a new key goes last
pub added_last : {K : Type 0} (eq : K → K → Bool) (ks now new : List K) (key : K)
    → list_any (eq key) now ≡ false → ks ≡ now → new ≡ insert_key eq ks key → new ≡ now ++ key ∷ []
added_last eq ks now new key absent same h =
    h ∙ ap (λ l. insert_key eq l key) same
    ∙ ap (λ b. cond b now (now ++ key ∷ [])) absent

module _ {K : Type 0} (eq : K → K → Bool) (laws : IsEquivalence eq)
    (exact : (a b : K) → eq a b ≡ true → a ≡ b) where
  -- the key that is found is the one that was asked for
  pub found_there : (ks : List K) (key : K) (place : ℕ) → position (eq key) ks ≡ Some place
      → slice_get ks place ≡ Some key
  found_there ks key place h =
      let at = position-Some (eq key) ks place key h in
      let is = exact key (get_or ks place key) at.1 in
      slice_get-get_or ks place key at.0 ∙ ap Some (sym is)

  -- where a key stands, it is found
  pub found_only : (ks : List K) → IsDistinct eq ks → (key : K) (place : ℕ)
      → slice_get ks place ≡ Some key → position (eq key) ks ≡ Some place
  found_only ks distinct key place h =
      let within = slice_get_within ks place key h in
      let is : get_or ks place key ≡ key = get_or_from_slice_get ks place key key h in
      let first : position_or_len (eq key) ks ≡ place =
      position_or_len_is (eq key) ks place key (omega arith)
      (λ k below. laws.symm key (get_or ks k key)
      ∙ ap (λ (x : K). eq (get_or ks k key) x) (sym is)
      ∙ apart_from_distinct eq ks k place key distinct below within)
      (λ below. ap (λ (x : K). eq key x) is ∙ laws.refl key) in
      rw first (inside place (length ks) within)
    where
      inside : (i n : ℕ) → i < n → cond (nat_lt i n) (Some i) None ≡ Some i
      inside i n h = grind (arith, common_steps)

  -- a key that stands nowhere is no member
  pub no_member : (ks : List K) (key : K) → ((place : ℕ) → slice_get ks place ≢ Some key)
      → list_any (eq key) ks ≡ false
  no_member ks key nowhere = none_passes (eq key) ks (λ place k h. by place k h (eq key k) refl)
    where
      by : (place : ℕ) (k : K) → slice_get ks place ≡ Some k → (b : Bool) → eq key k ≡ b → eq key k ≡ false
      by place k h false e = e
      by place k h true e = absurd (nowhere place (h ∙ ap Some (sym (exact key k e))))

  pub answer_there : (r : Option ℕ) (ks now : List K) (key : K) → r ≡ position (eq key) ks → ks ≡ now
      → IfSome r (λ place. slice_get now place ≡ Some key)
  answer_there None ks now key h same = tt
  answer_there (Some place) ks now key h same =
      ap (λ (l : List K). slice_get l place) (sym same) ∙ found_there ks key place (sym h)

  pub answer_only : (r : Option ℕ) (ks now : List K) (key : K) → IsDistinct eq ks
      → r ≡ position (eq key) ks → ks ≡ now → (place : ℕ) → slice_get now place ≡ Some key
      → r ≡ Some place
  answer_only r ks now key distinct h same place there =
      h ∙ found_only ks distinct key place (ap (λ (l : List K). slice_get l place) same ∙ there)

-- rows, and their keys in the same order
module _ {R K : Type 0} (f : R → K) (inside now : List R) (keys : List K) (tied : map f inside ≡ keys)
    (same : inside ≡ now) where
  -- at the place of a row there is its key
  pub key_there : (place : ℕ) (row : R) (key : K) → slice_get now place ≡ Some row → f row ≡ key
      → slice_get keys place ≡ Some key
  key_there place row key there is =
      ap (λ (l : List K). slice_get l place) (sym tied)
      ∙ read_map f inside place row (ap (λ (l : List R). slice_get l place) same ∙ there)
      ∙ ap (λ (k : K). Some k) is

  -- at the place of a key there is a row with it
  pub row_there : (place : ℕ) (key : K) → slice_get keys place ≡ Some key
      → (row : R) × (slice_get now place ≡ Some row) × (f row ≡ key)
  row_there place key there =
      let h = from_map f inside place key (ap (λ (l : List K). slice_get l place) tied ∙ there) in
      (h.0, ap (λ (l : List R). slice_get l place) (sym same) ∙ h.1, h.2)

  -- a key that no row has is not among them
  pub no_key : (key : K) → ((place : ℕ) (row : R) → slice_get now place ≡ Some row → f row ≢ key)
      → (place : ℕ) → slice_get keys place ≢ Some key
  no_key key fresh place there = let h = row_there place key there in fresh place h.0 h.1 h.2

  -- a row that is read at the place of a key is there
  pub row_read : (place : ℕ) (key : K) → slice_get keys place ≡ Some key → slice_get now place ≢ None
  row_read place key there none = let h = row_there place key there in none-some h.0 (sym none ∙ h.1)

  -- the row at the place of a key has it
  pub row_has : (place : ℕ) (key : K) (row : R) → slice_get keys place ≡ Some key
      → slice_get now place ≡ Some row → f row ≡ key
  row_has place key row there at =
      let h = row_there place key there in
      ap f (same_Some row h.0 (sym at ∙ h.1)) ∙ h.2

-- one place has one row
pub same_found : {R : Type 0} (rows : List R) (p q : ℕ) (x y : R) → p ≡ q → slice_get rows p ≡ Some x
    → slice_get rows q ≡ Some y
    → ◌≡◌ {A = Option (Found R)} (Some record { place = p; row = x }) (Some record { place = q; row = y })
same_found {R} rows p q x y same at_p at_q =
    let row : x ≡ y = same_Some x y (sym at_p ∙ ap (slice_get rows) same ∙ at_q) in
    ap (λ (n : ℕ). let f : Found R = record { place = n; row = x } in Some f) same
    ∙ ap (λ (z : R). let f : Found R = record { place = q; row = z } in Some f) row
