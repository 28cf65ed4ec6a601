-- The numbers that a node lists, as a loop over the nodes collects them.
use Rattle.std.proofs.Common.{◌≡◌, ℕ, zero, suc, ◌+◌, ◌<◌, ◌≤◌, Bool, true, false, not, cond, ◌||◌, ◌&&◌, eqb, List, [], ◌∷◌, ◌++◌, length, get_or, take, filter, refl, sym, ap, ◌∙◌, subst, arith}
use Rattle.std.specs.Prelude.{All, AllPairs, Contains}
use Rattle.std.specs.List.{list_any}
use Rattle.std.proofs.lemmas.Bool.{eqb-true, eqb-false, eq-eqb, ne_eqb, false≢true}
use Rattle.std.proofs.lemmas.List.{take_more, map_push, append-nil}
use Rattle.std.proofs.lemmas.List.Elements.{filter-append, All-filter, filter_passes}
use Rattle.std.proofs.lemmas.List.Filters.{length-filter_both}
use Rattle.std.proofs.lemmas.List.Kept.{AllPairs-cons, AllPairs-filter}
use Rattle.world_script.specs.Peers.{NodeLine, once_each, is_listed, peers_of, numbers_of, with_peer}

-- ---- one number more

-- a number, unless it is among these
abbrev fresh : ℕ → List ℕ → List ℕ
fresh x ys = cond (list_any (λ m. eqb m x) ys) [] (x ∷ [])

any_other : (n x : ℕ) → (x ≡ n → ⊥) → (ys : List ℕ) → list_any (λ m. eqb m x) (filter (λ m. not (eqb m n)) ys) ≡ list_any (λ m. eqb m x) ys
any_other n x other [] = refl
any_other n x other (y ∷ ys) = by (eqb y n) refl (any_other n x other ys)
  where
    by : (t : Bool) → eqb y n ≡ t → list_any (λ m. eqb m x) (filter (λ m. not (eqb m n)) ys) ≡ list_any (λ m. eqb m x) ys
        → list_any (λ m. eqb m x) (cond (not t) (y ∷ filter (λ m. not (eqb m n)) ys) (filter (λ m. not (eqb m n)) ys)) ≡ (eqb y x || list_any (λ m. eqb m x) ys)
    by true same more =
        let e : y ≡ n = eqb-true y n same in
        let no : eqb y x ≡ false = ne_eqb y x (λ f. other (sym f ∙ e)) in
        more ∙ ap (λ t. t || list_any (λ m. eqb m x) ys) (sym no)
    by false differs more = ap (λ t. eqb y x || t) more

-- the number itself isn't kept
fresh_same : (x : ℕ) (ys : List ℕ) → filter (λ m. not (eqb m x)) (fresh x ys) ≡ fresh x (x ∷ filter (λ m. not (eqb m x)) ys)
fresh_same x ys = by (list_any (λ m. eqb m x) ys)
  where
    same : eqb x x ≡ true
    same = eq-eqb x x refl

    by : (t : Bool) → filter (λ m. not (eqb m x)) (cond t [] (x ∷ [])) ≡ cond (eqb x x || list_any (λ m. eqb m x) (filter (λ m. not (eqb m x)) ys)) [] (x ∷ [])
    by true = rw same refl
    by false = rw same refl

fresh_other : (n x : ℕ) (ys : List ℕ) → (x ≡ n → ⊥) → filter (λ m. not (eqb m n)) (fresh x ys) ≡ fresh x (n ∷ filter (λ m. not (eqb m n)) ys)
fresh_other n x ys other = by (list_any (λ m. eqb m x) ys) ∙ ap (λ t. cond t [] (x ∷ [])) (sym any)
  where
    any : list_any (λ m. eqb m x) (n ∷ filter (λ m. not (eqb m n)) ys) ≡ list_any (λ m. eqb m x) ys
    any = ap (λ t. t || list_any (λ m. eqb m x) (filter (λ m. not (eqb m n)) ys)) (ne_eqb n x (λ e. other (sym e))) ∙ any_other n x other ys

    by : (t : Bool) → filter (λ m. not (eqb m n)) (cond t [] (x ∷ [])) ≡ cond t [] (x ∷ [])
    by true = refl
    by false = rw (ne_eqb x n other) refl

fresh_filter : (n x : ℕ) (ys : List ℕ) → filter (λ m. not (eqb m n)) (fresh x ys) ≡ fresh x (n ∷ filter (λ m. not (eqb m n)) ys)
fresh_filter n x ys = by (eqb x n) refl
  where
    by : (t : Bool) → eqb x n ≡ t → filter (λ m. not (eqb m n)) (fresh x ys) ≡ fresh x (n ∷ filter (λ m. not (eqb m n)) ys)
    by true same = subst (λ k. filter (λ m. not (eqb m k)) (fresh x ys) ≡ fresh x (k ∷ filter (λ m. not (eqb m k)) ys)) (eqb-true x n same) (fresh_same x ys)
    by false differs = fresh_other n x ys (eqb-false x n differs)

once_each_push : (xs : List ℕ) (x : ℕ) → once_each (xs ++ x ∷ []) ≡ once_each xs ++ fresh x (once_each xs)
once_each_push [] x = refl
once_each_push (n ∷ xs) x =
    ap (λ l. n ∷ filter (λ m. not (eqb m n)) l) (once_each_push xs x)
    ∙ ap (λ l. n ∷ l) (filter-append (λ m. not (eqb m n)) (once_each xs) (fresh x (once_each xs))
    ∙ ap (λ l. filter (λ m. not (eqb m n)) (once_each xs) ++ l) (fresh_filter n x (once_each xs)))

-- ---- one node more

module _ (own : ℕ) (nodes : List NodeLine) (i : ℕ) (node : NodeLine) (within : i < length nodes) (is : node ≡ get_or nodes i node) where
  numbers : numbers_of (take (i + 1) nodes) ≡ numbers_of (take i nodes) ++ node.number ∷ []
  numbers =
      ap numbers_of (take_more nodes i node within ∙ ap (λ (n : NodeLine). take i nodes ++ n ∷ []) (sym is))
      ∙ map_push (λ (n : NodeLine). n.number) (take i nodes) node

  filtered : filter (is_listed own) (numbers_of (take (i + 1) nodes)) ≡ filter (is_listed own) (numbers_of (take i nodes)) ++ filter (is_listed own) (node.number ∷ [])
  filtered = ap (filter (is_listed own)) numbers ∙ filter-append (is_listed own) (numbers_of (take i nodes)) (node.number ∷ [])

  pub peers-more : with_peer own (peers_of own (numbers_of (take i nodes))) node.number ≡ peers_of own (numbers_of (take (i + 1) nodes))
  peers-more = by (is_listed own node.number) ∙ sym (ap once_each filtered)
    where
      before : List ℕ
      before = filter (is_listed own) (numbers_of (take i nodes))

      by : (t : Bool) → cond (t && not (list_any (λ m. eqb m node.number) (once_each before))) (once_each before ++ node.number ∷ []) (once_each before)
          ≡ once_each (before ++ cond t (node.number ∷ []) [])
      by true = pushed (list_any (λ m. eqb m node.number) (once_each before)) refl ∙ sym (once_each_push before node.number)
        where
          pushed : (t : Bool) → list_any (λ m. eqb m node.number) (once_each before) ≡ t → cond (not t) (once_each before ++ node.number ∷ []) (once_each before) ≡ once_each before ++ cond t [] (node.number ∷ [])
          pushed true there = sym (append-nil (once_each before))
          pushed false new = refl
      by false = ap once_each (sym (append-nil before))

-- ---- how many there are, and that they differ

filter-le : {X : Type 0} (p : X → Bool) (xs : List X) → length (filter p xs) ≤ length xs
filter-le p xs = omega (arith, length-filter_both p (λ x. not (p x)) (λ x. refl) xs)

-- an element that doesn't pass is left out
filter-lt : (p : ℕ → Bool) (x : ℕ) → p x ≡ false → (xs : List ℕ) (k : ℕ) → k < length xs → get_or xs k x ≡ x → length (filter p xs) < length xs
filter-lt p x out [] k lt e = let never : ⊥ = omega arith in absurd never
filter-lt p x out (y ∷ ys) zero lt e = rw (ap p e ∙ out) (omega (arith, filter-le p ys))
filter-lt p x out (y ∷ ys) (suc k) lt e = by (p y) (filter-lt p x out ys k (omega arith) e)
  where
    by : (t : Bool) → length (filter p ys) < length ys → length (cond t (y ∷ filter p ys) (filter p ys)) < suc (length ys)
    by true less = omega arith
    by false less = omega arith

once_each-le : (xs : List ℕ) → length (once_each xs) ≤ length xs
once_each-le [] = omega arith
once_each-le (n ∷ xs) = omega (arith, filter-le (λ m. not (eqb m n)) (once_each xs), once_each-le xs)

once_each-All : (P : ℕ → Type 0) (xs : List ℕ) → All P xs → All P (once_each xs)
once_each-All P [] each = each
once_each-All P (n ∷ xs) each = at (once_each-All P xs (λ k d lt. each (suc k) d (omega arith)))
  where
    at : All P (once_each xs) → All P (once_each (n ∷ xs))
    at others zero d lt = each zero d (omega arith)
    at others (suc k) d lt = All-filter (λ m. not (eqb m n)) P (once_each xs) others k d (omega arith)

once_each-differ : (xs : List ℕ) → AllPairs (λ a b. a ≡ b → ⊥) (once_each xs)
once_each-differ [] = λ i j d lt within. absurd (omega arith)
once_each-differ (n ∷ xs) = AllPairs-cons (λ a b. a ≡ b → ⊥) n (filter (λ m. not (eqb m n)) (once_each xs)) (λ k d lt. differs (get_or (filter (λ m. not (eqb m n)) (once_each xs)) k d) (filter_passes (λ m. not (eqb m n)) (once_each xs) k d lt)) (AllPairs-filter (λ a b. a ≡ b → ⊥) (λ m. not (eqb m n)) (once_each xs) (once_each-differ xs))
  where
    differs : (m : ℕ) → not (eqb m n) ≡ true → n ≡ m → ⊥
    differs m e same = false≢true (sym (ap not (eq-eqb m n (sym same))) ∙ e)

own_not_listed : (own : ℕ) → is_listed own own ≡ false
own_not_listed own = by (not (eqb own 0))
  where
    by : (t : Bool) → (t && not (eqb own own)) ≡ false
    by true = ap not (eq-eqb own own refl)
    by false = refl

-- a node among these lists fewer than they are
pub peers-fewer : (own : ℕ) (numbers : List ℕ) → Contains numbers own → length (peers_of own numbers) < length numbers
peers-fewer own numbers among = omega (arith, once_each-le (filter (is_listed own) numbers), filter-lt (is_listed own) own (own_not_listed own) numbers among.0 among.1 among.2)

pub peers-above_zero : (own : ℕ) (numbers : List ℕ) → All (λ n. 0 < n) (peers_of own numbers)
peers-above_zero own numbers = once_each-All (λ n. 0 < n) (filter (is_listed own) numbers) (λ k d lt. above (get_or (filter (is_listed own) numbers) k d) (filter_passes (is_listed own) numbers k d lt))
  where
    above : (n : ℕ) → is_listed own n ≡ true → 0 < n
    above zero e = absurd (false≢true e)
    above (suc n) e = omega arith

pub peers-differ : (own : ℕ) (numbers : List ℕ) → AllPairs (λ a b. a ≡ b → ⊥) (peers_of own numbers)
peers-differ own numbers = once_each-differ (filter (is_listed own) numbers)
