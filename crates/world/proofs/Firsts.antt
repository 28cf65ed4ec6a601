-- The first thing of a list that passes a test, by a search from place to place.
use Rattle.std.proofs.Common.{◌≡◌, ℕ, ◌+◌, ◌<◌, ◌≤◌, Bool, true, false, cond, inl, inr, List, [], ◌∷◌, ◌++◌, Option, Some, None, length, position, drop, add-one, refl, ap, sym, subst, ◌∙◌, arith}
use Rattle.std.proofs.Math.ListN.{get_or}
use Rattle.std.proofs.Math.Seq.{drop-cons}
use Rattle.std.specs.List.{slice_get, position_from}
use Rattle.std.specs.Option.{IfSome, option_map}
use Rattle.std.proofs.lemmas.Bool.{cases_Bool}
use Rattle.std.proofs.lemmas.Iterator.Adapters.{position_from-zero}
use Rattle.std.proofs.lemmas.List.{drop_all}
use Rattle.std.proofs.lemmas.Option.{none-some, slice_get-get_or}
use Rattle.ini_config.specs.Node.{DatabaseSettings, NodeSettings}
use Rattle.world.specs.World.{all_databases}

-- what is left from a place on begins with what is there
dropped : {X : Type 0} (xs : List X) (i : ℕ) (d : X) → i < length xs
    → drop i xs ≡ get_or xs i d ∷ drop (i + 1) xs
dropped xs i d below = rw add-one (drop-cons xs i d below)

-- a search that has come to a place looks at what is there
judged : {X : Type 0} (test : X → Bool) (xs : List X) (i : ℕ) (passes : Bool) → i < length xs
    → IfSome (slice_get xs i) (λ x. passes ≡ test x)
    → position_from test i (drop i xs) ≡ cond passes (Some i) (position_from test (i + 1) (drop (i + 1) xs))
judged test [] i passes below is = absurd (omega arith)
judged {X} test (y ∷ ys) i passes below is =
    let x = get_or (y ∷ ys) i y in
    let there : passes ≡ test x = subst (λ (o : Option X). IfSome o (λ z. passes ≡ test z)) (slice_get-get_or (y ∷ ys) i y below) is in
    ap (position_from test i) (dropped (y ∷ ys) i y below)
    ∙ ap (λ b. cond b (Some i) (position_from test (i + 1) (drop (i + 1) (y ∷ ys)))) (sym there)

-- it finds that
pub first_here : {X : Type 0} (test : X → Bool) (xs : List X) (i : ℕ) (passes : Bool) → i < length xs
    → IfSome (slice_get xs i) (λ x. passes ≡ test x) → passes ≡ true
    → position test xs ≡ position_from test i (drop i xs) → Some i ≡ position test xs
first_here test xs i passes below is holds so_far =
    sym (so_far ∙ judged test xs i passes below is ∙ rw holds refl)

-- or goes on behind it
pub first_later : {X : Type 0} (test : X → Bool) (xs : List X) (i : ℕ) (passes : Bool) → i < length xs
    → IfSome (slice_get xs i) (λ x. passes ≡ test x) → passes ≡ false
    → position test xs ≡ position_from test i (drop i xs)
    → position test xs ≡ position_from test (i + 1) (drop (i + 1) xs)
first_later test xs i passes below is fails so_far =
    so_far ∙ judged test xs i passes below is ∙ rw fails refl

-- until nothing is left
pub first_nowhere : {X : Type 0} (test : X → Bool) (xs : List X) (i : ℕ) → length xs ≤ i
    → position test xs ≡ position_from test i (drop i xs) → None ≡ position test xs
first_nowhere test xs i past so_far = sym (so_far ∙ ap (position_from test i) (drop_all i xs past))

-- a search begins at the first place
pub first_begins : {X : Type 0} (test : X → Bool) (xs : List X)
    → position test xs ≡ position_from test 0 (drop 0 xs)
first_begins test xs = position_from-zero test xs

-- what is found is further on by as much as the search began further on
shifted : {X : Type 0} (test : X → Bool) (n i : ℕ) (xs : List X)
    → position_from test (n + i) xs ≡ option_map (λ (k : ℕ). n + k) (position_from test i xs)
shifted test n i [] = refl
shifted test n i (x ∷ xs) = elim (cases_Bool (test x)) [
  | inl is ↦ rw is refl
  | inr isnt ↦ rw isnt (ap (λ (k : ℕ). position_from test k xs) (omega arith) ∙ shifted test n (i + 1) xs)
]

-- a search in one list after another ends in the first
in_first : {X : Type 0} (test : X → Bool) (n k : ℕ) (xs ys : List X) → position_from test n xs ≡ Some k
    → position_from test n (xs ++ ys) ≡ Some k
in_first test n k [] ys h = absurd (none-some k h)
in_first test n k (x ∷ xs) ys h = elim (cases_Bool (test x)) [
  | inl is ↦ rw is (rw is at h)
  | inr isnt ↦ rw isnt (in_first test (n + 1) k xs ys (rw isnt at h))
]

-- or goes on in the second
in_second : {X : Type 0} (test : X → Bool) (n : ℕ) (xs ys : List X) → position_from test n xs ≡ None
    → position_from test n (xs ++ ys) ≡ position_from test (n + length xs) ys
in_second test n [] ys h = ap (λ (k : ℕ). position_from test k ys) (omega arith)
in_second test n (x ∷ xs) ys h = elim (cases_Bool (test x)) [
  | inl is ↦ absurd (none-some n (sym (rw is at h)))
  | inr isnt ↦ rw isnt (in_second test (n + 1) xs ys (rw isnt at h)
      ∙ ap (λ (k : ℕ). position_from test k ys) (omega arith))
]

-- the databases of a node, and then those behind it
databases_on : (group : List NodeSettings) (i : ℕ) (s : NodeSettings) → i < length group → s ≡ get_or group i s
    → all_databases (drop i group) ≡ s.databases ++ all_databases (drop (i + 1) group)
databases_on group i s below is =
    ap all_databases (dropped group i s below)
    ∙ ap (λ (x : NodeSettings). x.databases ++ all_databases (drop (i + 1) group)) (sym is)

-- a search among the databases of all nodes finds one of a node
pub server_here : (test : DatabaseSettings → Bool) (group : List NodeSettings) (i n k : ℕ) (s : NodeSettings) → i < length group
    → s ≡ get_or group i s → position test (all_databases group) ≡ position_from test n (all_databases (drop i group))
    → Some k ≡ position test s.databases
    → Some (n + k) ≡ position test (all_databases group)
server_here test group i n k s below is so_far found =
    let here : position_from test (n + 0) s.databases ≡ Some (n + k) =
    shifted test n 0 s.databases ∙ ap (option_map (λ (k : ℕ). n + k)) (sym (position_from-zero test s.databases) ∙ sym found) in
    sym (so_far ∙ ap (position_from test n) (databases_on group i s below is)
    ∙ in_first test n (n + k) s.databases (all_databases (drop (i + 1) group))
    (ap (λ (m : ℕ). position_from test m s.databases) (omega arith) ∙ here))

-- or goes on behind that node
pub server_later : (test : DatabaseSettings → Bool) (group : List NodeSettings) (i n count : ℕ) (s : NodeSettings) → i < length group
    → s ≡ get_or group i s → position test (all_databases group) ≡ position_from test n (all_databases (drop i group))
    → count ≡ length s.databases → None ≡ position test s.databases
    → position test (all_databases group) ≡ position_from test (n + count) (all_databases (drop (i + 1) group))
server_later test group i n count s below is so_far counted none =
    let nowhere : position_from test (n + 0) s.databases ≡ None =
    shifted test n 0 s.databases ∙ ap (option_map (λ (k : ℕ). n + k)) (sym (position_from-zero test s.databases) ∙ sym none) in
    so_far ∙ ap (position_from test n) (databases_on group i s below is)
    ∙ in_second test n s.databases (all_databases (drop (i + 1) group))
    (ap (λ (m : ℕ). position_from test m s.databases) (omega arith) ∙ nowhere)
    ∙ ap (λ (m : ℕ). position_from test (n + m) (all_databases (drop (i + 1) group))) (sym counted)

-- until no node is left
pub server_nowhere : (test : DatabaseSettings → Bool) (group : List NodeSettings) (i n : ℕ) → length group ≤ i
    → position test (all_databases group) ≡ position_from test n (all_databases (drop i group))
    → None ≡ position test (all_databases group)
server_nowhere test group i n past so_far =
    sym (so_far ∙ ap (λ (g : List NodeSettings). position_from test n (all_databases g)) (drop_all i group past))
