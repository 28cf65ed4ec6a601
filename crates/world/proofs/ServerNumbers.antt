-- The server of a database: its number.
use Rattle.std.proofs.Common.{◌≡◌, ℕ, zero, suc, ◌<◌, inl, inr, Bool, true, List, [], ◌∷◌, ◌++◌, Some, None, length, position, refl, ap, sym, ◌∙◌, arith}
use Rattle.std.specs.List.{slice_get, position_or_len}
use Rattle.std.proofs.lemmas.Bool.{and_from, cases_Bool, cond_below, eq-eqb}
use Rattle.std.proofs.lemmas.Option.{same_Some, none-some}
use Rattle.std.proofs.lemmas.Slice.Eq.{bytes_eq-Decides}
use Rattle.ini_config.specs.Node.{DatabaseSettings, NodeSettings}
use Rattle.world.specs.World.{is_on_server, all_databases}
use Rattle.world.proofs.Lists.{kept_behind}

-- a database of a node is among all
pub among_all : (group : List NodeSettings) (i d : ℕ) (s : NodeSettings) (e : DatabaseSettings)
    → slice_get group i ≡ Some s → slice_get s.databases d ≡ Some e
    → (k : ℕ) × (slice_get (all_databases group) k ≡ Some e)
among_all [] i d s e at there = absurd (none-some s at)
among_all (x ∷ xs) zero d s e at there =
    (d, kept_behind x.databases (all_databases xs) d e (ap (λ (z : NodeSettings). slice_get z.databases d) (same_Some x s at) ∙ there))
among_all (x ∷ xs) (suc i) d s e at there =
    let k = among_all xs i d s e at there in behind x.databases (all_databases xs) k.0 e k.1
  where
    behind : (xs bs : List DatabaseSettings) (k : ℕ) (e : DatabaseSettings) → slice_get bs k ≡ Some e
        → (n : ℕ) × (slice_get (xs ++ bs) n ≡ Some e)
    behind [] bs k e h = (k, h)
    behind (a ∷ xs) bs k e h = let n = behind xs bs k e h in (suc n.0, n.1)

-- where something passes a test, the first that does is before the end
first_below : {X : Type 0} (test : X → Bool) (xs : List X) (i : ℕ) (x : X) → slice_get xs i ≡ Some x
    → test x ≡ true → position_or_len test xs < length xs
first_below test [] i x at passes = absurd (none-some x at)
first_below test (y ∷ ys) zero x at passes = rw (same_Some y x at, passes) (omega arith)
first_below test (y ∷ ys) (suc i) x at passes =
    let below = first_below test ys i x at passes in
    elim (cases_Bool (test y)) [
      | inl is ↦ rw is (omega arith)
      | inr isnt ↦ rw isnt (omega (arith, below))
    ]

-- what passes a test has a first
pub first_there : {X : Type 0} (test : X → Bool) (xs : List X) (i : ℕ) (x : X) → slice_get xs i ≡ Some x
    → test x ≡ true → (n : ℕ) × (position test xs ≡ Some n)
first_there test xs i x at passes =
    (position_or_len test xs, sym (cond_below (position_or_len test xs) (length xs) (Some (position_or_len test xs)) None (first_below test xs i x at passes)))

-- a database has its own host and port
own_server : (e : DatabaseSettings) → is_on_server e e ≡ true
own_server e = and_from _ _ ((bytes_eq-Decides e.host e.host).1 refl) (eq-eqb e.port e.port refl)

pub its_server : (group : List NodeSettings) (i d : ℕ) (s : NodeSettings) (e : DatabaseSettings)
    → slice_get group i ≡ Some s → slice_get s.databases d ≡ Some e
    → (server : ℕ) × (position (is_on_server e) (all_databases group) ≡ Some server)
its_server group i d s e at there =
    let k = among_all group i d s e at there in
    first_there (is_on_server e) (all_databases group) k.0 e k.1 (own_server e)
