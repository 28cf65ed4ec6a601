-- The stacks of a database's idle links and of its free places (internal).
use Rattle.std.specs.Prelude.{ℕ, zero, suc, ◌≡◌, ◌+◌, ◌-◌, Bool, true, false, List, [], ◌∷◌, ◌++◌, Option, Some, length, slice_get, take, if◌then◌else◌}
use Rattle.slot_queues.specs.Queues.{times}

-- how many are of a kind
abbrev pub how_many : {X : Type 0} → (Option X → Bool) → List X → ℕ
how_many kind [] = 0
how_many kind (x ∷ xs) = (if kind (Some x) then 1 else 0) + how_many kind xs

-- the stack has the place of each of this kind once, and no other
pub record IsStack {X : Type 0} (kind : Option X → Bool) (xs : List X)
    (stack : List ℕ) : Type 0 where
  pub once : (i : ℕ) → times i stack ≡ (if kind (slice_get xs i) then 1 else 0)
  pub counted : length stack ≡ how_many kind xs

-- the stack, and this place last, if it is of the kind
abbrev pub put_on : Bool → ℕ → List ℕ → List ℕ
put_on true place stack = stack ++ place ∷ []
put_on false place stack = stack

-- the place that is taken next, which is the last
abbrev pub top : List ℕ → Option ℕ
top stack = slice_get stack (length stack - 1)

-- the others
abbrev pub under_top : List ℕ → List ℕ
under_top stack = take (length stack - 1) stack

-- all places of a pool of this size, of which the first is taken first
abbrev pub all_places : ℕ → List ℕ
all_places zero = []
all_places (suc size) = size ∷ all_places size
