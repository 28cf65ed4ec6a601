-- The rows of a tally lie one after the other in its cells.
use Rattle.std.proofs.Common.{◌≡◌, ℕ, zero, suc, ◌+◌, ◌-◌, ◌*◌, ◌<◌, ◌≤◌, ◌⊎◌, inl, inr, List, [], ◌∷◌, length, get_or, take, drop, refl, sym, ap, ◌∙◌, subst, ⊎_elim, arith}
use Rattle.std.proofs.lemmas.Bool.{cases_lt}
use Rattle.std.proofs.lemmas.List.{get_or-take, get_or-drop, length-take, get_or_past}
use Rattle.std.proofs.lemmas.List.Sums.{get_or-le-sum_by}
use Rattle.std.specs.Prelude.{slice_range}
use Rattle.pg_ids.specs.declared.any_key.Kind.{Kind}
use Rattle.pg_ids.specs.declared.any_key.Kind.TheVariants.{Short, Long}
use Rattle.locked_node.specs.CallNumbers.{key_index, key_width}
use Rattle.locked_node.specs.declared.tally.TheConstants.{START}
use Rattle.locked_node.specs.declared.tally.Tally.{Tally}
use Rattle.locked_node.specs.Totals.{Row, rows, rows_in, row_at, all_calls, calls_at, sum_at}

-- a row that counts nothing
abbrev pub no_row : Row
no_row = record { calls = 0; sums = [] }

-- how many sums each answer has room for: with a short key, or with no key
abbrev SHORTS : List ℕ
SHORTS =
    9 ∷ 5  -- AcquireGot, ReleasedIdle
    ∷ 8 ∷ 2 ∷ 2  -- Join
    ∷ 4 ∷ 12 ∷ 4 ∷ 4  -- Leave
    ∷ 9 ∷ 4 ∷ 4 ∷ 4 ∷ 4 ∷ 4  -- Acquire
    ∷ 11 ∷ 11 ∷ 6 ∷ 6  -- Up
    ∷ 5 ∷ 5 ∷ 5  -- UpFailed
    ∷ 5 ∷ 5 ∷ 5 ∷ 5  -- Release
    ∷ 5 ∷ 5 ∷ 5  -- Close
    ∷ 9 ∷ 7 ∷ 2  -- Cancel
    ∷ 1 ∷ 1 ∷ 1 ∷ 1 ∷ 1 ∷ 1  -- Cancel, refused
    ∷ 6 ∷ 6 ∷ 6 ∷ 6  -- Ended
    ∷ 6 ∷ 6 ∷ 6 ∷ 6  -- Failed
    ∷ 1 ∷ 1 ∷ []  -- Restart

-- and with a long key
abbrev LONGS : List ℕ
LONGS =
    11 ∷ 0  -- AcquireGot, ReleasedIdle
    ∷ 8 ∷ 2 ∷ 2  -- Join
    ∷ 6 ∷ 12 ∷ 6 ∷ 6  -- Leave
    ∷ 11 ∷ 6 ∷ 6 ∷ 6 ∷ 6 ∷ 6  -- Acquire
    ∷ 0 ∷ 0 ∷ 0 ∷ 0  -- Up
    ∷ 0 ∷ 0 ∷ 0  -- UpFailed
    ∷ 0 ∷ 0 ∷ 0 ∷ 0  -- Release
    ∷ 0 ∷ 0 ∷ 0  -- Close
    ∷ 11 ∷ 7 ∷ 4  -- Cancel
    ∷ 3 ∷ 3 ∷ 3 ∷ 3 ∷ 3 ∷ 3  -- Cancel, refused
    ∷ 0 ∷ 0 ∷ 0 ∷ 0  -- Ended
    ∷ 0 ∷ 0 ∷ 0 ∷ 0  -- Failed
    ∷ 0 ∷ 0 ∷ []  -- Restart

-- the room of an answer with a key of this kind
abbrev pub room_of : Kind → ℕ → ℕ
room_of Short answer = get_or SHORTS answer 0
room_of Long answer = get_or LONGS answer 0

-- one of each in turn
abbrev by_turns : List ℕ → List ℕ → List ℕ
by_turns [] longs = []
by_turns (short ∷ shorts) [] = []
by_turns (short ∷ shorts) (long ∷ longs) = short ∷ long ∷ by_turns shorts longs

-- the room of each kind
unfoldable pub ROOMS : List ℕ
ROOMS = by_turns SHORTS LONGS

-- where rows with this room begin, and where the last one ends
abbrev starts : ℕ → List ℕ → List ℕ
starts from [] = from ∷ []
starts from (room ∷ rooms) = from ∷ starts (from + 1 + room) rooms

table : START ≡ starts 0 ROOMS
unfolding ROOMS
table = refl

many_rooms : length ROOMS ≡ 96
unfolding ROOMS
many_rooms = refl

starts_next : (from : ℕ) (rooms : List ℕ) (kind : ℕ) → kind < length rooms
    → get_or (starts from rooms) (suc kind) 0 ≡ get_or (starts from rooms) kind 0 + 1 + get_or rooms kind 0
starts_next from [] kind h = absurd (omega (arith, h))
starts_next from (room ∷ []) zero h = refl
starts_next from (room ∷ another ∷ rest) zero h = refl
starts_next from (room ∷ rest) (suc kind) h = starts_next (from + 1 + room) rest kind (omega (arith, h))

-- a row ends where the next one begins
pub next : (kind : ℕ) → kind < 96 → get_or START (kind + 1) 0 ≡ get_or START kind 0 + 1 + get_or ROOMS kind 0
next kind h = let many = many_rooms in let e : kind + 1 ≡ suc kind = omega arith in
    ap (λ (n : ℕ). get_or START n 0) e
    ∙ subst (λ (l : List ℕ). get_or l (suc kind) 0 ≡ get_or l kind 0 + 1 + get_or ROOMS kind 0) (sym table) (starts_next 0 ROOMS kind (omega (arith, h, many)))

-- and all later ones begin behind it
behind_by : (d i : ℕ) → i + 1 + d ≤ 96 → get_or START (i + 1) 0 ≤ get_or START (i + 1 + d) 0
behind_by zero i h = let e : i + 1 + 0 ≡ i + 1 = omega arith in let a = ap (λ (n : ℕ). get_or START n 0) e in omega (arith, a)
behind_by (suc d) i h =
    let rest = behind_by d i (omega (arith, h)) in
    let one = next (i + 1 + d) (omega (arith, h)) in
    let e : i + 1 + suc d ≡ i + 1 + d + 1 = omega arith in
    let a = ap (λ (n : ℕ). get_or START n 0) e in
    omega (arith, rest, one, a)

pub behind : (i j : ℕ) → i < j → j ≤ 96 → get_or START (i + 1) 0 ≤ get_or START j 0
behind i j h le =
    let e : i + 1 + (j - (i + 1)) ≡ j = omega (arith, h) in
    let there = behind_by (j - (i + 1)) i (omega (arith, h, le)) in
    let a = ap (λ (n : ℕ). get_or START n 0) e in
    omega (arith, there, a)

end : get_or START 96 0 ≡ 467
end = refl

pub start_before : (kind : ℕ) → kind ≤ 96 → get_or START kind 0 ≤ 467
start_before kind h = ⊎_elim
    (λ (few : kind < 96). let b = behind kind 96 few (omega arith) in let n = next kind few in let e = end in omega (arith, b, n, e))
    (λ (last : 96 ≤ kind). let is : kind ≡ 96 = omega (arith, h, last) in let a = ap (λ (n : ℕ). get_or START n 0) is in let e = end in omega (arith, a, e))
    (cases_lt kind 96)

pub start_inside : (kind : ℕ) → kind < 96 → get_or START kind 0 + 1 ≤ get_or START (kind + 1) 0
start_inside kind h = let n = next kind h in omega (arith, n)

pub start_few : (kind : ℕ) → kind < 96 → get_or START kind 0 < 467
start_few kind h = let n = start_inside kind h in let last = start_before (kind + 1) (omega (arith, h)) in omega (arith, n, last)

-- where the room of an answer stands, with a key of either kind
short_at : (shorts longs : List ℕ) (answer : ℕ) → length shorts ≡ length longs
    → get_or (by_turns shorts longs) (2 * answer + 0) 0 ≡ get_or shorts answer 0
short_at [] longs answer e = refl
short_at (short ∷ shorts) [] answer e = absurd (omega (arith, e))
short_at (short ∷ shorts) (long ∷ longs) zero e = refl
short_at (short ∷ shorts) (long ∷ longs) (suc answer) e =
    let next : 2 * suc answer + 0 ≡ suc (suc (2 * answer + 0)) = omega arith in
    ap (λ (k : ℕ). get_or (by_turns (short ∷ shorts) (long ∷ longs)) k 0) next
    ∙ short_at shorts longs answer (omega (arith, e))

long_at : (shorts longs : List ℕ) (answer : ℕ) → length shorts ≡ length longs
    → get_or (by_turns shorts longs) (2 * answer + 1) 0 ≡ get_or longs answer 0
long_at [] [] answer e = refl
long_at [] (long ∷ longs) answer e = absurd (omega (arith, e))
long_at (short ∷ shorts) [] answer e = absurd (omega (arith, e))
long_at (short ∷ shorts) (long ∷ longs) zero e = refl
long_at (short ∷ shorts) (long ∷ longs) (suc answer) e =
    let next : 2 * suc answer + 1 ≡ suc (suc (2 * answer + 1)) = omega arith in
    ap (λ (k : ℕ). get_or (by_turns (short ∷ shorts) (long ∷ longs)) k 0) next
    ∙ long_at shorts longs answer (omega (arith, e))

pub room_is : (asked : Kind) (answer : ℕ) → get_or ROOMS (2 * answer + key_index asked) 0 ≡ room_of asked answer
unfolding ROOMS
room_is Short answer = short_at SHORTS LONGS answer refl
room_is Long answer = long_at SHORTS LONGS answer refl

-- the room of a call whose kind fixes its one key
pub own_room : (asked : Kind) (answer rest : ℕ) → room_of Short answer ≡ rest + 1 → room_of Long answer ≡ rest + 3
    → room_of asked answer ≡ rest + key_width asked
own_room Short answer rest short long = short
own_room Long answer rest short long = long

-- and of a call that has as much with either
pub same_room : (asked : Kind) (answer room : ℕ) → room_of Short answer ≡ room → room_of Long answer ≡ room
    → room_of asked answer ≡ room
same_room Short answer room short long = short
same_room Long answer room short long = long

-- the row that begins at a place
row_is : (places cells : List ℕ) (kind : ℕ) → suc kind < length places
    → get_or (rows_in places cells) kind no_row
    ≡ record { calls = get_or cells (get_or places kind 0) 0; sums = slice_range cells (get_or places kind 0 + 1) (get_or places (suc kind) 0) }
row_is [] cells kind h = absurd (omega (arith, h))
row_is (from ∷ []) cells kind h = absurd (omega (arith, h))
row_is (from ∷ to ∷ places) cells zero h = refl
row_is (from ∷ to ∷ places) cells (suc kind) h = row_is (to ∷ places) cells kind (omega (arith, h))

pub row_there : (tally : Tally) (kind : ℕ) → kind < 96
    → row_at tally kind ≡ record { calls = get_or tally.cells (get_or START kind 0) 0; sums = slice_range tally.cells (get_or START kind 0 + 1) (get_or START (kind + 1) 0) }
unfolding rows
row_there tally kind h = let e : suc kind ≡ kind + 1 = omega arith in
    row_is START tally.cells kind (let many : length START ≡ 97 = refl in omega (arith, h, many))
    ∙ ap {B = Row} (λ (n : ℕ). record { calls = get_or tally.cells (get_or START kind 0) 0; sums = slice_range tally.cells (get_or START kind 0 + 1) (get_or START n 0) }) e

pub length-rows : (tally : Tally) → length (rows tally) ≡ 96
unfolding rows
length-rows tally = refl

pub calls_there : (tally : Tally) (kind : ℕ) → kind < 96 → calls_at tally kind ≡ get_or tally.cells (get_or START kind 0) 0
calls_there tally kind h = ap (λ (r : Row). r.calls) (row_there tally kind h)

-- no row is of a number past the kinds
none_there : (tally : Tally) (kind : ℕ) → 96 ≤ kind → row_at tally kind ≡ no_row
none_there tally kind h = let many = length-rows tally in get_or_past (rows tally) kind no_row (omega (arith, many, h))

-- where the count of a kind lies in each tally, and where the sum at a position; what lies nowhere
-- is 0
abbrev pub CallsLie : ℕ → Type 0
CallsLie kind = ((kind < 96) × ((tally : Tally) → calls_at tally kind ≡ get_or tally.cells (get_or START kind 0) 0))
    ⊎ ((96 ≤ kind) × ((tally : Tally) → calls_at tally kind ≡ 0))

pub calls_lie : (kind : ℕ) → CallsLie kind
calls_lie kind = ⊎_elim
    (λ (h : kind < 96). inl (h, λ tally. calls_there tally kind h))
    (λ (h : 96 ≤ kind). inr (h, λ tally. ap (λ (r : Row). r.calls) (none_there tally kind h)))
    (cases_lt kind 96)

abbrev pub SumsLie : ℕ → ℕ → Type 0
SumsLie kind p = ((kind < 96) × (p < get_or ROOMS kind 0) × ((tally : Tally) → sum_at tally kind p ≡ get_or tally.cells (get_or START kind 0 + 1 + p) 0))
    ⊎ ((kind < 96 → get_or ROOMS kind 0 ≤ p) × ((tally : Tally) → sum_at tally kind p ≡ 0))

pub sums_lie : (kind p : ℕ) → SumsLie kind p
sums_lie kind p = ⊎_elim
    (λ (h : kind < 96).
    let n = next kind h in
    let row : (tally : Tally) → sum_at tally kind p ≡ get_or (slice_range tally.cells (get_or START kind 0 + 1) (get_or START (kind + 1) 0)) p 0
    = λ tally. ap (λ (r : Row). get_or r.sums p 0) (row_there tally kind h) in ⊎_elim
    (λ (w : p < get_or ROOMS kind 0). inl (
      h,
      w,
      λ tally. row tally
          ∙ (get_or-take (get_or START (kind + 1) 0 - (get_or START kind 0 + 1)) (drop (get_or START kind 0 + 1) tally.cells) p 0 (omega (arith, n, w))
          ∙ get_or-drop (get_or START kind 0 + 1) tally.cells p 0),
    ))
    (λ (w : get_or ROOMS kind 0 ≤ p). inr (
      (λ _. w),
      λ tally. row tally
          ∙ get_or_past (take (get_or START (kind + 1) 0 - (get_or START kind 0 + 1)) (drop (get_or START kind 0 + 1) tally.cells)) p 0
          (let l = length-take (get_or START (kind + 1) 0 - (get_or START kind 0 + 1)) (drop (get_or START kind 0 + 1) tally.cells) in omega (arith, l, n, w)),
    ))
    (cases_lt p (get_or ROOMS kind 0)))
    (λ (h : 96 ≤ kind). inr ((λ few. absurd (omega (arith, h, few))), λ tally. ap (λ (r : Row). get_or r.sums p 0) (none_there tally kind h)))
    (cases_lt kind 96)

-- no kind counts more than all
pub calls_le : (tally : Tally) (kind : ℕ) → kind < 96 → calls_at tally kind ≤ all_calls tally
calls_le tally kind h = let many = length-rows tally in get_or-le-sum_by (λ (r : Row). r.calls) (rows tally) kind no_row (omega (arith, h, many))
