-- How often a slot is in a queue, once one has joined it or left it.
use Rattle.std.proofs.Common.{◌≡◌, ◌≢◌, ℕ, zero, suc, ◌<◌, ◌≤◌, ◌+◌, Bool, true, false, List, [], ◌∷◌, ◌++◌, length, map, replicate, refl, ap, sym, ◌∙◌, arith, ⊎_elim, ◌==◌, if◌then◌else◌}
use Rattle.std.proofs.Math.ListN.{set}
use Rattle.std.proofs.lemmas.Bool.{cases_eq, cases_lt}
use Rattle.std.proofs.lemmas.Bool.Decides.{eqb_tells}
use Rattle.slot_queues.specs.Queues.{times, times_in, others, queue_of}

-- the test of two numbers
pub eq_self : (n : ℕ) → (n == n) ≡ true
eq_self n = grind (arith, eqb_tells n n)

pub eq_yes : (m n : ℕ) → (m == n) ≡ true → m ≡ n
eq_yes m n h = grind (arith, eqb_tells m n)

pub eq_no : (m n : ℕ) → m ≢ n → (m == n) ≡ false
eq_no m n h = grind (arith, eqb_tells m n)

-- 1 where both are one
abbrev pub one_of : ℕ → ℕ → ℕ
one_of slot s = if slot == s then 1 else 0

pub one_yes : (slot s : ℕ) → s ≡ slot → one_of slot s ≡ 1
one_yes slot s e = rw (e, eq_self slot) refl

pub one_no : (slot s : ℕ) → s ≢ slot → one_of slot s ≡ 0
one_no slot s n = rw (eq_no slot s (λ t. n (sym t))) refl

-- one has joined
pub times_joined : (s slot : ℕ) (waiting : List ℕ) → times s (waiting ++ slot ∷ []) ≡ times s waiting + one_of slot s
times_joined s slot [] = omega arith
times_joined s slot (x ∷ rest) = let e = times_joined s slot rest in omega (arith, e)

-- one has left
times_left_at : (slot x : ℕ) (rest : List ℕ) (b : Bool) → (x == slot) ≡ b → (0 < times slot rest → times slot (others slot rest) + 1 ≡ times slot rest) → 0 < times slot (x ∷ rest) → times slot (others slot (x ∷ rest)) + 1 ≡ times slot (x ∷ rest)
times_left_at slot x rest true e h some = rw e (omega arith)
times_left_at slot x rest false e h some = let first = rw e at some in let had : 0 < times slot rest = omega (arith, first) in let one = h had in rw (e, e) (omega (arith, one))

pub times_left : (slot : ℕ) (waiting : List ℕ) → 0 < times slot waiting → times slot (others slot waiting) + 1 ≡ times slot waiting
times_left slot [] some = absurd (omega arith)
times_left slot (x ∷ rest) some = times_left_at slot x rest (x == slot) refl (times_left slot rest) some

times_other_at : (slot s x : ℕ) (rest : List ℕ) (b : Bool) → (x == slot) ≡ b → s ≢ slot → times s (others slot rest) ≡ times s rest → times s (others slot (x ∷ rest)) ≡ times s (x ∷ rest)
times_other_at slot s x rest true e n h = let not : (x == s) ≡ false = eq_no x s (λ t. n (sym t ∙ eq_yes x slot e)) in rw (e, not) (omega arith)
times_other_at slot s x rest false e n h = rw e (ap (λ (k : ℕ). (if x == s then 1 else 0) + k) h)

pub times_other : (slot s : ℕ) (waiting : List ℕ) → s ≢ slot → times s (others slot waiting) ≡ times s waiting
times_other slot s [] n = refl
times_other slot s (x ∷ rest) n = times_other_at slot s x rest (x == slot) refl n (times_other slot s rest n)

-- who isn't in a queue doesn't leave it
absent_at : (slot x : ℕ) (rest : List ℕ) (b : Bool) → (x == slot) ≡ b → (times slot rest ≡ 0 → others slot rest ≡ rest) → times slot (x ∷ rest) ≡ 0 → others slot (x ∷ rest) ≡ x ∷ rest
absent_at slot x rest true e h none = let one = rw e at none in absurd (omega (arith, one))
absent_at slot x rest false e h none = let zero_is = rw e at none in rw e (ap (λ (xs : List ℕ). x ∷ xs) (h (omega (arith, zero_is))))

pub others_absent : (slot : ℕ) (waiting : List ℕ) → times slot waiting ≡ 0 → others slot waiting ≡ waiting
others_absent slot [] none = refl
others_absent slot (x ∷ rest) none = absent_at slot x rest (x == slot) refl (others_absent slot rest) none

-- the first of a queue that the slot isn't in
pub not_first : (slot x : ℕ) (rest : List ℕ) → times slot (x ∷ rest) ≡ 0 → x ≢ slot
not_first slot x rest none e = let one = rw (e, eq_self slot) at none in absurd (omega (arith, one))

-- no more often than before, in all queues
fewer_at : (slot s x : ℕ) (rest : List ℕ) (b : Bool) → (x == slot) ≡ b → times s (others slot rest) ≤ times s rest → times s (others slot (x ∷ rest)) ≤ times s (x ∷ rest)
fewer_at slot s x rest true e h = rw e (omega arith)
fewer_at slot s x rest false e h = rw e (omega (arith, h))

times_fewer : (slot s : ℕ) (waiting : List ℕ) → times s (others slot waiting) ≤ times s waiting
times_fewer slot s [] = omega arith
times_fewer slot s (x ∷ rest) = fewer_at slot s x rest (x == slot) refl (times_fewer slot s rest)

pub sum_fewer : (slot s : ℕ) (queues : List (List ℕ)) → times_in s (map (others slot) queues) ≤ times_in s queues
sum_fewer slot s [] = omega arith
sum_fewer slot s (waiting ∷ queues) = let e = times_fewer slot s waiting in let f = sum_fewer slot s queues in omega (arith, e, f)

pub sum_other : (slot s : ℕ) (queues : List (List ℕ)) → s ≢ slot → times_in s (map (others slot) queues) ≡ times_in s queues
sum_other slot s [] n = refl
sum_other slot s (waiting ∷ queues) n = let e = times_other slot s waiting n in let f = sum_other slot s queues n in omega (arith, e, f)

pub sum_empty : (s count : ℕ) → times_in s (replicate count []) ≡ 0
sum_empty s zero = refl
sum_empty s (suc count) = let e = sum_empty s count in omega (arith, e)

-- one queue has changed
pub times_in-set : (s : ℕ) (queues : List (List ℕ)) (queue : ℕ) (new : List ℕ) → queue < length queues → times_in s (set queues queue new) + times s (queue_of queues queue) ≡ times_in s queues + times s new
times_in-set s [] queue new h = absurd (omega arith)
times_in-set s (waiting ∷ queues) zero new h = omega arith
times_in-set s (waiting ∷ queues) (suc queue) new h = let e = times_in-set s queues queue new (omega arith) in omega (arith, e)

-- in one queue no more often than in all
pub times_in-le : (s : ℕ) (queues : List (List ℕ)) (queue : ℕ) → times s (queue_of queues queue) ≤ times_in s queues
times_in-le s [] queue = omega arith
times_in-le s (waiting ∷ queues) zero = omega arith
times_in-le s (waiting ∷ queues) (suc queue) = let e = times_in-le s queues queue in omega (arith, e)

-- in none of them
pub sum_none : (s : ℕ) (queues : List (List ℕ)) → ((queue : ℕ) → times s (queue_of queues queue) ≡ 0) → times_in s queues ≡ 0
sum_none s [] none = refl
sum_none s (waiting ∷ queues) none = let e = none 0 in let f = sum_none s queues (λ queue. none (suc queue)) in omega (arith, e, f)

-- a queue with each slot below a number once at most is no longer than that
shorter_at : (slot x : ℕ) (rest : List ℕ) (b : Bool) → (x == slot) ≡ b → length rest ≤ length (others slot rest) + 1 → length (x ∷ rest) ≤ length (others slot (x ∷ rest)) + 1
shorter_at slot x rest true e h = rw e (omega arith)
shorter_at slot x rest false e h = rw e (omega (arith, h))

shorter : (slot : ℕ) (waiting : List ℕ) → length waiting ≤ length (others slot waiting) + 1
shorter slot [] = omega arith
shorter slot (x ∷ rest) = shorter_at slot x rest (x == slot) refl (shorter slot rest)

left_none : (slot : ℕ) (waiting : List ℕ) → times slot waiting ≤ 1 → times slot (others slot waiting) ≡ 0
left_none slot waiting once = ⊎_elim
    (λ some. let e = times_left slot waiting some in omega (arith, e, once))
    (λ none. let e = times_fewer slot slot waiting in omega (arith, e, none))
    (cases_lt 0 (times slot waiting))

pub few : (n : ℕ) (waiting : List ℕ) → ((s : ℕ) → times s waiting ≤ 1) → ((s : ℕ) → n ≤ s → times s waiting ≡ 0) → length waiting ≤ n
few zero [] once below = omega arith
few zero (x ∷ rest) once below = absurd (not_first x x rest (below x (omega arith)) refl)
few (suc n) waiting once below =
    let e = shorter n waiting in
    let f = few n (others n waiting) (λ s. let a = times_fewer n s waiting in let b = once s in omega (arith, a, b)) (λ s h. ⊎_elim
    (λ same. ap (λ k. times k (others n waiting)) same ∙ left_none n waiting (once n))
    (λ apart. times_other n s waiting apart ∙ below s (omega (arith, h, apart)))
    (cases_eq s n)) in
    omega (arith, e, f)
