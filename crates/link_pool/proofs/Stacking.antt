-- A pool's stacks, once a place has changed.
use Rattle.std.proofs.Common.{◌≡◌, ◌≢◌, ℕ, zero, suc, ◌+◌, ◌-◌, ◌<◌, ◌≤◌, ◌==◌, Bool, true, false, List, [], ◌∷◌, ◌++◌, Option, None, Some, IfNone, IfSome, length, replicate, take, refl, ap, subst, sym, ◌∙◌, arith, length-append, append_assoc, ⊎_elim, if◌then◌else◌}
use Rattle.std.proofs.Math.ListN.{set}
use Rattle.std.specs.List.{slice_get}
use Rattle.std.proofs.lemmas.List.{length-replicate, get_or-replicate}
use Rattle.std.proofs.lemmas.Option.{slice_get_within, slice_get_past, slice_get-get_or}
use Rattle.std.proofs.lemmas.Bool.{cases_eq, cases_lt}
use Rattle.slot_queues.specs.Queues.{times}
use Rattle.link_pool.specs.Stacks.{how_many, IsStack, put_on, top, under_top, all_places}
use Rattle.link_pool.proofs.Places.{slice_get-set_same, slice_get-set_other}
use Rattle.slot_queues.proofs.Times.{eq_self, eq_no, times_joined}

-- 1 for yes
abbrev one : Bool → ℕ
one b = if b then 1 else 0

-- how many are of a kind, once a place has changed
how_many-set : {X : Type 0} (kind : Option X → Bool) (xs : List X) (i : ℕ) (old new : X) → slice_get xs i ≡ Some old → how_many kind (set xs i new) + one (kind (Some old)) ≡ how_many kind xs + one (kind (Some new))
how_many-set kind [] i old new h = absurd (cc)
how_many-set kind (x ∷ xs) zero old new h = let e : x ≡ old = cc in rw e (omega arith)
how_many-set kind (x ∷ xs) (suc i) old new h = let e = how_many-set kind xs i old new h in omega (arith, e)

at_most_one : (b : Bool) (m n : ℕ) → m ≤ n → one b + m ≤ suc n
at_most_one true m n h = omega arith
at_most_one false m n h = omega arith

one_more : (b : Bool) (m n : ℕ) → m < n → one b + m < suc n
one_more true m n h = omega arith
one_more false m n h = omega arith

how_many-le : {X : Type 0} (kind : Option X → Bool) (xs : List X) → how_many kind xs ≤ length xs
how_many-le kind [] = omega arith
how_many-le kind (x ∷ xs) = at_most_one (kind (Some x)) (how_many kind xs) (length xs) (how_many-le kind xs)

-- where one isn't of the kind, not each is
pub not_each : {X : Type 0} (kind : Option X → Bool) (xs : List X) (i : ℕ) (x : X) → slice_get xs i ≡ Some x → kind (Some x) ≡ false → how_many kind xs < length xs
not_each kind [] i y h k = absurd (cc)
not_each kind (x ∷ xs) zero y h k = let few = how_many-le kind xs in let e : x ≡ y = cc in rw (e, k) (omega (arith, few))
not_each kind (x ∷ xs) (suc i) y h k = one_more (kind (Some x)) (how_many kind xs) (length xs) (not_each kind xs i y h k)

is_no : (b : Bool) → one b ≡ 0 → b ≡ false
is_no true h = absurd (omega (arith, h))
is_no false h = refl

is_yes : (b : Bool) → 0 < one b → b ≡ true
is_yes true h = refl
is_yes false h = absurd (omega (arith, h))

-- an empty stack: none is of the kind
pub none_listed : {X : Type 0} (kind : Option X → Bool) (xs : List X) (stack : List ℕ) → IsStack kind xs stack → length stack ≡ 0 → (i : ℕ) → kind (slice_get xs i) ≡ false
none_listed kind xs [] keeps empty i = is_no (kind (slice_get xs i)) (sym (keeps.once i))
none_listed kind xs (x ∷ stack) keeps empty i = absurd (omega (arith, empty))

-- what is last is of the kind
pub last_of : {X : Type 0} (kind : Option X → Bool) (xs : List X) (stack rest : List ℕ) (s : ℕ) → stack ≡ rest ++ s ∷ [] → IsStack kind xs stack → kind (slice_get xs s) ≡ true
last_of kind xs stack rest s e keeps =
    let there : one (kind (slice_get xs s)) ≡ times s rest + (if s == s then 1 else 0) = sym (keeps.once s) ∙ ap (times s) e ∙ times_joined s s rest in
    let some : one (kind (slice_get xs s)) ≡ times s rest + 1 = there ∙ rw (eq_self s) refl in
    is_yes (kind (slice_get xs s)) (omega (arith, some))

-- a place and its part of the stack, once it has changed
once_changed : {X : Type 0} (kind : Option X → Bool) (xs : List X) (stack after : List ℕ) (s : ℕ) (old new : X) → slice_get xs s ≡ Some old → IsStack kind xs stack → times s after ≡ one (kind (Some new)) → ((i : ℕ) → i ≢ s → times i after ≡ times i stack) → (i : ℕ) → times i after ≡ one (kind (slice_get (set xs s new) i))
once_changed kind xs stack after s old new was keeps here there i = ⊎_elim
    (λ same. subst (λ j. times j after ≡ one (kind (slice_get (set xs s new) j))) (sym same) (here ∙ ap (λ o. one (kind o)) (sym (slice_get-set_same xs s new (slice_get_within xs s old was)))))
    (λ apart. there i apart ∙ keeps.once i ∙ ap (λ o. one (kind o)) (sym (slice_get-set_other xs s i new apart)))
    (cases_eq i s)

-- the last place of the stack is taken off
pub popped : {X : Type 0} (kind : Option X → Bool) (xs : List X) (stack rest : List ℕ) (s : ℕ) (old new : X) → stack ≡ rest ++ s ∷ [] → slice_get xs s ≡ Some old → kind (Some new) ≡ false → IsStack kind xs stack → IsStack kind (set xs s new) rest
popped kind xs stack rest s old new e was out keeps =
    let is : kind (Some old) ≡ true = ap kind (sym was) ∙ last_of kind xs stack rest s e keeps in
    let longer : length stack ≡ length rest + 1 = ap length e ∙ length-append rest (s ∷ []) in
    let self : times s rest + (if s == s then 1 else 0) ≡ one (kind (Some old)) = sym (times_joined s s rest) ∙ ap (times s) (sym e) ∙ keeps.once s ∙ ap (λ o. one (kind o)) was in
    let here : times s rest + 1 ≡ 1 = ap (λ b. times s rest + one b) (sym (eq_self s)) ∙ self ∙ ap one is in
    record {
      once = once_changed kind xs stack rest s old new was keeps (rw out (omega (arith, here)))
          (λ i apart. sym (ap (times i) e ∙ times_joined i s rest ∙ rw (eq_no s i (λ t. apart (sym t))) (omega arith)));
      counted =
          let counted = keeps.counted in
          let more = how_many-set kind xs s old new was in
          let had = ap one is in
          let has = ap one out in
          omega (arith, counted, more, had, has, longer);
    }

-- a place changes that isn't on the stack: it's put there, if it is of the kind now
relisted_by : {X : Type 0} (kind : Option X → Bool) (xs : List X) (stack : List ℕ) (s : ℕ) (old new : X) (b : Bool) → kind (Some new) ≡ b → slice_get xs s ≡ Some old → kind (Some old) ≡ false → IsStack kind xs stack → IsStack kind (set xs s new) (put_on b s stack)
relisted_by kind xs stack s old new true e was out keeps =
    let none : times s stack ≡ 0 = keeps.once s ∙ ap (λ o. one (kind o)) was ∙ ap one out in
    record {
      once = once_changed kind xs stack (stack ++ s ∷ []) s old new was keeps (times_joined s s stack ∙ rw (eq_self s, e, none) refl)
          (λ i apart. times_joined i s stack ∙ rw (eq_no s i (λ t. apart (sym t))) (omega arith));
      counted =
          let counted = keeps.counted in
          let more = how_many-set kind xs s old new was in
          let had = ap one out in
          let has = ap one e in
          let longer = length-append stack (s ∷ []) in
          omega (arith, counted, more, had, has, longer);
    }
relisted_by kind xs stack s old new false e was out keeps = record {
  once = once_changed kind xs stack stack s old new was keeps (keeps.once s ∙ ap (λ o. one (kind o)) was ∙ ap one (out ∙ sym e)) (λ i apart. refl);
  counted =
      let counted = keeps.counted in
      let more = how_many-set kind xs s old new was in
      let had = ap one out in
      let has = ap one e in
      omega (arith, counted, more, had, has);
}

pub relisted : {X : Type 0} (kind : Option X → Bool) (xs : List X) (stack : List ℕ) (s : ℕ) (old new : X) → slice_get xs s ≡ Some old → kind (Some old) ≡ false → IsStack kind xs stack → IsStack kind (set xs s new) (put_on (kind (Some new)) s stack)
relisted kind xs stack s old new was out keeps = relisted_by kind xs stack s old new (kind (Some new)) refl was out keeps

-- a stack that has a last place, and one that has none
pub top_split : (stack : List ℕ) (s : ℕ) → top stack ≡ Some s → stack ≡ under_top stack ++ s ∷ []
top_split [] s h = absurd (cc)
top_split (x ∷ []) s h = let e : x ≡ s = cc in ap (λ (y : ℕ). y ∷ []) e
top_split (x ∷ y ∷ rest) s h =
    let n : length (x ∷ y ∷ rest) - 1 ≡ suc (length (y ∷ rest) - 1) = omega arith in
    let below : top (y ∷ rest) ≡ Some s = ap (slice_get (x ∷ y ∷ rest)) (sym n) ∙ h in
    subst (λ (k : ℕ). x ∷ y ∷ rest ≡ take k (x ∷ y ∷ rest) ++ s ∷ []) (sym n) (ap (λ (ys : List ℕ). x ∷ ys) (top_split (y ∷ rest) s below))

no_top : (stack : List ℕ) → top stack ≡ None → length stack ≡ 0
no_top [] h = refl
no_top (x ∷ rest) h = absurd (cc (slice_get-get_or (x ∷ rest) (length (x ∷ rest) - 1) x (omega arith)))

pub none_next : {X : Type 0} (kind : Option X → Bool) (xs : List X) (stack : List ℕ) (o : Option ℕ) → IsStack kind xs stack → o ≡ top stack → IfNone o ((i : ℕ) → kind (slice_get xs i) ≡ false)
none_next kind xs stack None keeps e = none_listed kind xs stack keeps (no_top stack (sym e))
none_next kind xs stack (Some s) keeps e = tt

pub of_top : {X : Type 0} (kind : Option X → Bool) (xs : List X) (stack : List ℕ) (s : ℕ) → IsStack kind xs stack → top stack ≡ Some s → kind (slice_get xs s) ≡ true
of_top kind xs stack s keeps h = last_of kind xs stack (under_top stack) s (top_split stack s h) keeps

-- what is taken next is of the kind
pub next_listed : {X : Type 0} (kind : Option X → Bool) (xs : List X) (stack : List ℕ) (o : Option ℕ) → IsStack kind xs stack → o ≡ top stack → IfSome o (λ i. kind (slice_get xs i) ≡ true)
next_listed kind xs stack None keeps e = tt
next_listed kind xs stack (Some s) keeps e = of_top kind xs stack s keeps (sym e)

-- the place that is taken next is taken off
pub topped : {X : Type 0} (kind : Option X → Bool) (xs : List X) (stack : List ℕ) (s : ℕ) (old new : X) → top stack ≡ Some s → slice_get xs s ≡ Some old → kind (Some new) ≡ false → IsStack kind xs stack → IsStack kind (set xs s new) (under_top stack)
topped kind xs stack s old new h was out keeps = popped kind xs stack (under_top stack) s old new (top_split stack s h) was out keeps

-- where each place is of the kind, all are on the stack
all_past : (i n : ℕ) → n ≤ i → times i (all_places n) ≡ 0
all_past i zero past = refl
all_past i (suc n) past = let none = all_past i n (omega (arith, past)) in rw (eq_no n i (λ t. absurd (omega (arith, past, t)))) (omega (arith, none))

all_within : (i n : ℕ) → i < n → times i (all_places n) ≡ 1
all_within i zero within = absurd (omega (arith, within))
all_within i (suc n) within = ⊎_elim
    (λ same. let none = all_past n n (omega arith) in subst (λ (j : ℕ). times j (all_places (suc n)) ≡ 1) (sym same) (rw (eq_self n) (omega (arith, none))))
    (λ apart. let one_is = all_within i n (omega (arith, within, apart)) in rw (eq_no n i (λ t. apart (sym t))) (omega (arith, one_is)))
    (cases_eq i n)

each_within : {X : Type 0} (x : X) (n i : ℕ) → i < n → slice_get (replicate n x) i ≡ Some x
each_within x n i within =
    let long = length-replicate n x in
    slice_get-get_or (replicate n x) i x (omega (arith, within, long)) ∙ ap Some (get_or-replicate n i x x within)

none_past : {X : Type 0} (x : X) (n i : ℕ) → n ≤ i → slice_get (replicate n x) i ≡ None
none_past x n i past = let long = length-replicate n x in slice_get_past (replicate n x) i (omega (arith, past, long))

all_counted : {X : Type 0} (kind : Option X → Bool) (x : X) (n : ℕ) → kind (Some x) ≡ true → length (all_places n) ≡ how_many kind (replicate n x)
all_counted kind x zero is = refl
all_counted kind x (suc n) is = let e = all_counted kind x n is in rw is (omega (arith, e))

pub all_stacked : {X : Type 0} (kind : Option X → Bool) (x : X) (n : ℕ) → kind None ≡ false → kind (Some x) ≡ true → IsStack kind (replicate n x) (all_places n)
all_stacked kind x n out is = record {
  once = λ i. ⊎_elim
      (λ within. all_within i n within ∙ sym (ap (λ o. one (kind o)) (each_within x n i within) ∙ ap one is))
      (λ past. all_past i n past ∙ sym (ap (λ o. one (kind o)) (none_past x n i past) ∙ ap one out))
      (cases_lt i n);
  counted = all_counted kind x n is;
}

-- one more of all places is put on a stack
pub all_step : (stack : List ℕ) (i : ℕ) → 0 < i → (stack ++ (i - 1) ∷ []) ++ all_places (i - 1) ≡ stack ++ all_places i
all_step stack zero some = absurd (omega (arith, some))
all_step stack (suc i) some =
    let e : suc i - 1 ≡ i = omega arith in
    subst (λ (k : ℕ). (stack ++ k ∷ []) ++ all_places k ≡ stack ++ all_places (suc i)) (sym e) (append_assoc stack (i ∷ []) (all_places i))
