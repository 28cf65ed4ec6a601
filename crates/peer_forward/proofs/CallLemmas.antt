-- Calls of a stream, one list after another.
use Rattle.std.proofs.Common.{◌≡◌, ℕ, List, [], ◌∷◌, ◌++◌, take, Ok, Err, refl, sym, ap, ◌∙◌, subst, append_assoc, append-nil}
use Rattle.std.specs.List.{AllByRecursion}
use Rattle.peer_forward.specs.Calls.{Call, WriteCall, ReadCall, Effect, Makes, taken}
use Rattle.peer_forward.specs.Writing.{IsWrite, IsFailedWrite, Wrote, WroteSome}

-- calls made after others
pub Makes-append : {T : Type 0} (wrote gave : Effect T) (a b c : T) (before after : List Call)
    → Makes wrote gave a before b → Makes wrote gave b after c
    → Makes wrote gave a (before ++ after) c
Makes-append wrote gave a b c [] after first more =
    subst (λ (s : _). Makes wrote gave s after c) first more
Makes-append wrote gave a b c (WriteCall bytes result ∷ before) after first more =
    (first.0, first.1, Makes-append wrote gave first.0 b c before after first.2 more)
Makes-append wrote gave a b c (ReadCall buffer result ∷ before) after first more =
    (first.0, first.1, Makes-append wrote gave first.0 b c before after first.2 more)

pub taken-append : (xs ys : List Call) → taken (xs ++ ys) ≡ taken xs ++ taken ys
taken-append [] ys = refl
taken-append (WriteCall bytes (Ok count) ∷ xs) ys =
    ap (λ zs. take count bytes ++ zs) (taken-append xs ys)
    ∙ sym (append_assoc (take count bytes) (taken xs) (taken ys))
taken-append (WriteCall bytes (Err error) ∷ xs) ys = taken-append xs ys
taken-append (ReadCall buffer result ∷ xs) ys = taken-append xs ys

pub each-append : {A : Type 0} (P : A → Type 0) (xs ys : List A) → AllByRecursion P xs
    → AllByRecursion P ys → AllByRecursion P (xs ++ ys)
each-append P [] ys first more = more
each-append P (x ∷ xs) ys first more = (first.0, each-append P xs ys first.1 more)

pub Wrote-append : (a b : List ℕ) (xs ys : List Call) → Wrote a xs → Wrote b ys
    → Wrote (a ++ b) (xs ++ ys)
Wrote-append a b xs ys first more = record {
  each = each-append IsWrite xs ys first.each more.each;
  whole = taken-append xs ys ∙ ap (λ zs. zs ++ taken ys) first.whole ∙ ap (λ zs. a ++ zs) more.whole;
}

pub WroteSome-append : (a b : List ℕ) (xs ys : List Call) → Wrote a xs → WroteSome b ys
    → WroteSome (a ++ b) (xs ++ ys)
WroteSome-append a b xs ys first more = record {
  writes = xs ++ more.writes;
  last = more.last;
  all = ap (λ zs. xs ++ zs) more.all ∙ sym (append_assoc xs more.writes (more.last ∷ []));
  each = each-append IsWrite xs more.writes first.each more.each;
  failed = more.failed;
  left = more.left;
  some_left = more.some_left;
  beginning = ap (λ zs. a ++ zs) more.beginning
      ∙ sym (append_assoc a (taken more.writes) more.left)
      ∙ ap (λ zs. (zs ++ taken more.writes) ++ more.left) (sym first.whole)
      ∙ ap (λ zs. zs ++ more.left) (sym (taken-append xs more.writes));
}

-- a call that failed took nothing
failed_took_nothing : (call : Call) → IsFailedWrite call → taken (call ∷ []) ≡ []
failed_took_nothing (WriteCall bytes (Ok count)) none =
    ap (λ (n : ℕ). take n bytes ++ []) none
failed_took_nothing (WriteCall bytes (Err error)) failed = refl
failed_took_nothing (ReadCall buffer result) failed = absurd failed

-- what was taken before the call that failed is all that was taken
pub taken_is : (calls writes : List Call) (last : Call) → calls ≡ writes ++ last ∷ []
    → IsFailedWrite last → taken calls ≡ taken writes
taken_is calls writes last all failed =
    ap taken all ∙ taken-append writes (last ∷ [])
    ∙ ap (λ xs. taken writes ++ xs) (failed_took_nothing last failed) ∙ append-nil (taken writes)
