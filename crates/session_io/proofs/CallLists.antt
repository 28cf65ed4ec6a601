-- Calls of a stream, one list after another.
use Rattle.std.proofs.Common.{◌≡◌, ◌<◌, ℕ, List, [], ◌∷◌, ◌++◌, length, take, Result, Ok, Err, refl, sym, ap, ◌∙◌, append_assoc, append-nil, subst, arith}
use Rattle.std.specs.declared.io.Error.{Error}
use Rattle.peer_forward.specs.Calls.{Call, WriteCall, ReadCall, Effect, Makes}
use Rattle.pg_frames.specs.Reading.{ReadsOnce, count_of}
use Rattle.peer_forward.proofs.CallLemmas.{each-append}
use Rattle.session_io.specs.StreamCalls.{given, IsRead, IsFailedRead, Wrote, Read, ReadToEnd}

pub given-append : (xs ys : List Call) → given (xs ++ ys) ≡ given xs ++ given ys
given-append [] ys = refl
given-append (ReadCall buffer (Ok count) ∷ xs) ys =
    ap (λ zs. take count buffer ++ zs) (given-append xs ys)
    ∙ sym (append_assoc (take count buffer) (given xs) (given ys))
given-append (ReadCall buffer (Err error) ∷ xs) ys = given-append xs ys
given-append (WriteCall bytes result ∷ xs) ys = given-append xs ys

pub Wrote-nothing : Wrote [] []
Wrote-nothing = record { each = tt; whole = refl }

pub Read-append : (a b : List ℕ) (xs ys : List Call) → Read a xs → Read b ys
    → Read (a ++ b) (xs ++ ys)
Read-append a b xs ys first more = record {
  each = each-append IsRead xs ys first.each more.each;
  whole = given-append xs ys ∙ ap (λ zs. zs ++ given ys) first.whole
      ∙ ap (λ zs. a ++ zs) more.whole;
}

pub Read-nothing : Read [] []
Read-nothing = record { each = tt; whole = refl }

pub ReadToEnd-append : (a b : List ℕ) (xs ys : List Call) → Read a xs → ReadToEnd b ys
    → ReadToEnd (a ++ b) (xs ++ ys)
ReadToEnd-append a b xs ys first more = record {
  reads = xs ++ more.reads;
  last = more.last;
  all = ap (λ zs. xs ++ zs) more.all ∙ sym (append_assoc xs more.reads (more.last ∷ []));
  each = each-append IsRead xs more.reads first.each more.each;
  failed = more.failed;
  whole = given-append xs more.reads ∙ ap (λ zs. zs ++ given more.reads) first.whole
      ∙ ap (λ zs. a ++ zs) more.whole;
}

-- one call that failed, and read nothing
pub ReadToEnd-failed : (call : Call) → IsFailedRead call → ReadToEnd [] (call ∷ [])
ReadToEnd-failed call failed =
    record { reads = []; last = call; all = refl; each = tt; failed = failed; whole = refl }

read_of : {T : Type 0} (wrote gave : Effect T) (old new : T) (count : ℕ)
    (Takes : List ℕ → Type 0) (buffer : List ℕ) (answer : Result ℕ Error)
    → count ≡ count_of answer → gave old buffer answer new → Takes (take count buffer) → 0 < count
    → (call : Call) × Makes wrote gave old (call ∷ []) new × (bytes : List ℕ)
    × Read bytes (call ∷ []) × Takes bytes
read_of wrote gave old new count Takes buffer (Ok n) same made takes some = (
  ReadCall buffer (Ok n),
  (new, made, refl),
  take count buffer,
  record {
    each = (omega (arith, same, some), tt);
    whole = append-nil (take n buffer) ∙ ap (λ k. take k buffer) (sym same);
  },
  takes,
)
read_of wrote gave old new count Takes buffer (Err error) same made takes some =
    absurd (omega (arith, same, some))

failed_of : {T : Type 0} (wrote gave : Effect T) (old new : T) (count : ℕ) (buffer : List ℕ)
    (answer : Result ℕ Error) → 0 < length buffer → count ≡ count_of answer
    → gave old buffer answer new → count ≡ 0
    → (call : Call) × Makes wrote gave old (call ∷ []) new × IsFailedRead call
failed_of wrote gave old new count buffer (Ok n) room same made none =
    (ReadCall buffer (Ok n), (new, made, refl), (sym same ∙ none, room))
failed_of wrote gave old new count buffer (Err error) room same made none =
    (ReadCall buffer (Err error), (new, made, refl), tt)

-- one read that gave some bytes
pub one_read : {T : Type 0} (wrote gave : Effect T) (old new : T) (count : ℕ)
    (Takes : List ℕ → Type 0) → ReadsOnce gave old new count Takes → 0 < count
    → (call : Call) × Makes wrote gave old (call ∷ []) new × (bytes : List ℕ)
    × Read bytes (call ∷ []) × Takes bytes
one_read wrote gave old new count Takes reads some = read_of wrote gave old new count Takes reads.0
    reads.1 reads.4 reads.5 reads.6 some

-- one read that gave none
pub no_read : {T : Type 0} (wrote gave : Effect T) (old new : T) (count : ℕ)
    (Takes : List ℕ → Type 0) → ReadsOnce gave old new count Takes → count ≡ 0
    → (call : Call) × Makes wrote gave old (call ∷ []) new × IsFailedRead call
no_read wrote gave old new count Takes reads none = failed_of wrote gave old new count reads.0
    reads.1 reads.2 reads.4 reads.5 none

-- which then took no byte
pub reads_nothing : {T : Type 0} (gave : Effect T) (old new : T) (count : ℕ)
    (Takes : List ℕ → Type 0) → ReadsOnce gave old new count Takes → count ≡ 0 → Takes []
reads_nothing gave old new count Takes reads none =
    subst Takes (ap (λ k. take k reads.0) none) reads.6
