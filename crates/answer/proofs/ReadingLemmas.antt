-- The reads of a file, one after another.
use Rattle.std.proofs.Common.{◌≡◌, ◌≢◌, ℕ, zero, suc, ◌<◌, List, [], ◌∷◌, ◌++◌, ◌⊎◌, ⊎_elim, inl, inr, Result, Ok, Err, length, take, refl, sym, ap, ◌∙◌, subst, arith, append_assoc, append-nil}
use Rattle.std.specs.Prelude.{⊤}
use Rattle.std.specs.declared.io.Error.{Error}
use Rattle.std.specs.IoError.{error_kind}
use Rattle.std.specs.declared.io.ErrorKind.{ErrorKind}
use Rattle.std.specs.declared.io.ErrorKind.TheVariants as kind
use Rattle.answer.specs.Reading.{Call, GoesOn, ReadsOn, given, given_by, FailsReading}
use Rattle.answer.specs.ReadingFaults.{CannotRead, HasRead, ReadSoFar}
use Rattle.answer.specs.declared.file_text.NoText.{NoText}
use Rattle.answer.specs.declared.file_text.NoText.TheVariants.{Memory, Failed, NotUtf8}

module _ {R : Type 0} (gave : R → List ℕ → Result ℕ Error → R → Type 0) where
  reads_append : (a b c : R) (before after : List Call) → ReadsOn gave a before b
      → ReadsOn gave b after c → ReadsOn gave a (before ++ after) c
  reads_append a b c [] after first more = subst (λ s. ReadsOn gave s after c) first more
  reads_append a b c (call ∷ before) after first more =
      (first.0, first.1, first.2, reads_append first.0 b c before after first.3 more)

  given_append : (before after : List Call) → given (before ++ after) ≡ given before ++ given after
  given_append [] after = refl
  given_append (call ∷ before) after =
      ap (λ bytes. given_by call.buffer call.result ++ bytes) (given_append before after)
      ∙ sym (append_assoc (given_by call.buffer call.result) (given before) (given after))

  pub read_none : (old : R) → ReadSoFar gave old [] old
  read_none old = record { calls = []; reads = refl; bytes_are = refl }

  read_one : (old now new : R) (bytes : List ℕ) (call : Call) → ReadSoFar gave old bytes now
      → gave now call.buffer call.result new → GoesOn call.result
      → ReadSoFar gave old (bytes ++ given_by call.buffer call.result) new
  read_one old now new bytes call so_far is on = record {
    calls = so_far.calls ++ call ∷ [];
    reads = reads_append old now new so_far.calls (call ∷ []) so_far.reads (new, is, on, refl);
    bytes_are = ap (λ front. front ++ given_by call.buffer call.result) so_far.bytes_are
        ∙ sym (given_append so_far.calls (call ∷ [])
        ∙ ap (λ back. given so_far.calls ++ back) (append-nil (given_by call.buffer call.result)));
  }

  goes_on : (count : ℕ) → 0 < count → GoesOn (Ok count)
  goes_on zero some = absurd (omega (arith, some))
  goes_on (suc count) some = tt

  -- a read gave some bytes more
  pub read_more : (old now new : R) (bytes buffer : List ℕ) (count : ℕ)
      → ReadSoFar gave old bytes now → 0 < count → gave now buffer (Ok count) new
      → ReadSoFar gave old (bytes ++ take count buffer) new
  read_more old now new bytes buffer count so_far some is =
      read_one old now new bytes (record { buffer = buffer; result = Ok count }) so_far is
      (goes_on count some)

  -- a read was interrupted
  pub read_again : (old now new : R) (bytes buffer : List ℕ) (error : Error)
      → ReadSoFar gave old bytes now → error_kind error ≡ kind.Interrupted
      → gave now buffer (Err error) new → ReadSoFar gave old bytes new
  read_again old now new bytes buffer error so_far again is =
      subst (λ all. ReadSoFar gave old all new) (append-nil bytes)
      (read_one old now new bytes (record { buffer = buffer; result = Err error }) so_far is again)

  -- the end was read
  pub read_all : (old now new : R) (bytes buffer : List ℕ) → ReadSoFar gave old bytes now
      → 0 < length buffer → gave now buffer (Ok 0) new → HasRead gave old bytes
  read_all old now new bytes buffer so_far room is = record {
    calls = so_far.calls;
    last = now;
    reads = so_far.reads;
    buffer = buffer;
    room = room;
    new = new;
    ends = is;
    bytes_are = so_far.bytes_are;
  }

  -- a read failed, or there was no memory for it
  pub read_failed : (old now new : R) (bytes buffer : List ℕ) (error : Error) (why : NoText)
      → ReadSoFar gave old bytes now → error_kind error ≢ kind.Interrupted
      → gave now buffer (Err error) new → (error_kind error ≡ kind.OutOfMemory → why ≡ Memory)
      → (error_kind error ≢ kind.OutOfMemory → why ≡ Failed error) → CannotRead gave old why
  read_failed old now new bytes buffer error why so_far failed is memory other = ⊎_elim
      (λ none. subst (CannotRead gave old) (sym (memory none)) tt)
      (λ some. subst (CannotRead gave old) (sym (other some)) record {
        calls = so_far.calls;
        last = now;
        reads = so_far.reads;
        buffer = buffer;
        error = error;
        new = new;
        fails = is;
        why = (failed, some);
      })
      (is_memory (error_kind error))
    where
      is_memory : (k : ErrorKind) → (k ≡ kind.OutOfMemory) ⊎ (k ≢ kind.OutOfMemory)
      is_memory kind.OutOfMemory = inl refl
      is_memory k = inr (λ e. absurd (cc))
