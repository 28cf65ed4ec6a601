-- The calls of writing a text, one after another.
use Rattle.std.proofs.Common.{◌≡◌, ◌≢◌, ℕ, zero, suc, ◌+◌, ◌-◌, ◌^◌, ◌<◌, List, [], ◌∷◌, ◌++◌, Option, Result, Ok, Err, ◌⊎◌, length, take, drop, refl, sym, ap, ◌∙◌, subst, inl, inr, arith, append_assoc, append-nil, length-append}
use Rattle.std.specs.Prelude.{⊤}
use Rattle.std.specs.declared.io.Error.{Error}
use Rattle.std.specs.IoError.{error_kind}
use Rattle.std.specs.declared.io.ErrorKind.TheVariants as kind
use Rattle.std.specs.Io.KnownBytes.{Appends, Keeps}
use Rattle.std.proofs.KnownBytes.{Appends-kept}
use Rattle.std.proofs.lemmas.List.{drop-drop}
use Rattle.answer.specs.Printing.{Call, WriteCall, FlushCall, Makes, Prints, GivesUp, AppendsPart, IsWritten, Writes, Stops, change}

module _ {T : Type 0} (wrote : T → List ℕ → Result ℕ Error → T → Type 0)
    (flushed : T → Result ⊤ Error → T → Type 0) (holds : T → Option (List ℕ)) where
  -- calls made after others
  makes_append : (a b c : T) (before after : List Call) → Makes wrote flushed a before b
      → Makes wrote flushed b after c → Makes wrote flushed a (before ++ after) c
  makes_append a b c [] after first more = subst (λ s. Makes wrote flushed s after c) first more
  makes_append a b c (WriteCall bytes result ∷ before) after first more =
      (first.0, first.1, makes_append first.0 b c before after first.2 more)
  makes_append a b c (FlushCall result ∷ before) after first more =
      (first.0, first.1, makes_append first.0 b c before after first.2 more)

  pub writes_none : (old : T) (text : List ℕ) → Writes (change wrote flushed holds old old) text text 0
  writes_none old text = record {
    calls = [];
    made = refl;
    many = refl;
    prints = λ status more result is. is;
  }

  -- one write more, behind which this is left
  writes_one : (old now new : T) (text left after bytes : List ℕ) (result : Result ℕ Error)
      (count : ℕ) → Writes (change wrote flushed holds old now) text left count → wrote now bytes result new
      → ((status : ℕ) (more : List Call) (r : ℕ) → Prints after status more r
      → Prints left status (WriteCall bytes result ∷ more) r)
      → Writes (change wrote flushed holds old new) text after (count + 1)
  writes_one old now new text left after bytes result count writes call step =
      let one = WriteCall bytes result ∷ [] in
      let many = writes.many in
      let longer = length-append writes.calls one in
      record {
        calls = writes.calls ++ one;
        made = makes_append old now new writes.calls one writes.made (new, call, refl);
        many = omega (arith, many, longer);
        prints = λ status more r is. subst (λ calls. Prints text status calls r)
            (sym (append_assoc writes.calls one more))
            (writes.prints status (WriteCall bytes result ∷ more) r (step status more r is));
      }

  -- a write took some of what was left
  took_some : (count : ℕ) (left : List ℕ) (status : ℕ) (more : List Call) (r : ℕ) → 0 < count
      → 0 < length left → Prints (drop count left) status more r
      → Prints left status (WriteCall left (Ok count) ∷ more) r
  took_some zero left status more r some room is = absurd (omega (arith, some))
  took_some (suc count) left status more r some room is = (room, refl, is)

  pub writes_more : (old now new : T) (text bytes : List ℕ) (taken took count : ℕ)
      → Writes (change wrote flushed holds old now) text (drop taken text) count → bytes ≡ drop taken text
      → 0 < length bytes → 0 < took → wrote now bytes (Ok took) new
      → Writes (change wrote flushed holds old new) text (drop (taken + took) text) (count + 1)
  writes_more old now new text bytes taken took count writes same room some call =
      writes_one old now new text (drop taken text) (drop (taken + took) text) bytes (Ok took) count
      writes call
      (λ status more r is. subst
      (λ b. Prints (drop taken text) status (WriteCall b (Ok took) ∷ more) r) (sym same)
      (took_some took (drop taken text) status more r some (subst (λ b. 0 < length b) same room)
      (subst (λ rest. Prints rest status more r) (sym (drop-drop took taken text)) is)))

  -- a write that was interrupted is made again
  pub writes_again : (old now new : T) (text left bytes : List ℕ) (error : Error) (count : ℕ)
      → Writes (change wrote flushed holds old now) text left count → bytes ≡ left → 0 < length bytes
      → error_kind error ≡ kind.Interrupted → wrote now bytes (Err error) new
      → Writes (change wrote flushed holds old new) text left (count + 1)
  writes_again old now new text left bytes error count writes same room again call =
      writes_one old now new text left left bytes (Err error) count writes call
      (λ status more r is. (subst (λ b. 0 < length b) same room, same, inl (again, is)))

  -- the last write
  stops_one : (old now new : T) (text left bytes : List ℕ) (result : Result ℕ Error) (count : ℕ)
      → Writes (change wrote flushed holds old now) text left count → wrote now bytes result new
      → ((status : ℕ) → Prints left status (WriteCall bytes result ∷ []) 1)
      → Stops (change wrote flushed holds old new) text
  stops_one old now new text left bytes result count writes call last = record {
    calls = writes.calls ++ WriteCall bytes result ∷ [];
    made = makes_append old now new writes.calls (WriteCall bytes result ∷ []) writes.made
        (new, call, refl);
    prints = inl (λ status. writes.prints status (WriteCall bytes result ∷ []) 1 (last status));
  }

  -- it took nothing
  pub stops_full : (old now new : T) (text left bytes : List ℕ) (count : ℕ)
      → Writes (change wrote flushed holds old now) text left count → bytes ≡ left → 0 < length bytes
      → wrote now bytes (Ok 0) new → Stops (change wrote flushed holds old new) text
  stops_full old now new text left bytes count writes same room call =
      stops_one old now new text left bytes (Ok 0) count writes call
      (λ status. (subst (λ b. 0 < length b) same room, same, refl, refl))

  -- it failed
  pub stops_failed : (old now new : T) (text left bytes : List ℕ) (error : Error) (count : ℕ)
      → Writes (change wrote flushed holds old now) text left count → bytes ≡ left → 0 < length bytes
      → error_kind error ≢ kind.Interrupted → wrote now bytes (Err error) new
      → Stops (change wrote flushed holds old new) text
  stops_failed old now new text left bytes error count writes same room failed call =
      stops_one old now new text left bytes (Err error) count writes call
      (λ status. (subst (λ b. 0 < length b) same room, same, inr (failed, refl, refl)))

  -- that many writes were made
  pub stops_tired : (old now : T) (text left : List ℕ) (count : ℕ)
      → Writes (change wrote flushed holds old now) text left count → count ≡ 2 ^ 64 - 1
      → Stops (change wrote flushed holds old now) text
  stops_tired old now text left count writes all = record {
    calls = writes.calls;
    made = writes.made;
    prints = inr (writes.many ∙ all, refl);
  }

  -- ---- with the flush

  pub written_stopped : (old now : T) (text : List ℕ) (status : ℕ) → Stops (change wrote flushed holds old now) text
      → AppendsPart (holds old) (holds now) text → IsWritten (change wrote flushed holds old now) text status 1
  written_stopped old now text status stops part = record {
    calls = stops.calls;
    made = stops.made;
    prints = of_status stops.prints;
    bytes = inr (refl, part);
  }
    where
      of_status : ((s : ℕ) → Prints text s stops.calls 1) ⊎ GivesUp stops.calls 1
          → Prints text status stops.calls 1 ⊎ GivesUp stops.calls 1
      of_status (inl prints) = inl (prints status)
      of_status (inr gave_up) = inr gave_up

  pub written_flushed : (old now new : T) (text : List ℕ) (status count : ℕ) (done : ⊤)
      → Writes (change wrote flushed holds old now) text [] count → Appends (holds old) (holds now) text
      → flushed now (Ok done) new → Keeps (holds now) (holds new)
      → IsWritten (change wrote flushed holds old new) text status status
  written_flushed old now new text status count done writes whole call kept = record {
    calls = writes.calls ++ FlushCall (Ok done) ∷ [];
    made = makes_append old now new writes.calls (FlushCall (Ok done) ∷ []) writes.made
        (new, call, refl);
    prints = inl (writes.prints status (FlushCall (Ok done) ∷ []) status (refl, refl, refl));
    bytes = inl (refl, Appends-kept _ _ _ _ whole kept);
  }

  pub written_unflushed : (old now new : T) (text : List ℕ) (status count : ℕ) (error : Error)
      → Writes (change wrote flushed holds old now) text [] count → Appends (holds old) (holds now) text
      → flushed now (Err error) new → Keeps (holds now) (holds new)
      → IsWritten (change wrote flushed holds old new) text status 1
  written_unflushed old now new text status count error writes whole call kept = record {
    calls = writes.calls ++ FlushCall (Err error) ∷ [];
    made = makes_append old now new writes.calls (FlushCall (Err error) ∷ []) writes.made
        (new, call, refl);
    prints = inl (writes.prints status (FlushCall (Err error) ∷ []) 1 (refl, refl, refl));
    bytes = inr (
      refl,
      record {
        part = text;
        rest = [];
        text_is = sym (append-nil text);
        appends = Appends-kept _ _ _ _ whole kept;
      },
    );
  }
