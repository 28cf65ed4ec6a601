-- The calls of writing a text, one after another, and what they say of its bytes.
use Rattle.std.proofs.Common.{◌≡◌, ℕ, ◌+◌, ◌<◌, ◌≤◌, zero, suc, Bool, true, false, List, [], ◌∷◌, ◌++◌, length, take, drop, Result, Ok, Err, refl, sym, ap, ◌∙◌, subst, arith, append_assoc, append-nil, length-drop, length-take, take-append-drop}
use Rattle.std.proofs.lemmas.List.{drop-drop, take-append-le, take_all}
use Rattle.std.specs.declared.io.Error.{Error}
use Rattle.peer_forward.specs.Calls.{Call, WriteCall, ReadCall, Effect, Makes}
use Rattle.peer_forward.specs.Writing.{IsFailedWrite, Wrote, WroteSome, Writes}
use Rattle.peer_forward.proofs.CallLemmas.{Makes-append, Wrote-append, WroteSome-append}

-- the calls wrote a text whole, or a beginning of it
abbrev pub WroteSo : Bool → List ℕ → List Call → Type 0
WroteSo true text calls = Wrote text calls
WroteSo false text calls = WroteSome text calls

wrote_more : (whole : Bool) (a b : List ℕ) (xs ys : List Call) → Wrote a xs → WroteSo whole b ys
    → WroteSo whole (a ++ b) (xs ++ ys)
wrote_more true a b xs ys first more = Wrote-append a b xs ys first more
wrote_more false a b xs ys first more = WroteSome-append a b xs ys first more

-- a write took the front of what is left
wrote_front : (left bytes : List ℕ) (count : ℕ) → bytes ≡ take 16384 left → 0 < count
    → count ≤ length bytes → Wrote (take count left) (WriteCall bytes (Ok count) ∷ [])
wrote_front left bytes count is some within = record {
  each = ((omega (arith, ap length is, length-take 16384 left), some), tt);
  whole = append-nil (take count bytes) ∙ ap (take count) is
      ∙ sym (take-append-le count (take 16384 left) (drop 16384 left)
      (omega (arith, within, ap length is)))
      ∙ ap (take count) (take-append-drop 16384 left);
}

-- a write failed
wrote_none : (left : List ℕ) (last : Call) (more : List Call) (whole : Bool) → 0 < length left
    → more ≡ [] → whole ≡ false → IsFailedWrite last → WroteSo whole left (last ∷ more)
wrote_none left last more whole some none is failed =
    let fails : WroteSome left (last ∷ more) = record {
      writes = [];
      last = last;
      all = ap (λ xs. last ∷ xs) none;
      each = tt;
      failed = failed;
      left = left;
      some_left = some;
      beginning = refl;
    } in subst (λ (b : Bool). WroteSo b left (last ∷ more)) (sym is) fails

-- what the calls wrote that write a text
pub wrote_so : (left : List ℕ) (calls : List Call) (whole : Bool) → Writes left calls whole
    → WroteSo whole left calls
wrote_so left [] whole is =
    subst (λ (b : Bool). WroteSo b left []) (sym is.1) (record { each = tt; whole = sym is.0 })
wrote_so left (WriteCall bytes (Ok zero) ∷ more) whole is =
    wrote_none left (WriteCall bytes (Ok zero)) more whole is.0 is.2 is.3 refl
wrote_so left (WriteCall bytes (Ok (suc count)) ∷ more) whole is =
    let call = WriteCall bytes (Ok (suc count)) in
    subst (λ xs. WroteSo whole xs (call ∷ more)) (take-append-drop (suc count) left)
    (wrote_more whole (take (suc count) left) (drop (suc count) left) (call ∷ []) more
    (wrote_front left bytes (suc count) is.1 (omega arith) is.2)
    (wrote_so (drop (suc count) left) more whole is.3))
wrote_so left (WriteCall bytes (Err error) ∷ more) whole is =
    wrote_none left (WriteCall bytes (Err error)) more whole is.0 is.2 is.3 tt
wrote_so left (ReadCall buffer result ∷ more) whole is = absurd is

-- The writes so far leave this of a text: what writes that, writes the text after them.
pub record WritesTo {T : Type 0} (wrote gave : Effect T) (old : T) (text left : List ℕ) (new : T)
    : Type 0 where
  pub calls : List Call
  pub made : Makes wrote gave old calls new
  pub follow : (more : List Call) (whole : Bool) → Writes left more whole
      → Writes text (calls ++ more) whole

-- a call that writes some of what is left, and one that doesn't
write_some : (left piece : List ℕ) (count : ℕ) (more : List Call) (whole : Bool)
    → 0 < length left → piece ≡ take 16384 left → 0 < count → count ≤ length piece
    → Writes (drop count left) more whole → Writes left (WriteCall piece (Ok count) ∷ more) whole
write_some left piece zero more whole room is some within writes = absurd (omega arith)
write_some left piece (suc count) more whole room is some within writes =
    (room, is, within, writes)

write_none : (left piece : List ℕ) (result : Result ℕ Error) → 0 < length left
    → piece ≡ take 16384 left → IsFailedWrite (WriteCall piece result)
    → Writes left (WriteCall piece result ∷ []) false
write_none left piece (Ok zero) room is none = (room, is, refl, refl)
write_none left piece (Ok (suc count)) room is none = absurd (omega (arith, none))
write_none left piece (Err error) room is none = (room, is, refl, refl)

-- one write more took some of what is left
pub writes_more : {T : Type 0} (wrote gave : Effect T) (a b c : T) (text piece : List ℕ)
    (at count : ℕ) → WritesTo wrote gave a text (drop at text) b → at < length text
    → piece ≡ take 16384 (drop at text) → 0 < count → count ≤ length piece
    → wrote b piece (Ok count) c → WritesTo wrote gave a text (drop (at + count) text) c
writes_more wrote gave a b c text piece at count so_far room is some within call =
    let last = WriteCall piece (Ok count) in
    record {
      calls = so_far.calls ++ last ∷ [];
      made = Makes-append wrote gave a b c so_far.calls (last ∷ []) so_far.made (c, call, refl);
      follow = λ more whole writes. subst (λ (xs : List Call). Writes text xs whole)
          (sym (append_assoc so_far.calls (last ∷ []) more))
          (so_far.follow (last ∷ more) whole (write_some (drop at text) piece count more whole
          (omega (arith, room, length-drop at text)) is some within
          (subst (λ (xs : List ℕ). Writes xs more whole) (sym (drop-drop count at text)) writes)));
    }

-- these calls are the last
pub writes_last : {T : Type 0} (wrote gave : Effect T) (a b c : T) (text left : List ℕ)
    (last : List Call) (whole : Bool) → WritesTo wrote gave a text left b
    → Makes wrote gave b last c → Writes left last whole
    → (calls : List Call) × Makes wrote gave a calls c × Writes text calls whole
writes_last wrote gave a b c text left last whole so_far made writes = (
  so_far.calls ++ last,
  Makes-append wrote gave a b c so_far.calls last so_far.made made,
  so_far.follow last whole writes,
)

pub writes_failed : {T : Type 0} (wrote gave : Effect T) (a b c : T) (text piece : List ℕ)
    (at : ℕ) (result : Result ℕ Error) → WritesTo wrote gave a text (drop at text) b
    → at < length text → piece ≡ take 16384 (drop at text)
    → IsFailedWrite (WriteCall piece result) → wrote b piece result c
    → (calls : List Call) × Makes wrote gave a calls c × Writes text calls false
writes_failed wrote gave a b c text piece at result so_far room is none call =
    writes_last wrote gave a b c text (drop at text) (WriteCall piece result ∷ []) false so_far
    (c, call, refl)
    (write_none (drop at text) piece result (omega (arith, room, length-drop at text)) is none)

-- what they wrote
pub writes_wrote : {T : Type 0} (wrote gave : Effect T) (a b : T) (text : List ℕ)
    (whole same : Bool)
    → ((calls : List Call) × Makes wrote gave a calls b × Writes text calls whole)
    → whole ≡ same → (calls : List Call) × Makes wrote gave a calls b × WroteSo same text calls
writes_wrote wrote gave a b text whole same writes is = (
  writes.0,
  writes.1,
  subst (λ (w : Bool). WroteSo w text writes.0) is (wrote_so text writes.0 whole writes.2),
)

-- the first write of a text, which is handed all of it, failed or took nothing
pub first_failed : {T : Type 0} (wrote gave : Effect T) (a b : T) (text : List ℕ)
    (result : Result ℕ Error) → 0 < length text → length text ≤ 16384
    → IsFailedWrite (WriteCall text result) → wrote a text result b
    → (calls : List Call) × Makes wrote gave a calls b × Writes text calls false
first_failed wrote gave a b text result some fits none call = (
  WriteCall text result ∷ [],
  (b, call, refl),
  write_none text text result some (sym (take_all 16384 text fits)) none,
)

-- it took some, and these calls wrote the rest
pub first_some : {T : Type 0} (wrote gave : Effect T) (a b c : T) (text : List ℕ) (count : ℕ)
    (whole : Bool) → length text ≤ 16384 → 0 < count → count ≤ length text
    → wrote a text (Ok count) b
    → ((calls : List Call) × Makes wrote gave b calls c × Writes (drop count text) calls whole)
    → (calls : List Call) × Makes wrote gave a calls c × Writes text calls whole
first_some wrote gave a b c text count whole fits took within call rest = (
  WriteCall text (Ok count) ∷ rest.0,
  (b, call, rest.1),
  write_some text text count rest.0 whole (omega (arith, took, within))
      (sym (take_all 16384 text fits)) took within rest.2,
)
