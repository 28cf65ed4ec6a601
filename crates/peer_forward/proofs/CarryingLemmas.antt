-- What the calls of carrying say of the bytes and of the end.
use Rattle.std.proofs.Common.{◌≡◌, inl, inr, ℕ, zero, suc, true, false, List, [], ◌∷◌, ◌++◌, length, reverse, get_or, Result, Ok, Err, refl, sym, ap, ◌∙◌, arith, append-nil, length-append}
use Rattle.std.proofs.lemmas.List.{reverse-append}
use Rattle.std.specs.declared.io.Error.{Error}
use Rattle.peer_forward.specs.declared.outcome.Outcome.{Outcome}
use Rattle.peer_forward.specs.declared.outcome.Outcome.TheVariants.{Ended, Failed}
use Rattle.peer_forward.specs.Calls.{Call, ReadCall, Effect, Makes, taken}
use Rattle.peer_forward.specs.Writing.{Writes}
use Rattle.peer_forward.specs.Carrying.{outcome_of, Carried}
use Rattle.peer_forward.proofs.CallLemmas.{Makes-append, taken-append, taken_is}
use Rattle.peer_forward.proofs.WritingLemmas.{wrote_so}

-- a clean outcome comes of such a read
clean_result : (result : Result ℕ Error) → outcome_of result ≡ Ended → result ≡ Ok 0
clean_result (Ok zero) is = refl
clean_result (Ok (suc bytes)) is = absurd cc
clean_result (Err error) is = absurd cc

-- the last call of two lists that are one
read_same : (xs ys : List Call) (buffer buffer' : List ℕ) (answer : Result ℕ Error)
    → xs ++ ReadCall buffer answer ∷ [] ≡ ys ++ ReadCall buffer' (Ok 0) ∷ [] → answer ≡ Ok 0
read_same xs ys buffer buffer' answer e =
    let x = ReadCall buffer answer in
    let y = ReadCall buffer' (Ok 0) in
    let same : x ≡ y = ap (λ l. get_or l 0 x)
    (sym (reverse-append xs (x ∷ [])) ∙ ap reverse e ∙ reverse-append ys (y ∷ [])) in cc

-- a packet of which something is left
pub carried_not : {T : Type 0} (wrote gave : Effect T) (a b : T) (packet : List ℕ)
    (calls : List Call) → Makes wrote gave a calls b → Writes packet calls false
    → Carried wrote gave a packet Failed b
carried_not wrote gave a b packet calls made writes =
    let some = wrote_so packet calls false writes in
    let taken_so = taken_is calls some.writes some.last some.all some.failed in
    record {
      calls = calls;
      made = made;
      carries = inl (writes, refl);
      left = some.left;
      beginning = some.beginning ∙ ap (λ xs. xs ++ some.left) (sym taken_so);
      ended = (
        λ is. absurd cc,
        λ ends. absurd (omega (
          arith,
          some.some_left,
          ap length some.beginning,
          ap length (sym taken_so ∙ ends.0),
          length-append (taken some.writes) some.left,
        )),
      );
    }

-- a packet that was taken whole, and the read after it
pub carried_whole : {T : Type 0} (wrote gave : Effect T) (a b c : T) (packet : List ℕ)
    (writes : List Call) (buffer : List ℕ) (answer : Result ℕ Error) (outcome : Outcome)
    → Makes wrote gave a writes b → Writes packet writes true → length buffer ≡ 1
    → gave b buffer answer c → outcome ≡ outcome_of answer
    → Carried wrote gave a packet outcome c
carried_whole wrote gave a b c packet writes buffer answer outcome made wrote_all room call is =
    let last = ReadCall buffer answer ∷ [] in
    let whole = taken-append writes last ∙ append-nil (taken writes)
    ∙ (wrote_so packet writes true wrote_all).whole in
    record {
      calls = writes ++ last;
      made = Makes-append wrote gave a b c writes last made (c, call, refl);
      carries = inr (writes, buffer, answer, refl, wrote_all, room, is);
      left = [];
      beginning = sym (append-nil (taken (writes ++ last)) ∙ whole);
      ended = (
        λ clean. (
          whole,
          (
            writes,
            buffer,
            room,
            ap (λ r. writes ++ ReadCall buffer r ∷ []) (clean_result answer (sym is ∙ clean)),
          ),
        ),
        λ ends. is ∙ ap outcome_of (read_same writes ends.1.0 buffer ends.1.1 answer ends.1.3),
      );
    }
