use Rattle.std.proofs.Common.{◌≡◌, ◌≤◌, inl, refl, Ok, Err, arith, ap, take, drop, replicate, length, length-take, List, ℕ, ◌∙◌, ◌++◌}
use Rattle.std.proofs.lemmas.List.{take-append-le}
use Rattle.startup.specs.declared.startup_error.StartupError.TheVariants.{Memory}
use Rattle.session_io.proofs.OpeningLemmas.{ends_refused, ends_of, read_lost, ends_after, read_some_more}
use Rattle.session_io.proofs.login.first_packets.read_more.Goals as goal

pub returns-then-is_err-clause-over : goal.returns-then-is_err-clause-over
returns-then-is_err-clause-over g c _ =
    ends_refused _ _ _ c.args.opening.now c.args.text.now.items Memory (inl refl)
    c.refuse_first.ensures

pub returns-in_default-clause-over : goal.returns-in_default-clause-over
returns-in_default-clause-over g c _ =
    read_lost _ _ _ c.args.opening.now c.args.text.now.items c.read_once.new.buffer
    (Err c.in_default.field-0) c.in_default.ensures.call

pub returns-then-count-eq0-clause-over : goal.returns-then-count-eq0-clause-over
returns-then-count-eq0-clause-over g c _ =
    ends_after _ _ _ _ c.args.opening.now c.args.text.now.items c.read_once.new.buffer
    (Ok c.in-Ok.count) c.in-Ok.ensures.call
    (ends_of _ _ _ c.args.opening.now c.as_slice.result.now c.args.text.now.items
    (c.as_slice.ensures ∙ c.reserve.ensures.items) c.end.ensures)

pub returns-in-Ok-extend_from_slice-clause-more : goal.returns-in-Ok-extend_from_slice-clause-more
returns-in-Ok-extend_from_slice-clause-more g c _ =
    let most : List ℕ = replicate 256 0 in
    let room : length c.read_once.new.buffer ≡ length (take c.min-room.result most) =
    c.read_once.auto.buffer in
    let took : c.in-Ok.count ≤ length c.read_once.new.buffer = c.in-Ok.ensures.bound.0 in
    let all : c.extend_from_slice.new.self.items ≡ c.reserve.new.self.items
    ++ take c.in-Ok.count (c.read_once.new.buffer ++ drop c.min-room.result most) =
    c.in-Ok-extend_from_slice.ensures.ok in
    let within : length (take c.in-Ok.count c.read_once.new.buffer) ≤ c.args.wanted =
    omega (
      arith,
      length-take c.in-Ok.count c.read_once.new.buffer,
      length-take c.min-room.result most,
      room,
      c.min-room.ensures,
    ) in
    read_some_more _ _ _ _ c.read_once.new.buffer c.in-Ok.count c.args.wanted
    c.args.text.now.items _
    (omega (arith, c.if-count-eq0.false)) within c.in-Ok.ensures.call
    (all ∙ ap (λ (xs : List ℕ). c.reserve.new.self.items ++ xs)
    (take-append-le c.in-Ok.count c.read_once.new.buffer (drop c.min-room.result most) took)
    ∙ ap (λ (xs : List ℕ). xs ++ take c.in-Ok.count c.read_once.new.buffer)
    c.reserve.ensures.items)

pub returns-in-Err-clause-over : goal.returns-in-Err-clause-over
returns-in-Err-clause-over g c _ =
    ends_after _ _ _ _ c.args.opening.now c.args.text.now.items c.read_once.new.buffer
    (Ok c.in-Ok.count) c.in-Ok.ensures.call
    (ends_refused _ _ _ c.args.opening.now c.args.text.now.items Memory (inl refl)
    c.refuse_first-in-Err.ensures)
