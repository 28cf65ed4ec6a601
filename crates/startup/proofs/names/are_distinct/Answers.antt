use Rattle.std.proofs.Common.{◌≡◌, ◌<◌, ◌+◌, ◌-◌, ℕ, true, List, length, get_or, Bor, [], refl, ap, sym, ◌∙◌, arith}
use Rattle.std.proofs.lemmas.Bool.{false≢true}
use Rattle.std.specs.Str.{bytes_eq}
use Rattle.startup.proofs.NameLemmas.{distinct_once_sorted, repeated_once_sorted}
use Rattle.startup.proofs.names.are_distinct.Goals as goal

pub returns-then-eq : goal.returns-then-eq
returns-then-eq c =
    let none : Bor (List ℕ) = record { ref_ptr = (0, 0); now = [] } in
    let sorted = c.sort_unstable.new.self in
    let i = c.loop-i.i in
    let here : i - 1 + 1 ≡ i = omega (arith, c.loop-i.auto.i) in
    let within : i - 1 + 1 < length sorted = omega (arith, here, c.loop-i-test.true) in
    let twice : true ≡ bytes_eq (get_or sorted (i - 1) none).now (get_or sorted i none).now = c.if-eq.ensures in
    let next : bytes_eq (get_or sorted (i - 1) none).now (get_or sorted (i - 1 + 1) none).now ≡ true =
    ap (λ (n : ℕ). bytes_eq (get_or sorted (i - 1) none).now (get_or sorted n none).now) here ∙ sym twice in
    (λ f. absurd (false≢true f), λ distinct. absurd (repeated_once_sorted c.args.names.now sorted none (i - 1) c.sort_unstable.ensures.permutation within next distinct))

pub returns : goal.returns
returns c =
    let none : Bor (List ℕ) = record { ref_ptr = (0, 0); now = [] } in
    (λ t. distinct_once_sorted c.args.names.now c.sort_unstable.new.self none c.sort_unstable.ensures.permutation c.sort_unstable.ensures.sorted (λ k within. c.loop-i.invariant k (omega arith)), λ d. refl)
