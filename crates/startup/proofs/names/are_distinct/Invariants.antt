use Rattle.std.proofs.Common.{◌≡◌, ℕ, ◌+◌, ◌<◌, false, List, [], get_or, Bor}
use Rattle.std.specs.Str.{bytes_eq}
use Rattle.startup.proofs.names.are_distinct.Given as goal

-- of the names so far no two neighbours are the same
abbrev pub invariant-loop-i : goal.invariant-loop-i
invariant-loop-i l =
    let none : Bor (List ℕ) = record { ref_ptr = (0, 0); now = [] } in
    (k : ℕ) → k + 1 < l.i → bytes_eq (get_or l.names k none).now (get_or l.names (k + 1) none).now ≡ false
