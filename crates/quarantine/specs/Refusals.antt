-- Number of the refusal at the greatest number of open tickets, 31 (own).
use Rattle.std.specs.Prelude.{ℕ}

-- as many tickets are open as may be
abbrev pub BUSY : ℕ
BUSY = 31
