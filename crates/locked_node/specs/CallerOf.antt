-- The invariant of the fields of a caller (internal).
use Rattle.std.specs.Prelude.{◌≡◌, ◌+◌, ◌<◌, ◌≤◌, [], None}
use Rattle.locked_node.specs.Totals.{all_calls}
use Rattle.locked_node.specs.Journal.{CALL_LIMIT}
use Rattle.locked_node.specs.Lock.{CallerView, IsTotalOfShare}
use Rattle.locked_node.specs.declared.caller.Caller.TheInside.{Inside}

-- a caller by its fields
abbrev pub caller_of : {S : Type 0} → Inside S → CallerView
caller_of c = record {
  lock = c.seat.table_id;
  start = c.seat.me.0.start;
  allowance = c.allowance;
  made = c.seat.me.0.made;
  places = c.seat.me.0.places;
  tally = c.tally;
}

-- its seat holds no journal, and says what it says
pub record IsCaller {S : Type 0} (c : Inside S) : Type 0 where
  pub empty : c.seat.me.1 ≡ []
  pub idle : c.seat.me.0.found ≡ None
  pub allowance : c.seat.me.0.allowance ≡ c.allowance
  pub totals : IsTotalOfShare c.seat.me.0 c.tally
  pub some : 0 < c.allowance + all_calls c.tally
  pub within : c.allowance + all_calls c.tally ≤ CALL_LIMIT
