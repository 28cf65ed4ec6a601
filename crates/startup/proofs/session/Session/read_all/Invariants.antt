use Rattle.std.proofs.Common.{◌≤◌, length, take}
use Rattle.startup.proofs.SessionLemmas.{Taken}
use Rattle.startup.proofs.session.Session.read_all.Given as goal

abbrev pub invariant-parameters : goal.invariant-parameters
invariant-parameters l = record {
  taken : Taken l.body l.rest l.session.user.now l.session.database.now (take l.count l.names);
  room : l.count ≤ length l.names;
}

abbrev pub decreases-parameters : goal.decreases-parameters
decreases-parameters l = length l.rest
