-- A query as an enum of the code (internal).
use Rattle.stub_server.specs.declared.query.Query.TheVariants as lent
use Rattle.stub_server.specs.declared.query.Query.{Query as Lent}
use Rattle.stub_server.specs.Query.{Query, Hold, Echo, Begin, Commit, Other}

-- the same with its value as a list
abbrev pub asked : Lent → Query
asked lent.Hold = Hold
asked (lent.Echo value) = Echo value.now
asked lent.Begin = Begin
asked lent.Commit = Commit
asked lent.Other = Other
