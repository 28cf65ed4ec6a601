-- How a connection ends that isn't served (own), by the reason and by whether its client has sent a
-- whole StartupMessage. A refused packet, and one that its client didn't complete, gets no byte and a
-- clean end. One that is given up otherwise may carry a cancel request that wasn't read: it gets no
-- byte and a reset, unless a StartupMessage shows that it carries none.
use Rattle.std.specs.Prelude.{Bool, true, false, ⊤}
use Rattle.sockets.specs.declared.unserved.Unserved.{Unserved}
use Rattle.sockets.specs.declared.unserved.Unserved.TheVariants.{Refused, Left, Late, Evicted, Shortage, Draining}
use Rattle.sockets.specs.declared.unserved.UnservedEnd.{UnservedEnd}
use Rattle.sockets.specs.declared.unserved.UnservedEnd.TheVariants.{Clean, Reset, TooMany, Shutdown}

-- the end of a connection
abbrev pub unserved_end : Unserved → Bool → UnservedEnd
unserved_end Refused _ = Clean
unserved_end Left _ = Clean
unserved_end Late _ = Reset
unserved_end Evicted true = TooMany
unserved_end Evicted false = Reset
unserved_end Shortage true = TooMany
unserved_end Shortage false = Reset
unserved_end Draining true = Shutdown
unserved_end Draining false = Reset

-- this side gives the connection up, before its first packets were judged
abbrev pub IsGivenUp : Unserved → Type 0
IsGivenUp Refused = ⊥
IsGivenUp Left = ⊥
IsGivenUp Late = ⊤
IsGivenUp Evicted = ⊤
IsGivenUp Shortage = ⊤
IsGivenUp Draining = ⊤
