-- Which of SSLRequest and GSSENCRequest a connection has sent; one of each is allowed (own).
use Rattle.std.specs.Prelude.{Bool, false}

-- was an SSLRequest answered, was a GSSENCRequest
pub record Seen : Type 0 where
  pub ssl : Bool
  pub gss : Bool

-- a connection's beginning
abbrev pub none_seen : Seen
none_seen = record { ssl = false; gss = false }
