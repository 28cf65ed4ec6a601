-- A link to a server as contracts see it (own): its stream, and what was read of it and isn't passed
-- on.
use Rattle.pg_frames.specs.Passage.{Passage}

pub record LinkView (L : Type 0) : Type 0 where
  pub stream : L
  pub flow : Passage
