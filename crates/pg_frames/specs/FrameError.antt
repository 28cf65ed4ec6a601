-- Numbers of the errors in frames, 10 to 13 (own).
use Rattle.std.specs.Prelude.{ℕ}
use Rattle.pg_frames.specs.declared.error.FrameError.{FrameError}
use Rattle.pg_frames.specs.declared.error.FrameError.TheVariants.{BadLength, TooLong, BadType, Memory}

-- the number of an error
abbrev pub number_of : FrameError → ℕ
number_of BadLength = 10
number_of TooLong = 11
number_of BadType = 12
number_of Memory = 13
