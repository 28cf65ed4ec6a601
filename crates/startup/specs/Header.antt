-- The length and the code of a packet, as the code reads them (internal).
use Rattle.std.specs.Prelude.{ℕ, ◌≡◌, ◌<◌, ◌≤◌, ◌⊎◌, List, length, Result, Ok, Err, Option, Some, None}
use Rattle.startup.specs.FirstPacket.{length_of, code_of, HasHeader}
use Rattle.startup.specs.declared.header.Header.{Header}
use Rattle.startup.specs.declared.startup_error.StartupError.{StartupError}
use Rattle.startup.specs.declared.startup_error.StartupError.TheVariants.{TooShort, TooLong}

-- too few bytes stand, and the length that does is within its limits
abbrev pub IsHeaderCut : List ℕ → Type 0
IsHeaderCut text =
    (length text < 8) × ((length text < 4) ⊎ ((8 ≤ length_of text) × (length_of text ≤ 10000)))

-- the header, none where it doesn't stand, or what its length is refused for
abbrev pub IsHeaderRead : List ℕ → Result (Option Header) StartupError → Type 0
IsHeaderRead text (Ok None) = IsHeaderCut text
IsHeaderRead text (Ok (Some header)) =
    HasHeader text × (header.length ≡ length_of text) × (header.code ≡ code_of text)
IsHeaderRead text (Err error) =
    (4 ≤ length text)
    × (((error ≡ TooShort) × (length_of text < 8)) ⊎ ((error ≡ TooLong) × (10000 < length_of text)))
