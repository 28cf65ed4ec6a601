-- The seed of `serve` (own): 32 bytes among the arguments or in a file.
use Rattle.std.specs.Prelude.{ℕ, ◌==◌, Bool, ◌||◌, if◌then◌else◌, List, [], ◌∷◌, length, take, drop, Option, Some, None, codes}
use Rattle.std.specs.Option.{option_map}
use Rattle.std.specs.Result.{result_ok}
use Rattle.std.specs.Str.{bytes_eq}
use Rattle.hex.specs.Hex.{decode_sized}
use Rattle.command_line.specs.declared.seed.SeedText.{SeedText as SeedTextRead}
use Rattle.command_line.specs.declared.seed.SeedText.TheVariants as read
use Rattle.command_line.specs.declared.seed.SeedSource.{SeedSource as SourceRead}
use Rattle.command_line.specs.declared.seed.SeedSource.TheVariants as found

-- how a seed is given: by its digits, or by the name of a file that holds it
pub data SeedText : Type 0 where
  Digits : List ℕ → SeedText
  InFile : List ℕ → SeedText

-- a seed's 32 bytes, or the name of a file that holds them
pub data SeedSource : Type 0 where
  Bytes : List ℕ → SeedSource
  File : List ℕ → SeedSource

-- just one of both is given
abbrev pub one_of : Option (List ℕ) → Option (List ℕ) → Option SeedText
one_of None None = None
one_of (Some digits) None = Some (Digits digits)
one_of None (Some file) = Some (InFile file)
one_of (Some digits) (Some file) = None

-- the 32 bytes that 64 hexadecimal digits are
abbrev pub seed_of : List ℕ → Option (List ℕ)
seed_of digits = result_ok (decode_sized digits 32)

abbrev pub source_of : SeedText → Option SeedSource
source_of (Digits digits) = option_map Bytes (seed_of digits)
source_of (InFile file) = Some (File file)

-- nothing or a line's end, of which a carriage return (13) and a line feed (10) are one
abbrev pub is_line_end : List ℕ → Bool
is_line_end bytes = bytes_eq bytes []
    || (bytes_eq bytes (10 ∷ []) || bytes_eq bytes (13 ∷ 10 ∷ []))

-- the seed that a file holds: 32 bytes, or 64 hexadecimal digits, with or without a line's end
unfoldable pub seed_held : List ℕ → Option (List ℕ)
seed_held bytes =
    if length bytes == 32 then Some bytes
    else (if is_line_end (drop 64 bytes) then seed_of (take 64 bytes) else None)

-- How much of a file counts: of the kernel's source of random bytes, which has no end, the first 32
-- bytes; of any other all, up to more bytes than a seed has.
abbrev pub counted_bytes : List ℕ → ℕ
counted_bytes name = if bytes_eq name (codes "/dev/urandom") then 32 else 67

-- ---- what the program's own types say

abbrev pub text_in : SeedTextRead → SeedText
text_in (read.Digits digits) = Digits digits.now
text_in (read.File name) = InFile name.now

abbrev pub source_in : SourceRead → SeedSource
source_in (found.Bytes seed) = Bytes seed
source_in (found.File name) = File name.now
