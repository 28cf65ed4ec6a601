-- The first five bytes of a frame, as the code reads them (internal).
use Rattle.std.specs.Prelude.{ℕ, ◌≡◌, ◌<◌, ◌≤◌, ◌^◌, List, length, drop, slice_index, IsTrue}
use Rattle.byteorder.specs.Endian.{big_number}
use Rattle.pg_frames.specs.declared.header.Header.{Header}
use Rattle.pg_frames.specs.FrameText.{is_type}

-- the bytes begin with this type byte and this length field, both of the format
pub record IsHeader (limit : ℕ) (bytes : List ℕ) (header : Header) : Type 0 where
  pub whole : 5 ≤ length bytes
  pub kind : header.kind ≡ slice_index bytes 0
  pub type_byte : IsTrue (is_type header.kind)
  pub number : header.length ≡ big_number 4 (drop 1 bytes)
  pub low : 4 ≤ header.length
  pub high : header.length ≤ limit
  pub fits : header.length < 2 ^ 32
