-- SASLprep (RFC 4013, a profile of RFC 3454), as PostgreSQL prepares a password (saslprep.c): a
-- password that is ASCII stays as it is, and so does one that is no UTF-8 or that the profile refuses.
use Rattle.std.specs.Prelude.{ℕ, ◌≡◌, ◌%◌, ◌==◌, ◌&&◌, ◌||◌, Bool, true, false, not, nat_le, if◌then◌else◌, List, Option, None, Some, chars, encode_utf8_all, count_by, slice_index, length, ◌-◌}
use Rattle.std.specs.List.{filter_map, list_any}
use Rattle.std.specs.Str.{IsAscii, IsUtf8}
use Rattle.unicode_normalization.specs.Forms.{nfkc}
use Rattle.scram.specs.declared.tables.TheConstants.{SPACES, NOTHING, PROHIBITED, UNASSIGNED, RIGHT_TO_LEFT, LEFT_TO_RIGHT}

-- a code point is in the table of these edges: as many ranges have begun as haven't ended, and one
abbrev pub is_in : List ℕ → ℕ → Bool
is_in table c = (count_by (λ edge. nat_le edge c) table % 2) == 1

-- the tables of RFC 3454
unfoldable pub is_space : ℕ → Bool
is_space c = is_in SPACES c

unfoldable pub is_nothing : ℕ → Bool
is_nothing c = is_in NOTHING c

unfoldable pub is_prohibited : ℕ → Bool
is_prohibited c = is_in PROHIBITED c

unfoldable pub is_unassigned : ℕ → Bool
is_unassigned c = is_in UNASSIGNED c

unfoldable pub is_right_to_left : ℕ → Bool
is_right_to_left c = is_in RIGHT_TO_LEFT c

unfoldable pub is_left_to_right : ℕ → Bool
is_left_to_right c = is_in LEFT_TO_RIGHT c

-- mapping (RFC 4013, section 2.1): another space becomes the ASCII one, and some characters nothing
abbrev pub mapped_char : ℕ → Option ℕ
mapped_char c = if is_space c then Some 32 else if is_nothing c then None else Some c

-- and normalization (section 2.2)
abbrev pub normalized : List ℕ → List ℕ
normalized cs = nfkc (filter_map mapped_char cs)

-- a character that may not stand in a password (sections 2.3 and 2.5)
abbrev pub is_refused_char : ℕ → Bool
is_refused_char c = is_prohibited c || is_unassigned c

-- characters in both directions, or text from right to left that doesn't begin and end so (RFC
-- 3454, section 6)
abbrev pub is_mixed : List ℕ → Bool
is_mixed cs =
    list_any is_right_to_left cs
    && (list_any is_left_to_right cs || not (is_right_to_left (slice_index cs 0))
    || not (is_right_to_left (slice_index cs (length cs - 1))))

-- the profile refuses these characters, or there are none
abbrev pub is_refused : List ℕ → Bool
is_refused cs = (length cs == 0) || list_any is_refused_char cs || is_mixed cs

-- these bytes are prepared so
pub record IsPrepared (bytes prepared : List ℕ) : Type 0 where
  pub ascii : IsAscii bytes → prepared ≡ bytes
  pub no_text : ¬ (IsUtf8 bytes) → prepared ≡ bytes
  pub refused : is_refused (normalized (chars bytes)) ≡ true → prepared ≡ bytes
  pub others : ¬ (IsAscii bytes) → IsUtf8 bytes → is_refused (normalized (chars bytes)) ≡ false
      → prepared ≡ encode_utf8_all (normalized (chars bytes))
