-- Base64 as SCRAM's messages have it (RFC 5802, section 7; RFC 4648, section 4): the standard
-- alphabet, with padding. A text that ends in bits of no byte is no base64.
use Rattle.std.specs.Prelude.{ℕ, List}
use Rattle.base64.specs.GeneralPurpose.{encode_of}
use Rattle.base64.specs.Engines.{standard}

-- the base64 of these bytes
unfoldable pub base64 : List ℕ → List ℕ
base64 bytes = encode_of standard bytes
