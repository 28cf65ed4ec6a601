-- The first packets as bytes (PostgreSQL manual, "Message Formats"): StartupMessage of either
-- version, CancelRequest, SSLRequest, GSSENCRequest. That the code of protocol 3.2 asks for a long
-- key is own.
use Rattle.std.specs.Prelude.{ℕ, ◌≡◌, ◌+◌, ◌*◌, ◌^◌, List, [], ◌++◌, length}
use Rattle.byteorder.specs.Endian.{big_bytes}
use Rattle.pg_ids.specs.declared.any_key.Kind.{Kind}
use Rattle.pg_ids.specs.declared.any_key.Kind.TheVariants.{Short, Long}

-- the code of a StartupMessage, the version's two numbers: clients of protocol 3.0 get short keys,
-- and those of 3.2 long ones (own)
abbrev pub startup_code : Kind → ℕ
startup_code Short = 3 * 2 ^ 16
startup_code Long = 3 * 2 ^ 16 + 2

-- the codes of the other first packets
abbrev pub cancel_code : ℕ
cancel_code = 80877102

abbrev pub ssl_code : ℕ
ssl_code = 80877103

abbrev pub gss_code : ℕ
gss_code = 80877104

-- a packet with no type byte: an Int32 length that counts itself, an Int32 code, and the body
abbrev pub packet : ℕ → List ℕ → List ℕ
packet code body = big_bytes 4 (8 + length body) ++ big_bytes 4 code ++ body

-- the packet that names a key to be cancelled
abbrev pub cancel_request : List ℕ → List ℕ
cancel_request key = packet cancel_code key

-- the packets that ask for encryption
abbrev pub ssl_request : List ℕ
ssl_request = packet ssl_code []

abbrev pub gss_request : List ℕ
gss_request = packet gss_code []

-- the packet that opens a session, by its client's kind of key and its body
abbrev pub startup_message : Kind → List ℕ → List ℕ
startup_message kind body = packet (startup_code kind) body

-- the text begins with this packet
pub record Begins (text whole : List ℕ) : Type 0 where
  pub after : List ℕ
  pub spelled : text ≡ whole ++ after
