-- HMAC (RFC 2104) and Hi, which is PBKDF2 of one block (RFC 5802, section 2.2; RFC 8018, section
-- 5.2), over H, which is SHA-256 (FIPS 180-4, as the kit's `sha2` defines it). H has blocks of 64
-- bytes, and digests of 32. A text is a list of bytes.
use Rattle.std.specs.Prelude.{ℕ, zero, suc, ◌-◌, List, [], ◌∷◌, ◌++◌, length, replicate, map, bit_xor, nat_lt, if◌then◌else◌}
use Rattle.sha2.specs.Sha256.{sha256}

-- XOR of two texts, byte by byte, as long as the shorter
abbrev pub xor_bytes : List ℕ → List ℕ → List ℕ
xor_bytes [] ys = []
xor_bytes (x ∷ xs) [] = []
xor_bytes (x ∷ xs) (y ∷ ys) = bit_xor x y ∷ xor_bytes xs ys

-- a key that is longer than a block is replaced by its digest
abbrev pub short_key : List ℕ → List ℕ
short_key key = if nat_lt 64 (length key) then sha256 key else key

-- zeros after it fill the block
unfoldable pub key_block : List ℕ → List ℕ
key_block key = short_key key ++ replicate (64 - length (short_key key)) 0

-- the block, each byte of it XOR this one
unfoldable pub key_pad : ℕ → List ℕ → List ℕ
key_pad byte key = map (λ b. bit_xor b byte) (key_block key)

-- HMAC: ipad is the byte 0x36, and opad 0x5C
unfoldable pub hmac : List ℕ → List ℕ → List ℕ
hmac key text = sha256 (key_pad 0x5C key ++ sha256 (key_pad 0x36 key ++ text))

-- U 1 of Hi is HMAC(str, salt + INT(1)), where INT(1) is four bytes, the highest first; each one
-- after it is HMAC of the one before. u_of n is U (n + 1)
unfoldable pub u_of : List ℕ → List ℕ → ℕ → List ℕ
u_of str salt zero = hmac str (salt ++ (0 ∷ 0 ∷ 0 ∷ 1 ∷ []))
u_of str salt (suc n) = hmac str (u_of str salt n)

-- U 1 XOR U 2 XOR .. XOR U (n + 1)
unfoldable pub xor_of_first : List ℕ → List ℕ → ℕ → List ℕ
xor_of_first str salt zero = u_of str salt zero
xor_of_first str salt (suc n) = xor_bytes (xor_of_first str salt n) (u_of str salt (suc n))

-- Hi(str, salt, i), for i of at least 1
abbrev pub hi : List ℕ → List ℕ → ℕ → List ℕ
hi str salt iterations = xor_of_first str salt (iterations - 1)
