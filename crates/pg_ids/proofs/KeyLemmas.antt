-- The parts of a number make the number again, and so do its bytes.
use Rattle.std.proofs.Common.{◌≡◌, ℕ, zero, suc, ◌+◌, ◌*◌, ◌/◌, ◌%◌, ◌<◌, List, [], ◌∷◌, ◌++◌, length, get_or, take, drop, sym, ap, ◌∙◌, arith, length-take, length-drop}
use Rattle.std.specs.Int.{w64, from_be_bytes}
use Rattle.std.proofs.lemmas.Nat.{be_bytes_8}
use Rattle.std.proofs.lemmas.List.{take-append-drop}
use Rattle.byteorder.specs.Endian.{big_number, big_bytes}
use Rattle.byteorder.specs.Numbers.{big_number-reads_back}
use Rattle.pg_ids.specs.AnyKey.{IsLongPart, long_part_bytes}
use Rattle.pg_ids.specs.declared.long_part.LongPart.{LongPart}

-- a number is the sum of its parts, each at its place
pub joined : (n : ℕ) → n / 1125899906842624 * 1125899906842624 + n / 17179869184 % 65536 * 17179869184 + n / 4 % 4294967296 * 4 + n % 4 ≡ n
joined n = omega arith

-- eight bytes are those of the number in them
pub bytes_again : (bytes : List ℕ) (n : ℕ) → length bytes ≡ 8 → ((i : ℕ) → get_or bytes i 0 < 256) → n ≡ big_number 8 bytes → big_bytes 8 n ≡ bytes
bytes_again bytes n len small is =
    let e : n ≡ from_be_bytes w64 bytes = omega arith in be_bytes_8 bytes n len small e

-- each element is a byte
abbrev pub AreBytes : List ℕ → Type 0
AreBytes bytes = (i : ℕ) → get_or bytes i 0 < 256

-- so is each of a front, and of a rest
front_bytes : (n : ℕ) (bytes : List ℕ) → AreBytes bytes → AreBytes (take n bytes)
front_bytes zero bytes small i = omega arith
front_bytes (suc n) [] small i = omega arith
front_bytes (suc n) (b ∷ bs) small zero = small 0
front_bytes (suc n) (b ∷ bs) small (suc i) = front_bytes n bs (λ j. small (suc j)) i

rest_bytes : (n : ℕ) (bytes : List ℕ) → AreBytes bytes → AreBytes (drop n bytes)
rest_bytes zero bytes small = small
rest_bytes (suc n) [] small = small
rest_bytes (suc n) (b ∷ bs) small = rest_bytes n bs (λ j. small (suc j))

-- sixteen bytes are those of the two numbers in them
pub halves_again : (bytes : List ℕ) (m n : ℕ) → length bytes ≡ 16 → AreBytes bytes → m ≡ big_number 8 (take 8 bytes) → n ≡ big_number 8 (drop 8 bytes) → big_bytes 8 m ++ big_bytes 8 n ≡ bytes
halves_again bytes m n len small is_m is_n =
    let front = bytes_again (take 8 bytes) m (omega (arith, len, length-take 8 bytes)) (front_bytes 8 bytes small) is_m in
    let back = bytes_again (drop 8 bytes) n (omega (arith, len, length-drop 8 bytes)) (rest_bytes 8 bytes small) is_n in
    ap (λ (xs : List ℕ). xs ++ big_bytes 8 n) front ∙ ap (λ (xs : List ℕ). take 8 bytes ++ xs) back ∙ take-append-drop 8 bytes

-- and they are of no other two
pub only_halves : (bytes : List ℕ) (m n : ℕ) (part : LongPart) → m ≡ big_number 8 (take 8 bytes) → n ≡ big_number 8 (drop 8 bytes) → IsLongPart part → long_part_bytes part ≡ bytes → part ≡ record { boot = m; serial = n }
only_halves bytes m n part is_m is_n is e =
    let boot : part.boot ≡ m =
    sym (big_number-reads_back 8 part.boot [] is.boot) ∙ ap (λ (xs : List ℕ). big_number 8 (take 8 xs)) e ∙ sym is_m in
    let serial : part.serial ≡ n =
    sym (big_number-reads_back 8 part.serial [] is.serial) ∙ ap (λ (xs : List ℕ). big_number 8 (drop 8 xs)) e ∙ sym is_n in
    ap (λ (b : ℕ). part_of b part.serial) boot ∙ ap (λ (s : ℕ). part_of m s) serial
  where
    part_of : ℕ → ℕ → LongPart
    part_of boot serial = record { boot = boot; serial = serial }
