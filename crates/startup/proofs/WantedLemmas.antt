-- What more bytes leave of a packet's header, and a CancelRequest whose last byte was seen.
use Rattle.std.proofs.Common.{◌≡◌, ℕ, ◌+◌, ◌-◌, ◌<◌, ◌≤◌, zero, suc, List, [], ◌∷◌, ◌++◌, length, drop, get_or, inl, inr, sym, ap, ◌∙◌, refl, arith, length-append, length-drop}
use Rattle.std.proofs.lemmas.List.{drop-append-le, take_all}
use Rattle.byteorder.specs.Endian.{big_number}
use Rattle.startup.specs.Kinds.{Seen}
use Rattle.startup.specs.FirstPacket.{length_of, code_of, IsKeyLength, Decides, Cancel}
use Rattle.startup.specs.Wanted.{LacksLast}
use Rattle.startup.proofs.PacketLemmas.{AreBytes}
use Rattle.startup.proofs.AnswerLemmas.{cancelled}

-- four bytes stay the first four
four-append : (front more : List ℕ) → 4 ≤ length front
    → big_number 4 (front ++ more) ≡ big_number 4 front
four-append [] more stand = absurd (omega arith)
four-append (a ∷ []) more stand = absurd (omega arith)
four-append (a ∷ b ∷ []) more stand = absurd (omega arith)
four-append (a ∷ b ∷ c ∷ []) more stand = absurd (omega arith)
four-append (a ∷ b ∷ c ∷ d ∷ rest) more stand = refl

-- more bytes leave the length field and the code
pub length_of-append : (front more : List ℕ) → 4 ≤ length front
    → length_of (front ++ more) ≡ length_of front
length_of-append front more stand = four-append front more stand

pub code_of-append : (front more : List ℕ) → 8 ≤ length front
    → code_of (front ++ more) ≡ code_of front
code_of-append front more stand =
    ap (big_number 4) (drop-append-le 4 front more (omega (arith, stand)))
    ∙ four-append (drop 4 front) more (omega (arith, stand, length-drop 4 front))

-- one byte more
AreBytes-one : (last : ℕ) → last < 256 → (i : ℕ) → get_or (last ∷ []) i 0 < 256
AreBytes-one last small zero = small
AreBytes-one last small (suc i) = omega arith

AreBytes-more : (front : List ℕ) (last : ℕ) → AreBytes front → last < 256
    → (i : ℕ) → get_or (front ++ last ∷ []) i 0 < 256
AreBytes-more [] last bytes small i = AreBytes-one last small i
AreBytes-more (a ∷ rest) last bytes small zero = bytes.below 0
AreBytes-more (a ∷ rest) last bytes small (suc i) =
    AreBytes-more rest last (record { below = λ j. bytes.below (suc j) }) small i

-- the key of a CancelRequest has the length that its packet says
key_length : (n : ℕ) → (8 + n ≡ 16) → IsKeyLength n
key_length n is = inl (omega (arith, is))

long_key_length : (n : ℕ) → (8 + n ≡ 32) → IsKeyLength n
long_key_length n is = inr (omega (arith, is))

-- all of a CancelRequest stands but its last byte: with this one it is decided
pub cancel_of : (front key : List ℕ) (last : ℕ) → AreBytes front → last < 256 → LacksLast front
    → key ≡ drop 8 front ++ last ∷ [] → (seen : Seen)
    → Decides seen (front ++ last ∷ []) (Cancel key)
cancel_of front key last bytes small lacks is seen =
    let text = front ++ last ∷ [] in
    let n = length front - 7 in
    let stands = lacks.0.stands in
    let whole : length text ≡ length front + 1 = length-append front (last ∷ []) in
    let measured : length_of text ≡ length_of front = length_of-append front (last ∷ []) (omega (arith, stands)) in
    let sized : IsKeyLength n = elim lacks.0.measured [
      | inl short ↦ key_length n (omega (arith, short, lacks.1))
      | inr long ↦ long_key_length n (omega (arith, long, lacks.1))
    ] in
    let rest : drop 8 text ≡ drop 8 front ++ last ∷ [] = drop-append-le 8 front (last ∷ []) stands in
    let all : length (drop 8 text) ≤ n = omega (arith, whole, length-drop 8 text) in
    cancelled text key n (record { below = AreBytes-more front last bytes small })
    (code_of-append front (last ∷ []) stands ∙ lacks.0.coded) sized
    (omega (arith, measured, lacks.1, stands)) (omega (arith, whole, stands))
    (is ∙ sym rest ∙ sym (take_all n (drop 8 text) all))
