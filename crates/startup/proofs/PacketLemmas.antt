-- What the fields of a text are that begins with a packet, and the packet that a text begins with.
use Rattle.std.proofs.Common.{◌≡◌, ℕ, ◌+◌, ◌^◌, ◌<◌, ◌≤◌, zero, suc, ◌/◌, ◌%◌, List, [], ◌∷◌, ◌++◌, length, take, drop, get_or, sym, ap, ◌∙◌, subst, arith, length-append, length-drop}
use Rattle.std.proofs.Math.Seq.{take-append_seam}
use Rattle.std.proofs.lemmas.List.{take-append-drop, drop-drop}
use Rattle.byteorder.specs.Endian.{big_bytes, big_number}
use Rattle.byteorder.specs.Numbers.{big_number-reads_back}
use Rattle.startup.specs.Packet.{packet, Begins}
use Rattle.startup.specs.FirstPacket.{length_of, code_of}

-- the fields of a text that begins with a packet
pub record Fields (text : List ℕ) (code : ℕ) (body : List ℕ) : Type 0 where
  pub whole : 8 + length body ≤ length text
  pub measured : length_of text ≡ 8 + length body
  pub coded : code_of text ≡ code
  pub bodied : body ≡ take (length body) (drop 8 text)

fields_of_packet : (code : ℕ) (body after : List ℕ) → code < 2 ^ 32 → 8 + length body < 2 ^ 32 → Fields (packet code body ++ after) code body
fields_of_packet code body after fits small = record {
  whole = omega (arith, length-append body after);
  measured = big_number-reads_back 4 (8 + length body) (big_bytes 4 code ++ (body ++ after)) small;
  coded = big_number-reads_back 4 code (body ++ after) fits;
  bodied = sym (take-append_seam body after);
}

pub fields_of : (text : List ℕ) (code : ℕ) (body : List ℕ) → code < 2 ^ 32 → 8 + length body < 2 ^ 32 → Begins text (packet code body) → Fields text code body
fields_of text code body fits small begins =
    subst (λ (t : List ℕ). Fields t code body) (sym begins.spelled) (fields_of_packet code body begins.after fits small)

-- each element is a byte
pub record AreBytes (text : List ℕ) : Type 0 where
  pub below : (i : ℕ) → get_or text i 0 < 256

-- four bytes are those of their number
digits : (a b c d : ℕ) → a < 256 → b < 256 → c < 256 → d < 256 → big_bytes 4 (big_number 4 (a ∷ b ∷ c ∷ d ∷ [])) ≡ a ∷ b ∷ c ∷ d ∷ []
digits a b c d p q r s =
    let n = big_number 4 (a ∷ b ∷ c ∷ d ∷ []) in
    let at_a : n / 16777216 % 256 ≡ a = omega arith in
    let at_b : n / 65536 % 256 ≡ b = omega arith in
    let at_c : n / 256 % 256 ≡ c = omega arith in
    let at_d : n % 256 ≡ d = omega arith in
    cc

four_bytes : (text : List ℕ) → AreBytes text → 4 ≤ length text → big_bytes 4 (big_number 4 text) ++ drop 4 text ≡ text
four_bytes [] bytes stand = absurd (omega arith)
four_bytes (a ∷ []) bytes stand = absurd (omega arith)
four_bytes (a ∷ b ∷ []) bytes stand = absurd (omega arith)
four_bytes (a ∷ b ∷ c ∷ []) bytes stand = absurd (omega arith)
four_bytes (a ∷ b ∷ c ∷ d ∷ rest) bytes stand =
    ap (λ (front : List ℕ). front ++ rest) (digits a b c d (bytes.below 0) (bytes.below 1) (bytes.below 2) (bytes.below 3))

-- a list is its front and the rest
AreBytes-drop : (n : ℕ) (text : List ℕ) → AreBytes text → AreBytes (drop n text)
AreBytes-drop zero text bytes = bytes
AreBytes-drop (suc n) [] bytes = bytes
AreBytes-drop (suc n) (a ∷ rest) bytes = AreBytes-drop n rest (record { below = λ i. bytes.below (suc i) })

-- equal parts make equal texts
spelled_by : (f : ℕ → List ℕ) (text back body rest after : List ℕ) (m n c code : ℕ) → f m ++ back ≡ text → f c ++ rest ≡ back → body ++ after ≡ rest → m ≡ n → c ≡ code → text ≡ f n ++ (f code ++ (body ++ after))
spelled_by f text back body rest after m n c code p q r s t = cc

-- a text with these fields begins with the packet
pub begins_packet : (text : List ℕ) (code : ℕ) (body : List ℕ) → AreBytes text → Fields text code body → Begins text (packet code body)
begins_packet text code body bytes fields =
    let measured = four_bytes text bytes (omega (arith, fields.whole)) in
    let coded : big_bytes 4 (code_of text) ++ drop 8 text ≡ drop 4 text =
    ap (λ (rest : List ℕ). big_bytes 4 (code_of text) ++ rest) (sym (drop-drop 4 4 text)) ∙ four_bytes (drop 4 text) (AreBytes-drop 4 text bytes) (omega (arith, fields.whole, length-drop 4 text)) in
    let after = drop (length body) (drop 8 text) in
    let bodied : body ++ after ≡ drop 8 text = ap (λ (front : List ℕ). front ++ after) fields.bodied ∙ take-append-drop (length body) (drop 8 text) in
    record {
      after = after;
      spelled = spelled_by (big_bytes 4) text (drop 4 text) body (drop 8 text) after (length_of text) (8 + length body) (code_of text) code measured coded bodied fields.measured fields.coded;
    }
