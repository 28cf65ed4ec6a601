-- What is known of a message by what it asks for, and of names by the bytes that they begin with.
use Rattle.std.proofs.Common.{◌≡◌, ◌+◌, ◌≤◌, Bool, true, false, if◌then◌else◌, nat_le, nat_lt, ◌==◌, ◌&&◌, ℕ, zero, suc, cond, List, [], ◌∷◌, codes, length, take, sym, ap, ◌∙◌, arith}
use Rattle.std.specs.List.{list_all, count_by}
use Rattle.std.proofs.lemmas.Bool.{and_parts}
use Rattle.std.proofs.lemmas.Bool.Decides.{nat_tests}
use Rattle.std.proofs.lemmas.List.Sums.{sum_by-cons}
use Rattle.pg_frames.specs.declared.frame.Frame.{Frame}
use Rattle.startup.specs.declared.error_code.ErrorCode.TheVariants.{FeatureNotSupported, ProtocolViolation}
use Rattle.client_state.specs.declared.client_message.ClientMessage.{ClientMessage}
use Rattle.client_state.specs.declared.client_message.ClientMessage.TheVariants.{Request, Gathered, Terminate, Refused}
use Rattle.client_state.specs.Text.{is_zero, is_one_string, is_one_of}
use Rattle.client_state.specs.ClientMessage.{client_message, by_kind, by_names}

-- of these choices one alone gives a part
choice : (leaves query whole sync bare more fits left_out : Bool) (says : ClientMessage)
    → (if leaves then Terminate
    else (if query then (if whole then Request else Refused ProtocolViolation)
    else (if sync then (if bare then Request else Refused ProtocolViolation)
    else (if more then (if fits then says else Refused ProtocolViolation)
    else (if left_out then Refused FeatureNotSupported else Refused
    ProtocolViolation))))) ≡ Gathered
    → fits ≡ true
choice true query whole sync bare more fits left_out says is = cc
choice false true true sync bare more fits left_out says is = cc
choice false true false sync bare more fits left_out says is = cc
choice false false whole true true more fits left_out says is = cc
choice false false whole true false more fits left_out says is = cc
choice false false whole false bare true true left_out says is = cc
choice false false whole false bare true false left_out says is = cc
choice false false whole false bare false fits true says is = cc
choice false false whole false bare false fits false says is = cc

-- what is gathered keeps to its limit
pub part_fits : (limit gathered : ℕ) (frame : Frame)
    → client_message limit gathered frame ≡ Gathered → gathered + (5 + length frame.body) ≤ limit
unfolding client_message
part_fits limit gathered frame is =
    let fits : nat_le (gathered + (5 + length frame.body)) limit ≡ true =
    choice (frame.kind == 88) (frame.kind == 81)
    ((gathered == 0) && nat_le (4 + length frame.body) limit && is_one_string frame.body)
    (frame.kind == 83) (length frame.body == 0) (is_one_of (codes "PBDEC") frame.kind)
    (nat_le (gathered + (5 + length frame.body)) limit)
    (is_one_of (codes "HFdcf") frame.kind) (by_kind frame.kind frame.body) is in
    grind (arith, nat_tests, fits)

-- a text with this many zero bytes at its front has at least as many strings
zeros_shown : (count : ℕ) (body : List ℕ) → count ≤ length body
    → list_all is_zero (take count body) ≡ true → count ≤ count_by is_zero body
zeros_shown zero body there zeros = omega arith
zeros_shown (suc n) [] there zeros = absurd (omega (arith, there))
zeros_shown (suc n) (byte ∷ rest) there zeros =
    let both : (is_zero byte ≡ true) × (list_all is_zero (take n rest) ≡ true) =
    and_parts (is_zero byte) (list_all is_zero (take n rest)) zeros in
    let more : n ≤ count_by is_zero rest = zeros_shown n rest (omega (arith, there)) both.1 in
    let one : ℕ = 1 in
    let none : ℕ = 0 in
    let here : cond (is_zero byte) one none ≡ one = ap (λ (b : Bool). cond b one none) both.0 in
    let whole : count_by is_zero (byte ∷ rest) ≡ cond (is_zero byte) one none + count_by is_zero
    rest = sum_by-cons (λ (x : ℕ). cond (is_zero x) 1 0) byte rest in
    omega (arith, more, here, whole)

-- a message whose names are empty
pub named_empty : (count : ℕ) (body : List ℕ)
    → (nat_le count (length body) && list_all is_zero (take count body)) ≡ true
    → Gathered ≡ by_names count body
named_empty count body front =
    let both : (nat_le count (length body) ≡ true) × (list_all is_zero (take count body) ≡ true) =
    and_parts (nat_le count (length body)) (list_all is_zero (take count body)) front in
    let there : count ≤ length body = grind (arith, nat_tests, both.0) in
    let shown : count ≤ count_by is_zero body = zeros_shown count body there both.1 in
    let enough : nat_lt (count_by is_zero body) count ≡ false = grind (arith, nat_tests, shown) in
    sym (
    ap (λ (b : Bool). if b then Refused ProtocolViolation else
    (if list_all is_zero (take count body) then Gathered else Refused FeatureNotSupported))
    enough
    ∙ ap (λ (b : Bool). if b then Gathered else Refused FeatureNotSupported) both.1
    )
