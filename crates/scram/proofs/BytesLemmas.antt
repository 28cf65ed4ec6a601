-- XOR and comparison of bytes, one by one.
use Rattle.std.proofs.Common.{◌≡◌, ◌↔◌, ℕ, zero, suc, ◌+◌, ◌<◌, ◌≤◌, Bool, if◌then◌else◌, map, List, [], ◌∷◌, ◌++◌, length, take, drop, set, get_or, refl, sym, ap, ◌∙◌, subst, arith, bit_xor, bit_or, add-one, ⊎_elim}
use Rattle.std.proofs.lemmas.List.{get_or_default}
use Rattle.std.proofs.lemmas.List.Edits.{map_over_more}
use Rattle.std.proofs.lemmas.Nat.{le_or_l, le_or_r}
use Rattle.std.proofs.lemmas.Bool.{cases_lt, lt-ltb, le-ltb}
use lib.Bits.{xor_self, xor_assoc, xor_zero_l, xor_zero_r}
use Rattle.scram.specs.Hmac.{xor_bytes, short_key}
use Rattle.sha2.specs.Sha256.{sha256}

get_xored : (i : ℕ) (xs ys : List ℕ) → i < length xs → i < length ys → get_or (xor_bytes (take i xs) (take i ys) ++ drop i xs) i 0 ≡ get_or xs i 0
get_xored i [] ys a b = absurd (omega arith)
get_xored i (x ∷ xs) [] a b = absurd (omega arith)
get_xored zero (x ∷ xs) (y ∷ ys) a b = refl
get_xored (suc i) (x ∷ xs) (y ∷ ys) a b = get_xored i xs ys (omega arith) (omega arith)

set_xored : (i : ℕ) (xs ys : List ℕ) → i < length xs → i < length ys → set (xor_bytes (take i xs) (take i ys) ++ drop i xs) i (bit_xor (get_or xs i 0) (get_or ys i 0)) ≡ xor_bytes (take (suc i) xs) (take (suc i) ys) ++ drop (suc i) xs
set_xored i [] ys a b = absurd (omega arith)
set_xored i (x ∷ xs) [] a b = absurd (omega arith)
set_xored zero (x ∷ xs) (y ∷ ys) a b = refl
set_xored (suc i) (x ∷ xs) (y ∷ ys) a b = ap (λ (rest : List ℕ). bit_xor x y ∷ rest) (set_xored i xs ys (omega arith) (omega arith))

-- a loop that XORs byte after byte into the first text
pub xor_more : (i : ℕ) (xs ys out : List ℕ) → i < length xs → i < length ys → out ≡ xor_bytes (take i xs) (take i ys) ++ drop i xs → set out i (bit_xor (get_or out i 0) (get_or ys i 0)) ≡ xor_bytes (take (i + 1) xs) (take (i + 1) ys) ++ drop (i + 1) xs
xor_more i xs ys out a b is =
    rw (is, get_xored i xs ys a b, add-one) (set_xored i xs ys a b)

-- numbers whose XOR is zero are the same
pub xor_is_zero : (x y : ℕ) → bit_xor x y ≡ 0 → x ≡ y
xor_is_zero x y is = sym (xor_zero_r x) ∙ ap (λ (n : ℕ). bit_xor x n) (sym (xor_self y)) ∙ sym (xor_assoc x y y) ∙ ap (λ (n : ℕ). bit_xor n y) is ∙ xor_zero_l y

-- no difference up to here, and none at this place, is none so far
pub differences_more : (i : ℕ) (xs ys : List ℕ) (n : ℕ) → ((n ≡ 0) ↔ ((k : ℕ) → k < i → get_or xs k 0 ≡ get_or ys k 0)) → (bit_or n (bit_xor (get_or xs i 0) (get_or ys i 0)) ≡ 0) ↔ ((k : ℕ) → k < i + 1 → get_or xs k 0 ≡ get_or ys k 0)
differences_more i xs ys n so_far =
    let x = get_or xs i 0 in
    let y = get_or ys i 0 in (
      λ none k below.
          let low : n ≡ 0 = omega (arith, le_or_l n (bit_xor x y)) in
          let high : bit_xor x y ≡ 0 = omega (arith, le_or_r n (bit_xor x y)) in
          ⊎_elim (λ h. so_far.0 low k h) (λ h. let here : k ≡ i = omega arith in subst (λ (j : ℕ). get_or xs j 0 ≡ get_or ys j 0) (sym here) (xor_is_zero x y high)) (cases_lt k i),
      λ all.
          let low : n ≡ 0 = so_far.1 (λ k h. all k (omega arith)) in
          let here : x ≡ y = all i (omega arith) in
          ap (λ (a : ℕ). bit_or a (bit_xor x y)) low ∙ ap (λ (a : ℕ). bit_or 0 (bit_xor a y)) here ∙ ap (λ (a : ℕ). bit_or 0 a) (xor_self y),
    )

same_bytes : (xs ys : List ℕ) → length xs ≡ length ys → ((k : ℕ) → k < length xs → get_or xs k 0 ≡ get_or ys k 0) → xs ≡ ys
same_bytes [] [] e h = refl
same_bytes [] (y ∷ ys) e h = absurd (omega arith)
same_bytes (x ∷ xs) [] e h = absurd (omega arith)
same_bytes (x ∷ xs) (y ∷ ys) e h =
    let head : x ≡ y = h 0 (omega arith) in
    let tail = same_bytes xs ys (omega arith) (λ k below. h (suc k) (omega arith)) in
    ap (λ (z : ℕ). z ∷ xs) head ∙ ap (λ (zs : List ℕ). y ∷ zs) tail

-- texts of one length are the same where no byte differs
pub same_texts : (n : ℕ) (xs ys : List ℕ) → length xs ≡ n → length ys ≡ n → ((k : ℕ) → k < n → get_or xs k 0 ≡ get_or ys k 0) ↔ (xs ≡ ys)
same_texts n xs ys a b = (
  λ all. same_bytes xs ys (a ∙ sym b) (λ k h. all k (omega arith)),
  λ same k h. ap (λ (zs : List ℕ). get_or zs k 0) same,
)

-- a loop that XORs one byte into each
pub pad_more : (byte : ℕ) (xs ys : List ℕ) (i d : ℕ) → i < length xs → i < length ys → ys ≡ map (λ b. bit_xor b byte) (take i xs) ++ drop i xs → set ys i (bit_xor (get_or ys i d) byte) ≡ map (λ b. bit_xor b byte) (take (i + 1) xs) ++ drop (i + 1) xs
pad_more byte xs ys i d a b is = map_over_more (λ x. bit_xor x byte) xs ys i (get_or ys i d) a is (get_or_default ys i d (get_or ys i d) b)

-- a key that is longer than a block, or isn't
pub long_key : (key : List ℕ) → 64 < length key → short_key key ≡ sha256 key
long_key key long = ap (λ (b : Bool). if b then sha256 key else key) (lt-ltb 64 (length key) long)

pub other_key : (key : List ℕ) → length key ≤ 64 → short_key key ≡ key
other_key key short = ap (λ (b : Bool). if b then sha256 key else key) (le-ltb 64 (length key) short)
