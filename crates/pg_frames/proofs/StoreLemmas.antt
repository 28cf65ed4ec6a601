-- Bytes in a range of memory.
use Rattle.std.proofs.Common.{◌≡◌, ℕ, ◌+◌, ◌-◌, ◌≤◌, List, ◌++◌, length, take, drop, sym, ap, ◌∙◌, arith, append_assoc, take-append-drop}
use Rattle.std.proofs.Math.Seq.{take-add}
use Rattle.std.proofs.lemmas.List.{drop-take, drop-drop, take_at, drop_at, length-take-le}

-- what is left of a range whose first bytes are dropped
pub range_left : (xs : List ℕ) (from to count : ℕ) → count ≤ to - from
    → take (to - (from + count)) (drop (from + count) xs) ≡ drop count (take (to - from) (drop from xs))
range_left xs from to count within =
    let rest : to - from ≡ count + (to - (from + count)) = omega arith in
    sym (ap (λ n. drop count (take n (drop from xs))) rest
    ∙ drop-take count (to - (from + count)) (drop from xs)
    ∙ ap (take (to - (from + count))) (drop-drop count from xs))

-- the last bytes of a front
pub last_of : (xs : List ℕ) (at count : ℕ) → at + count ≤ length xs
    → drop (length (take (at + count) xs) - count) (take (at + count) xs) ≡ take count (drop at xs)
last_of xs at count within =
    let from : length (take (at + count) xs) - count ≡ at =
    omega (arith, length-take-le (at + count) xs within, within) in
    ap (λ n. drop n (take (at + count) xs)) from ∙ drop-take at count xs

take_first : (xs ys : List ℕ) (count : ℕ) → count ≤ length xs → take count (xs ++ ys) ≡ take count xs
take_first xs ys count within =
    let front = take count xs in
    let rest = drop count xs in
    ap (λ zs. take count (zs ++ ys)) (sym (take-append-drop count xs))
    ∙ ap (take count) (append_assoc front rest ys)
    ∙ take_at front (rest ++ ys) count (length-take-le count xs within)

-- bytes behind the first ones, of what replaced the rest
pub take_behind : (xs ys zs : List ℕ) (at count : ℕ) → at ≤ length xs → count ≤ length ys
    → take (at + count) (take at xs ++ (ys ++ zs)) ≡ take at xs ++ take count ys
take_behind xs ys zs at count first within =
    let front = take at xs in
    let long : length front ≡ at = length-take-le at xs first in
    take-add at count (front ++ (ys ++ zs))
    ∙ ap (λ ps. ps ++ take count (drop at (front ++ (ys ++ zs)))) (take_at front (ys ++ zs) at long)
    ∙ ap (λ ps. front ++ take count ps) (drop_at front (ys ++ zs) at long)
    ∙ ap (λ ps. front ++ ps) (take_first ys zs count within)
