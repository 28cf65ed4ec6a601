-- How many parameters begin a body, by its length and by its zero bytes.
use Rattle.std.proofs.Common.{◌≡◌, ℕ, ◌+◌, ◌*◌, ◌≤◌, ◌==◌, cond, List, [], ◌∷◌, ◌++◌, Bor, length, take, refl, sym, ap, ◌∙◌, arith, length-append}
use Rattle.std.specs.List.{AllByRecursion, flat_map, count_by}
use Rattle.std.proofs.lemmas.List.{length-map, length-take-le}
use Rattle.std.proofs.lemmas.List.Sums.{sum_by-append}
use Rattle.startup.specs.StartupMessage.{Parameter, IsParameter, parameter}
use Rattle.startup.specs.Session.{HoldsAtMost}
use Rattle.startup.proofs.ParameterLemmas.{AllByRecursion-snoc, flat_map-snoc}
use Rattle.startup.proofs.SessionLemmas.{Taken, length-parameter}

-- a parameter has three bytes at least
three_bytes : (p : Parameter) → IsParameter p → 3 ≤ length (parameter p)
three_bytes p is =
    omega (arith, length-parameter p (parameter p ++ []) [] is refl, length-append (parameter p) [])

bytes_of : (ps : List Parameter) → AllByRecursion IsParameter ps → 3 * length ps ≤ length (flat_map parameter ps)
bytes_of [] are = omega arith
bytes_of (p ∷ ps) are =
    omega (arith, length-append (parameter p) (flat_map parameter ps), three_bytes p are.0, bytes_of ps are.1)

-- by the length of the body
pub at_most_by_length : (most : ℕ) (body : List ℕ) → length body ≤ 3 * most + 2 → HoldsAtMost most body
at_most_by_length most body short ps after are spelled =
    omega (arith, short, bytes_of ps are, ap length spelled, length-append (flat_map parameter ps) after)

-- how many bytes are zero
abbrev zeros : List ℕ → ℕ
zeros bytes = count_by (λ byte. byte == 0) bytes

zeros-append : (xs ys : List ℕ) → zeros (xs ++ ys) ≡ zeros xs + zeros ys
zeros-append xs ys = sum_by-append (λ (x : ℕ). cond (x == 0) 1 0) xs ys

one_more : (xs : List ℕ) → zeros (xs ++ 0 ∷ []) ≡ zeros xs + 1
one_more xs = zeros-append xs (0 ∷ [])

-- a parameter has two zero bytes at least
two_zeros : (p : Parameter) → 2 ≤ zeros (parameter p)
two_zeros p =
    omega (arith, zeros-append (p.name ++ 0 ∷ []) (p.value ++ 0 ∷ []), one_more p.name, one_more p.value)

zeros_of : (ps : List Parameter) → 2 * length ps ≤ zeros (flat_map parameter ps)
zeros_of [] = omega arith
zeros_of (p ∷ ps) = omega (arith, zeros-append (parameter p) (flat_map parameter ps), two_zeros p, zeros_of ps)

-- by the zero bytes of the body
pub at_most_by_zeros : (most : ℕ) (body : List ℕ) → count_by (λ byte. byte == 0) body ≤ 2 * most + 1 → HoldsAtMost most body
at_most_by_zeros most body few ps after are spelled =
    omega (arith, few, zeros_of ps, ap zeros spelled, zeros-append (flat_map parameter ps) after)

-- there is room for one more name where one more parameter begins the rest
pub room_for_more : (most count : ℕ) (body rest user database : List ℕ) (names : List (Bor (List ℕ))) (p : Parameter) (after : List ℕ) → HoldsAtMost most body → count ≤ length names → Taken body rest user database (take count names) → IsParameter p → rest ≡ parameter p ++ after → count + 1 ≤ most
room_for_more most count body rest user database names p after holds filled taken is spelled =
    let more = taken.spelled ∙ ap (λ (t : List ℕ). flat_map parameter taken.done ++ t) spelled ∙ sym (flat_map-snoc taken.done p after) in
    let held = holds (taken.done ++ p ∷ []) after (AllByRecursion-snoc IsParameter taken.done p taken.formed is) more in
    let so_far : count ≡ length taken.done =
    sym (length-take-le count names filled) ∙ sym (length-map (take count names) (λ (n : Bor (List ℕ)). n.now)) ∙ ap length taken.named ∙ length-map taken.done (λ (q : Parameter). q.name) in
    omega (arith, held, so_far, length-append taken.done (p ∷ []))
