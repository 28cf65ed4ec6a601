-- The value in a ParameterStatus, whole and by its first bytes.
use Rattle.std.proofs.Common.{◌≡◌, ℕ, ◌+◌, ◌-◌, ◌<◌, ◌≤◌, ◌==◌, ◌&&◌, Bool, true, false, cond, if◌then◌else◌, Option, Some, None, MatchOption, List, [], ◌∷◌, length, take, drop, zero, suc, eqb, inl, inr, refl, sym, ap, ◌∙◌, subst, arith}
use Rattle.std.specs.Option.{option_map}
use Rattle.std.specs.List.{position_from}
use Rattle.std.specs.Cmp.Lexicographic.{pointwise}
use Rattle.std.proofs.lemmas.Bool.{cases_lt}
use Rattle.std.proofs.lemmas.List.{take_all, take-take, length-take-le}
use Rattle.link_state.specs.Watch.{before_zero, value_in}

abbrev IsZero : ℕ → Bool
IsZero byte = byte == 0

zero_more : (i b : ℕ) (bs zs : List ℕ) (t : Bool) (o : Option ℕ) → MatchOption o (bs ≡ zs) (λ end. (n : ℕ) × (end ≡ i + 1 + n) × (take n bs ≡ zs))
    → MatchOption (cond t (Some i) o) (b ∷ bs ≡ (if t then [] else b ∷ zs)) (λ end. (n : ℕ) × (end ≡ i + n) × (take n (b ∷ bs) ≡ (if t then [] else b ∷ zs)))
zero_more i b bs zs true o h = (0, omega arith, refl)
zero_more i b bs zs false None h = ap (λ (xs : List ℕ). b ∷ xs) h
zero_more i b bs zs false (Some end) h = (suc h.0, omega (arith, h.1), ap (λ (xs : List ℕ). b ∷ xs) h.2)

zero_from : (i : ℕ) (xs : List ℕ) → MatchOption (position_from IsZero i xs) (xs ≡ before_zero xs) (λ end. (n : ℕ) × (end ≡ i + n) × (take n xs ≡ before_zero xs))
zero_from i [] = refl
zero_from i (b ∷ bs) = zero_more i b bs (before_zero bs) (b == 0) (position_from IsZero (i + 1) bs) (zero_from (i + 1) bs)

-- the bytes up to the first zero byte, and all where there is none
pub cut_zero : (xs : List ℕ) (o : Option ℕ) (end : ℕ) → o ≡ position_from IsZero 0 xs → o ≡ Some end → take end xs ≡ before_zero xs
cut_zero xs o end is found =
    let at = subst (λ (p : Option ℕ). MatchOption p (xs ≡ before_zero xs) (λ end. (n : ℕ) × (end ≡ 0 + n) × (take n xs ≡ before_zero xs))) (sym is ∙ found) (zero_from 0 xs) in
    let same : end ≡ at.0 = omega (arith, at.1) in
    ap (λ (n : ℕ). take n xs) same ∙ at.2

pub no_zero : (xs : List ℕ) (o : Option ℕ) → o ≡ position_from IsZero 0 xs → o ≡ None → xs ≡ before_zero xs
no_zero xs o is none =
    subst (λ (p : Option ℕ). MatchOption p (xs ≡ before_zero xs) (λ end. (n : ℕ) × (end ≡ 0 + n) × (take n xs ≡ before_zero xs))) (sym is ∙ none) (zero_from 0 xs)

both : {A : Type 0} (t p : Bool) (x y : Option A) → x ≡ (if p then y else None) → (if t then x else None) ≡ (if t && p then y else None)
both true p x y h = h
both false p x y h = refl

-- the value, by whether the name is at the front
pub value_is : (name body : List ℕ) → value_in name body ≡ (if pointwise eqb (take (length name) body) name then value_in [] (drop (length name) body) else None)
value_is [] body = refl
value_is (letter ∷ name) [] = refl
value_is (letter ∷ name) (byte ∷ body) =
    both (byte == letter) (pointwise eqb (take (length name) body) name) (value_in name body) (value_in [] (drop (length name) body)) (value_is name body)

-- the value of a body that is cut behind the name
before_more : (t : Bool) (byte k : ℕ) (xs zs : List ℕ) → xs ≡ take k zs → (if t then [] else byte ∷ xs) ≡ take (suc k) (if t then [] else byte ∷ zs)
before_more true byte k xs zs h = refl
before_more false byte k xs zs h = ap (λ (l : List ℕ). byte ∷ l) h

before_cut : (k : ℕ) (xs : List ℕ) → before_zero (take k xs) ≡ take k (before_zero xs)
before_cut zero xs = refl
before_cut (suc k) [] = refl
before_cut (suc k) (byte ∷ bytes) = before_more (byte == 0) byte k (before_zero (take k bytes)) (before_zero bytes) (before_cut k bytes)

cut_more : (t : Bool) (k : ℕ) (xs ys : List ℕ) → xs ≡ take k ys → (if t then Some xs else None) ≡ option_map (take k) (if t then Some ys else None)
cut_more true k xs ys h = ap (λ (l : List ℕ). Some l) h
cut_more false k xs ys h = refl

keep_more : (t : Bool) (k : ℕ) (x y : Option (List ℕ)) → x ≡ option_map (take k) y → (if t then x else None) ≡ option_map (take k) (if t then y else None)
keep_more true k x y h = h
keep_more false k x y h = refl

value_cut_at : (name body : List ℕ) (n k : ℕ) → n ≡ length name + 1 + k → value_in name (take n body) ≡ option_map (take k) (value_in name body)
value_cut_at [] body zero k e = absurd (omega (arith, e))
value_cut_at [] [] (suc n) k e = refl
value_cut_at [] (byte ∷ body) (suc n) k e =
    let same : n ≡ k = omega (arith, e) in
    ap (λ (m : ℕ). value_in [] (byte ∷ take m body)) same
    ∙ cut_more (byte == 0) k (before_zero (take k body)) (before_zero body) (before_cut k body)
value_cut_at (letter ∷ name) body zero k e = absurd (omega (arith, e))
value_cut_at (letter ∷ name) [] (suc n) k e = refl
value_cut_at (letter ∷ name) (byte ∷ body) (suc n) k e =
    keep_more (byte == letter) k (value_in name (take n body)) (value_in name body) (value_cut_at name body n k (omega (arith, e)))

shorter : (few k : ℕ) (o : Option (List ℕ)) → few ≤ k → option_map (take few) (option_map (take k) o) ≡ option_map (take few) o
shorter few k None le = refl
shorter few k (Some xs) le = ap (λ (l : List ℕ). Some l) (take-take few k xs le)

-- as much of the value as is kept
pub value_cut : (name body : List ℕ) (n few : ℕ) → length name + 1 + few ≤ n → option_map (take few) (value_in name (take n body)) ≡ option_map (take few) (value_in name body)
value_cut name body n few enough =
    let k = n - (length name + 1) in
    ap (option_map (take few)) (value_cut_at name body n k (omega arith)) ∙ shorter few k (value_in name body) (omega arith)

-- a list that is known by its front, which is shorter than the cut
pub whole_by_front : (n : ℕ) (xs ys : List ℕ) → take n xs ≡ ys → length ys < n → xs ≡ ys
whole_by_front n xs ys e short =
    elim (cases_lt (length xs) n) [
      | inl few ↦ sym (take_all n xs (omega arith)) ∙ e
      | inr many ↦ absurd (let len = length-take-le n xs many in omega (arith, len, ap length e, short))
    ]

-- the same as the code finds it
pub value_absent : (text name body : List ℕ) → text ≡ name → pointwise eqb (take (length text) body) text ≡ false → None ≡ value_in name body
value_absent text name body is apart =
    ap (λ (b : Bool). if b then value_in [] (drop (length text) body) else None) (sym apart)
    ∙ sym (value_is text body) ∙ ap (λ (n : List ℕ). value_in n body) is

pub value_behind : (text name body rest : List ℕ) (value : Option (List ℕ)) → text ≡ name → pointwise eqb (take (length text) body) text ≡ true → rest ≡ drop (length text) body → value ≡ value_in [] rest → value ≡ value_in name body
value_behind text name body rest value is same left found =
    found ∙ ap (value_in []) left
    ∙ ap (λ (b : Bool). if b then value_in [] (drop (length text) body) else None) (sym same)
    ∙ sym (value_is text body) ∙ ap (λ (n : List ℕ). value_in n body) is
