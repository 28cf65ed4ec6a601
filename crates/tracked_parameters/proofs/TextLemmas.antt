-- Texts that a zero byte ends.
use Rattle.std.proofs.Common.{◌≡◌, ◌∙◌, ℕ, suc, ◌+◌, ◌-◌, ◌==◌, ◌⊎◌, Bool, true, false, cond, Option, Some, None, IfNone, List, [], ◌∷◌, ◌++◌, length, take, drop, refl, sym, ap, subst, inl, inr, arith, add-one, append_assoc}
use Rattle.std.specs.List.{position_from}
use Rattle.std.proofs.lemmas.Bool.{cases_eq, eq-eqb, ne_eqb}
use Rattle.std.proofs.lemmas.List.{take_rest}
use Rattle.startup.specs.StartupMessage.{HasNoZero}
use Rattle.startup.specs.Replies.{Report}
use Rattle.tracked_parameters.specs.Status.{IsStatus}

abbrev IsZero : ℕ → Bool
IsZero byte = byte == 0

-- the first zero byte, so many bytes from the front
record FirstZero (bytes : List ℕ) (n : ℕ) : Type 0 where
  no_zero : HasNoZero (take n bytes)
  spelled : bytes ≡ take n bytes ++ 0 ∷ drop (suc n) bytes

zero_more : (i byte : ℕ) (bytes : List ℕ) (end : ℕ) → (byte ≡ 0) ⊎ (byte ≡ 0 → ⊥) → cond (byte == 0) (Some i) (position_from IsZero (i + 1) bytes) ≡ Some end
    → (position_from IsZero (i + 1) bytes ≡ Some end → (n : ℕ) × (end ≡ i + 1 + n) × FirstZero bytes n)
    → (n : ℕ) × (end ≡ i + n) × FirstZero (byte ∷ bytes) n
zero_more i byte bytes end (inl is) found rest =
    let at : Some i ≡ Some end = ap (λ (b : Bool). cond b (Some i) (position_from IsZero (i + 1) bytes)) (sym (eq-eqb byte 0 is)) ∙ found in
    let same : i ≡ end = cc in
    (0, omega arith, record { no_zero = tt; spelled = ap (λ (b : ℕ). b ∷ bytes) is })
zero_more i byte bytes end (inr is) found rest =
    let later = rest (ap (λ (b : Bool). cond b (Some i) (position_from IsZero (i + 1) bytes)) (sym (ne_eqb byte 0 is)) ∙ found) in
    (suc later.0, omega (arith, later.1), record { no_zero = (is, later.2.no_zero); spelled = ap (λ (xs : List ℕ). byte ∷ xs) later.2.spelled })

zero_from : (i : ℕ) (bytes : List ℕ) (end : ℕ) → position_from IsZero i bytes ≡ Some end → (n : ℕ) × (end ≡ i + n) × FirstZero bytes n
zero_from i [] end found = absurd (cc)
zero_from i (byte ∷ bytes) end found = zero_more i byte bytes end (cases_eq byte 0) found (zero_from (i + 1) bytes end)

-- the text before the first zero byte, and what follows that byte
pub text_before : (bytes : List ℕ) (o : Option ℕ) (end : ℕ) → o ≡ position_from IsZero 0 bytes → o ≡ Some end → HasNoZero (take end bytes) × (bytes ≡ take end bytes ++ 0 ∷ take (length bytes - (end + 1)) (drop (end + 1) bytes))
text_before bytes o end is found =
    let zero = zero_from 0 bytes end (sym is ∙ found) in
    let same : zero.0 ≡ end = omega (arith, zero.1) in
    let first : FirstZero bytes end = subst (FirstZero bytes) same zero.2 in
    (first.no_zero, first.spelled ∙ ap (λ (xs : List ℕ). take end bytes ++ 0 ∷ xs) (ap (λ (n : ℕ). drop n bytes) (sym (add-one end)) ∙ sym (take_rest bytes (end + 1))))

not_some : (b : Bool) (i : ℕ) (rest : Option ℕ) → cond b (Some i) rest ≡ None → (rest ≡ None → ⊥) → ⊥
not_some true i rest none later = cc
not_some false i rest none later = later none

zero_found : (i : ℕ) (text after : List ℕ) → position_from IsZero i (text ++ 0 ∷ after) ≡ None → ⊥
zero_found i [] after none = cc
zero_found i (byte ∷ text) after none = not_some (byte == 0) i _ none (zero_found (i + 1) text after)

-- no text with a zero byte behind it stands where no zero byte does
pub no_text : (bytes : List ℕ) (o : Option ℕ) → o ≡ position_from IsZero 0 bytes → o ≡ None → (text after : List ℕ) → HasNoZero text → bytes ≡ text ++ 0 ∷ after → ⊥
no_text bytes o is none text after no_zero spelled =
    zero_found 0 text after (ap (position_from IsZero 0) (sym spelled) ∙ sym is ∙ none)

-- one text stands at the front of bytes, and one thing follows it
pub one_text : (a b x y : List ℕ) → HasNoZero a → HasNoZero b → a ++ 0 ∷ x ≡ b ++ 0 ∷ y → (a ≡ b) × (x ≡ y)
one_text [] [] x y za zb e = (refl, cc)
one_text [] (d ∷ ds) x y za zb e = absurd (zb.0 cc)
one_text (c ∷ cs) [] x y za zb e = absurd (za.0 cc)
one_text (c ∷ cs) (d ∷ ds) x y za zb e =
    let same : c ≡ d = cc in
    let more = one_text cs ds x y za.1 zb.1 cc in
    (cc, more.1)

pub always_none : {A : Type 0} {P : Type 0} (o : Option A) → P → IfNone o P
always_none None p = p
always_none (Some x) p = tt

-- the two texts of a report, one behind the other
pub status_begins : (body : List ℕ) (report : Report) → IsStatus body report → body ≡ report.name ++ 0 ∷ (report.value ++ 0 ∷ [])
status_begins body report is = is.spelled ∙ append_assoc report.name (0 ∷ []) (report.value ++ 0 ∷ [])
