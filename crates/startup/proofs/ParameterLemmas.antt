-- Texts and parameters at the front of bytes.
use Rattle.std.proofs.Common.{◌≡◌, ◌≢◌, ℕ, ◌+◌, ◌==◌, ◌⊎◌, Bool, true, cond, Option, Some, None, MatchOption, IfNone, List, [], ◌∷◌, ◌++◌, length, take, drop, refl, sym, ap, ◌∙◌, subst, inl, inr, arith, append_assoc, ◌-◌}
use Rattle.std.specs.List.{AllByRecursion, position_from, flat_map}
use Rattle.std.proofs.Math.Seq.{take-append_seam}
use Rattle.std.proofs.lemmas.Bool.{cases_eq, eq-eqb, ne_eqb, eqb-true}
use Rattle.std.proofs.lemmas.List.{append-nil, take_rest, drop-drop, drop_at}
use Rattle.startup.specs.StartupMessage.{Parameter, IsText, IsParameter, parameter}
use Rattle.startup.proofs.BodyLemmas.{one_text, parameter-append}

-- the bytes before the first zero byte, and those after it
pub record Split (bytes : List ℕ) (end : ℕ) : Type 0 where
  pub front : List ℕ
  pub after : List ℕ
  pub spelled : bytes ≡ front ++ 0 ∷ after
  pub no_zero : AllByRecursion (λ byte. byte ≢ 0) front
  pub len : length front ≡ end

match_weaker : {P P' : Type 0} {Q Q' : ℕ → Type 0} (o : Option ℕ) → MatchOption o P Q → (P → P') → ((n : ℕ) → Q n → Q' n) → MatchOption o P' Q'
match_weaker None h f g = f h
match_weaker (Some n) h f g = g n h

abbrev IsZero : ℕ → Bool
IsZero byte = byte == 0

split_more : (i b : ℕ) (bs : List ℕ) → (b ≡ 0) ⊎ (b ≡ 0 → ⊥) → MatchOption (position_from IsZero (i + 1) bs) (AllByRecursion (λ byte. byte ≢ 0) bs) (λ end. (n : ℕ) × (end ≡ i + 1 + n) × Split bs n)
    → MatchOption (cond (b == 0) (Some i) (position_from IsZero (i + 1) bs)) (AllByRecursion (λ byte. byte ≢ 0) (b ∷ bs)) (λ end. (n : ℕ) × (end ≡ i + n) × Split (b ∷ bs) n)
split_more i b bs (inl is) h =
    subst (λ (t : Bool). MatchOption (cond t (Some i) (position_from IsZero (i + 1) bs)) (AllByRecursion (λ byte. byte ≢ 0) (b ∷ bs)) (λ end. (n : ℕ) × (end ≡ i + n) × Split (b ∷ bs) n)) (sym (eq-eqb b 0 is))
    (0, omega arith, record { front = []; after = bs; spelled = ap (λ (x : ℕ). x ∷ bs) is; no_zero = tt; len = refl })
split_more i b bs (inr is) h =
    subst (λ (t : Bool). MatchOption (cond t (Some i) (position_from IsZero (i + 1) bs)) (AllByRecursion (λ byte. byte ≢ 0) (b ∷ bs)) (λ end. (n : ℕ) × (end ≡ i + n) × Split (b ∷ bs) n)) (sym (ne_eqb b 0 is))
    (match_weaker (position_from IsZero (i + 1) bs) h (λ none. (is, none)) (λ end found. (
      found.0 + 1,
      omega (arith, found.1),
      record {
        front = b ∷ found.2.front;
        after = found.2.after;
        spelled = ap (λ (xs : List ℕ). b ∷ xs) found.2.spelled;
        no_zero = (is, found.2.no_zero);
        len = omega (arith, found.2.len);
      },
    )))

split_from : (i : ℕ) (bytes : List ℕ) → MatchOption (position_from IsZero i bytes) (AllByRecursion (λ byte. byte ≢ 0) bytes) (λ end. (n : ℕ) × (end ≡ i + n) × Split bytes n)
split_from i [] = tt
split_from i (b ∷ bs) = split_more i b bs (cases_eq b 0) (split_from (i + 1) bs)

zero_free : (text after : List ℕ) → AllByRecursion (λ byte. byte ≢ 0) (text ++ 0 ∷ after) → ⊥
zero_free [] after all = all.0 refl
zero_free (b ∷ bs) after all = zero_free bs after all.1

-- bytes without a zero byte hold no end of a text
pub no_end : (bytes : List ℕ) (o : Option ℕ) → o ≡ position_from IsZero 0 bytes → o ≡ None → (text after : List ℕ) → bytes ≡ text ++ 0 ∷ after → ⊥
no_end bytes o is none text after spelled =
    zero_free text after (subst (AllByRecursion (λ byte. byte ≢ 0)) spelled
    (subst (λ (p : Option ℕ). MatchOption p (AllByRecursion (λ byte. byte ≢ 0) bytes) (λ end. (n : ℕ) × (end ≡ 0 + n) × Split bytes n)) (sym is ∙ none) (split_from 0 bytes)))

-- no text stands at the front of them
pub no_text : (bytes : List ℕ) (o : Option ℕ) → o ≡ position_from IsZero 0 bytes → o ≡ None → (text after : List ℕ) → IsText text → bytes ≡ text ++ 0 ∷ after → ⊥
no_text bytes o is none text after is_text spelled = no_end bytes o is none text after spelled

-- what stands before the first zero byte, and after it
pub split_at : (bytes : List ℕ) (end : ℕ) (o : Option ℕ) → o ≡ position_from IsZero 0 bytes → o ≡ Some end → Split bytes end
split_at bytes end o is found =
    let split = subst (λ (p : Option ℕ). MatchOption p (AllByRecursion (λ byte. byte ≢ 0) bytes) (λ end. (n : ℕ) × (end ≡ 0 + n) × Split bytes n)) (sym is ∙ found) (split_from 0 bytes) in
    let same : split.0 ≡ end = omega (arith, split.1) in
    subst (Split bytes) same split.2

cut_at : (front after : List ℕ) → (take (length front) (front ++ 0 ∷ after) ≡ front) × (take (length (front ++ 0 ∷ after) - (length front + 1)) (drop (length front + 1) (front ++ 0 ∷ after)) ≡ after)
cut_at front after =
    let bytes = front ++ 0 ∷ after in
    (take-append_seam front (0 ∷ after), take_rest bytes (length front + 1) ∙ sym (drop-drop 1 (length front) bytes) ∙ ap (λ (xs : List ℕ). drop 1 xs) (drop_at front (0 ∷ after) (length front) refl))

-- the front and the rest of bytes that are cut at the first zero byte
pub cut : (bytes : List ℕ) (end : ℕ) (split : Split bytes end) → (take end bytes ≡ split.front) × (take (length bytes - (end + 1)) (drop (end + 1) bytes) ≡ split.after)
cut bytes end split =
    subst (λ (bs : List ℕ). (take end bs ≡ split.front) × (take (length bs - (end + 1)) (drop (end + 1) bs) ≡ split.after)) (sym split.spelled)
    (subst (λ (n : ℕ). (take n (split.front ++ 0 ∷ split.after) ≡ split.front) × (take (length (split.front ++ 0 ∷ split.after) - (n + 1)) (drop (n + 1) (split.front ++ 0 ∷ split.after)) ≡ split.after)) split.len (cut_at split.front split.after))

-- what a parameter at the front says of the first text there
pub first_text : (bytes : List ℕ) (p : Parameter) (after name rest : List ℕ) → IsParameter p → bytes ≡ parameter p ++ after → IsText name → bytes ≡ name ++ 0 ∷ rest → (p.name ≡ name) × (p.value ++ 0 ∷ after ≡ rest)
first_text bytes p after name rest is spelled is_text begins =
    one_text p.name name (p.value ++ 0 ∷ after) rest is.name.no_zero is_text.no_zero (sym (parameter-append p after) ∙ sym spelled ∙ begins)

pub always_none : {A : Type 0} {P : Type 0} (o : Option A) → P → IfNone o P
always_none None p = p
always_none (Some x) p = tt

pub respelled : (bytes front text after rest : List ℕ) → bytes ≡ front ++ 0 ∷ after → text ≡ front → rest ≡ after → bytes ≡ text ++ 0 ∷ rest
respelled bytes front text after rest a b d = cc

pub empty : (xs : List ℕ) → true ≡ (length xs == 0) → xs ≡ []
empty [] e = refl
empty (x ∷ xs) e = absurd (omega (arith, eqb-true (length (x ∷ xs)) 0 (sym e)))

-- what holds of some elements and of one more
pub AllByRecursion-snoc : {A : Type 0} (P : A → Type 0) (xs : List A) (x : A) → AllByRecursion P xs → P x → AllByRecursion P (xs ++ x ∷ [])
AllByRecursion-snoc P [] x all p = (p, tt)
AllByRecursion-snoc P (y ∷ ys) x all p = (all.0, AllByRecursion-snoc P ys x all.1 p)

pub AllByRecursion-last : {A : Type 0} (P : A → Type 0) (xs : List A) (x : A) → AllByRecursion P (xs ++ x ∷ []) → P x
AllByRecursion-last P [] x all = all.0
AllByRecursion-last P (y ∷ ys) x all = AllByRecursion-last P ys x all.1

-- the bytes of some parameters and of one more
pub flat_map-snoc : (ps : List Parameter) (p : Parameter) (after : List ℕ) → flat_map parameter (ps ++ p ∷ []) ++ after ≡ flat_map parameter ps ++ (parameter p ++ after)
flat_map-snoc [] p after = ap (λ (front : List ℕ). front ++ after) (append-nil (parameter p))
flat_map-snoc (q ∷ qs) p after = append_assoc (parameter q) (flat_map parameter (qs ++ p ∷ [])) after ∙ ap (λ (rest : List ℕ). parameter q ++ rest) (flat_map-snoc qs p after) ∙ sym (append_assoc (parameter q) (flat_map parameter qs) (parameter p ++ after))
