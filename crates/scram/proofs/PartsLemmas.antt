-- Where a text is cut, and its attributes.
use Rattle.std.proofs.Common.{◌≡◌, ◌≢◌, ℕ, ◌+◌, ◌-◌, ◌==◌, ◌⊎◌, Bool, cond, Option, Some, None, MatchOption, IfNone, List, [], ◌∷◌, ◌++◌, length, take, drop, get_or, refl, sym, ap, ◌∙◌, subst, inl, inr, arith, append_assoc}
use Rattle.std.specs.List.{position_from}
use Rattle.std.proofs.Math.Seq.{take-append_seam}
use Rattle.std.proofs.lemmas.Bool.{cases_eq, eq-eqb, ne_eqb}
use Rattle.std.proofs.lemmas.List.{take_rest, drop-drop, drop_at}
use Rattle.scram.specs.Messages.{Lacks, attribute, and_then}

-- the bytes before the first such byte, and those after it
pub record Cut (byte : ℕ) (text : List ℕ) (end : ℕ) : Type 0 where
  pub front : List ℕ
  pub after : List ℕ
  pub spelled : text ≡ front ++ byte ∷ after
  pub lacks : Lacks byte front
  pub len : length front ≡ end

match_weaker : {P P' : Type 0} {Q Q' : ℕ → Type 0} (o : Option ℕ) → MatchOption o P Q → (P → P') → ((n : ℕ) → Q n → Q' n) → MatchOption o P' Q'
match_weaker None h f g = f h
match_weaker (Some n) h f g = g n h

-- what a search from place i answers
abbrev Told : ℕ → ℕ → List ℕ → Option ℕ → Type 0
Told byte i text o = MatchOption o (Lacks byte text) (λ end. (n : ℕ) × (end ≡ i + n) × Cut byte text n)

cut_more : (byte i b : ℕ) (bs : List ℕ) → (b ≡ byte) ⊎ (b ≡ byte → ⊥) → MatchOption (position_from (λ x. x == byte) (i + 1) bs) (Lacks byte bs) (λ end. (n : ℕ) × (end ≡ i + 1 + n) × Cut byte bs n)
    → Told byte i (b ∷ bs) (cond (b == byte) (Some i) (position_from (λ x. x == byte) (i + 1) bs))
cut_more byte i b bs (inl is) h =
    subst (λ (t : Bool). Told byte i (b ∷ bs) (cond t (Some i) (position_from (λ x. x == byte) (i + 1) bs))) (sym (eq-eqb b byte is))
    (0, omega arith, record { front = []; after = bs; spelled = ap (λ (x : ℕ). x ∷ bs) is; lacks = tt; len = refl })
cut_more byte i b bs (inr is) h =
    subst (λ (t : Bool). Told byte i (b ∷ bs) (cond t (Some i) (position_from (λ x. x == byte) (i + 1) bs))) (sym (ne_eqb b byte is))
    (match_weaker (position_from (λ x. x == byte) (i + 1) bs) h (λ none. (is, none)) (λ end found. (
      found.0 + 1,
      omega (arith, found.1),
      record {
        front = b ∷ found.2.front;
        after = found.2.after;
        spelled = ap (λ (xs : List ℕ). b ∷ xs) found.2.spelled;
        lacks = (is, found.2.lacks);
        len = omega (arith, found.2.len);
      },
    )))

cut_from : (byte i : ℕ) (text : List ℕ) → Told byte i text (position_from (λ x. x == byte) i text)
cut_from byte i [] = tt
cut_from byte i (b ∷ bs) = cut_more byte i b bs (cases_eq b byte) (cut_from byte (i + 1) bs)

not_lacking : (byte : ℕ) (front rest : List ℕ) → Lacks byte (front ++ byte ∷ rest) → ⊥
not_lacking byte [] rest all = all.0 refl
not_lacking byte (b ∷ bs) rest all = not_lacking byte bs rest all.1

-- a text without the byte is cut nowhere
pub no_cut : (byte : ℕ) (text : List ℕ) (o : Option ℕ) → o ≡ position_from (λ x. x == byte) 0 text → o ≡ None → (front rest : List ℕ) → Lacks byte front → text ≡ front ++ byte ∷ rest → ⊥
no_cut byte text o is none front rest lacks spelled =
    not_lacking byte front rest (subst (Lacks byte) spelled
    (subst (Told byte 0 text) (sym is ∙ none) (cut_from byte 0 text)))

-- what stands before the first such byte, and after it
pub cut_here : (byte : ℕ) (text : List ℕ) (end : ℕ) (o : Option ℕ) → o ≡ position_from (λ x. x == byte) 0 text → o ≡ Some end → Cut byte text end
cut_here byte text end o is found =
    let cut = subst (Told byte 0 text) (sym is ∙ found) (cut_from byte 0 text) in
    let same : cut.0 ≡ end = omega (arith, cut.1) in
    subst (Cut byte text) same cut.2

parts_at : (byte : ℕ) (front after : List ℕ) → (take (length front) (front ++ byte ∷ after) ≡ front) × (take (length (front ++ byte ∷ after) - (length front + 1)) (drop (length front + 1) (front ++ byte ∷ after)) ≡ after)
parts_at byte front after =
    let text = front ++ byte ∷ after in
    (take-append_seam front (byte ∷ after), take_rest text (length front + 1) ∙ sym (drop-drop 1 (length front) text) ∙ ap (λ (xs : List ℕ). drop 1 xs) (drop_at front (byte ∷ after) (length front) refl))

-- the slices before that byte and after it
pub parts_of : (byte : ℕ) (text : List ℕ) (end : ℕ) (cut : Cut byte text end) → (take end text ≡ cut.front) × (take (length text - (end + 1)) (drop (end + 1) text) ≡ cut.after)
parts_of byte text end cut =
    subst (λ (xs : List ℕ). (take end xs ≡ cut.front) × (take (length xs - (end + 1)) (drop (end + 1) xs) ≡ cut.after)) (sym cut.spelled)
    (subst (λ (n : ℕ). (take n (cut.front ++ byte ∷ cut.after) ≡ cut.front) × (take (length (cut.front ++ byte ∷ cut.after) - (n + 1)) (drop (n + 1) (cut.front ++ byte ∷ cut.after)) ≡ cut.after)) cut.len (parts_at byte cut.front cut.after))

-- a text is cut in one way
pub one_cut : (byte : ℕ) (a b x y : List ℕ) → Lacks byte a → Lacks byte b → a ++ byte ∷ x ≡ b ++ byte ∷ y → (a ≡ b) × (x ≡ y)
one_cut byte [] [] x y la lb same = (refl, cc)
one_cut byte [] (c ∷ cs) x y la lb same = absurd (lb.0 (cc))
one_cut byte (c ∷ cs) [] x y la lb same = absurd (la.0 (cc))
one_cut byte (c ∷ cs) (d ∷ ds) x y la lb same =
    let heads : c ≡ d = cc in
    let tails : cs ++ byte ∷ x ≡ ds ++ byte ∷ y = cc in
    let rest = one_cut byte cs ds x y la.1 lb.1 tails in
    (ap (λ (z : ℕ). z ∷ cs) heads ∙ ap (λ (zs : List ℕ). d ∷ zs) rest.0, rest.1)

pub always_none : {A : Type 0} {P : Type 0} (o : Option A) → P → IfNone o P
always_none None p = p
always_none (Some x) p = tt

-- the bytes that are cut out
pub respelled : (byte : ℕ) (text front after a b : List ℕ) → text ≡ front ++ byte ∷ after → a ≡ front → b ≡ after → text ≡ a ++ byte ∷ b
respelled byte text front after a b is p q = cc

-- an attribute whose value has no comma has none
pub attribute_lacks : (name : ℕ) (value : List ℕ) → name ≢ 44 → Lacks 44 value → Lacks 44 (attribute (name ∷ []) value)
attribute_lacks name value other lacks = (other, ((λ e. cc), lacks))

-- what follows the same front is the same
pub same_rest : (front x y : List ℕ) → front ++ x ≡ front ++ y → x ≡ y
same_rest [] x y same = same
same_rest (c ∷ cs) x y same =
    let rest : cs ++ x ≡ cs ++ y = cc in
    same_rest cs x y rest

-- a text begins with one attribute of this name
pub one_attribute : (name : ℕ) (text v w x y : List ℕ) → name ≢ 44 → Lacks 44 v → Lacks 44 w → text ≡ and_then (attribute (name ∷ []) v) x → text ≡ and_then (attribute (name ∷ []) w) y → (v ≡ w) × (x ≡ y)
one_attribute name text v w x y other lv lw a b =
    let same = one_cut 44 (attribute (name ∷ []) v) (attribute (name ∷ []) w) x y (attribute_lacks name v other lv) (attribute_lacks name w other lw) (sym a ∙ b) in
    (same_rest (name ∷ 61 ∷ []) v w same.0, same.1)

-- three texts between commas
pub nested : (a b c : List ℕ) → and_then (and_then a b) c ≡ and_then a (and_then b c)
nested a b c = append_assoc a (44 ∷ b) (44 ∷ c)

-- texts that begin otherwise differ
pub heads_differ : (a b : ℕ) (x y : List ℕ) → a ≢ b → a ∷ x ≡ b ∷ y → ⊥
heads_differ a b x y other same = other (ap (λ (xs : List ℕ). get_or xs 0 0) same)

-- the names of attributes are no commas
pub c_isnt : ◌≡◌ {A = ℕ} 99 44 → ⊥
c_isnt e = omega arith

pub n_isnt : ◌≡◌ {A = ℕ} 110 44 → ⊥
n_isnt e = omega arith

pub r_isnt : ◌≡◌ {A = ℕ} 114 44 → ⊥
r_isnt e = omega arith

pub s_isnt : ◌≡◌ {A = ℕ} 115 44 → ⊥
s_isnt e = omega arith
