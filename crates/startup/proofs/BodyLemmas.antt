-- A body is that of one list of parameters, and a front of it that of the first of them.
use Rattle.std.proofs.Common.{◌≡◌, ◌≢◌, ℕ, List, [], ◌∷◌, ◌++◌, refl, sym, ap, ◌∙◌, append_assoc}
use Rattle.std.specs.List.{AllByRecursion, flat_map}
use Rattle.startup.specs.StartupMessage.{Parameter, IsParameter, parameter, body_of}

-- a text ends at the first zero byte
pub one_text : (a b x y : List ℕ) → AllByRecursion (λ byte. byte ≢ 0) a → AllByRecursion (λ byte. byte ≢ 0) b → a ++ 0 ∷ x ≡ b ++ 0 ∷ y → (a ≡ b) × (x ≡ y)
one_text [] [] x y p q e = (refl, cc)
one_text [] (b ∷ bs) x y p q e = let h : b ≡ 0 = cc in absurd (q.0 h)
one_text (a ∷ more) [] x y p q e = let h : a ≡ 0 = cc in absurd (p.0 h)
one_text (a ∷ more) (b ∷ bs) x y p q e =
    let heads : a ≡ b = cc in
    let tails : more ++ 0 ∷ x ≡ bs ++ 0 ∷ y = cc in
    let again = one_text more bs x y p.1 q.1 tails in
    (cc, again.1)

-- a parameter's bytes, from left to right
pub parameter-append : (p : Parameter) (rest : List ℕ) → parameter p ++ rest ≡ p.name ++ 0 ∷ (p.value ++ 0 ∷ rest)
parameter-append p rest = simp append_assoc refl

abbrev paired : List ℕ → List ℕ → Parameter
paired name value = record { name = name; value = value }

-- the bytes before a parameter's end tell it
pub one_parameter : (p q : Parameter) (x y : List ℕ) → IsParameter p → IsParameter q → parameter p ++ x ≡ parameter q ++ y → (p ≡ q) × (x ≡ y)
one_parameter p q x y is_p is_q e =
    let same : p.name ++ 0 ∷ (p.value ++ 0 ∷ x) ≡ q.name ++ 0 ∷ (q.value ++ 0 ∷ y) =
    sym (parameter-append p x) ∙ e ∙ parameter-append q y in
    let names = one_text p.name q.name _ _ is_p.name.no_zero is_q.name.no_zero same in
    let values = one_text p.value q.value _ _ is_p.value.no_zero is_q.value.no_zero names.1 in
    (same_parameter p q names.0 values.0, values.1)
  where
    same_parameter : (p q : Parameter) → p.name ≡ q.name → p.value ≡ q.value → p ≡ q
    same_parameter p q names values =
        ap (λ (name : List ℕ). paired name p.value) names ∙ ap (λ (value : List ℕ). paired q.name value) values

-- no parameter begins where the parameters end
pub no_parameter : (p : Parameter) (x y : List ℕ) → IsParameter p → parameter p ++ x ≡ 0 ∷ y → ⊥
no_parameter p x y is e = begins p.name (p.value ++ 0 ∷ x) y is.named is.name.no_zero (sym (parameter-append p x) ∙ e)
  where
    begins : (name rest y : List ℕ) → name ≢ [] → AllByRecursion (λ byte. byte ≢ 0) name → name ++ 0 ∷ rest ≡ 0 ∷ y → ⊥
    begins [] rest y named no_zero e = named refl
    begins (a ∷ more) rest y named no_zero e = let h : a ≡ 0 = cc in no_zero.0 h

-- what follows some parameters of a body is the body of the others
pub record Left (done : List Parameter) (rest : List ℕ) (ps : List Parameter) : Type 0 where
  pub left : List Parameter
  pub joined : ps ≡ done ++ left
  pub spelled : rest ≡ body_of left

pub left_of : (done : List Parameter) (rest : List ℕ) (ps : List Parameter) → AllByRecursion IsParameter done → AllByRecursion IsParameter ps → flat_map parameter done ++ rest ≡ body_of ps → Left done rest ps
left_of [] rest ps formed are e = record { left = ps; joined = refl; spelled = e }
left_of (p ∷ done) rest [] formed are e =
    absurd (no_parameter p (flat_map parameter done ++ rest) [] formed.0 (sym (append_assoc (parameter p) (flat_map parameter done) rest) ∙ e))
left_of (p ∷ done) rest (q ∷ ps) formed are e =
    let both = one_parameter p q (flat_map parameter done ++ rest) (body_of ps) formed.0 are.0 (sym (append_assoc (parameter p) (flat_map parameter done) rest) ∙ e ∙ append_assoc (parameter q) (flat_map parameter ps) (0 ∷ [])) in
    let others = left_of done rest ps formed.1 are.1 both.1 in
    record {
      left = others.left;
      joined = same (sym both.0) others.joined;
      spelled = others.spelled;
    }
  where
    same : {p q : Parameter} {ps qs : List Parameter} → q ≡ p → ps ≡ qs → q ∷ ps ≡ p ∷ qs
    same heads tails = cc

-- a body has one list of parameters
pub one_body : (ps qs : List Parameter) → AllByRecursion IsParameter ps → AllByRecursion IsParameter qs → body_of ps ≡ body_of qs → ps ≡ qs
one_body [] [] are_ps are_qs e = refl
one_body [] (q ∷ qs) are_ps are_qs e =
    absurd (no_parameter q (body_of qs) [] are_qs.0 (sym (append_assoc (parameter q) (flat_map parameter qs) (0 ∷ [])) ∙ sym e))
one_body (p ∷ ps) [] are_ps are_qs e =
    absurd (no_parameter p (body_of ps) [] are_ps.0 (sym (append_assoc (parameter p) (flat_map parameter ps) (0 ∷ [])) ∙ e))
one_body (p ∷ ps) (q ∷ qs) are_ps are_qs e =
    let both = one_parameter p q (body_of ps) (body_of qs) are_ps.0 are_qs.0 (sym (append_assoc (parameter p) (flat_map parameter ps) (0 ∷ [])) ∙ e ∙ append_assoc (parameter q) (flat_map parameter qs) (0 ∷ [])) in
    let others = one_body ps qs are_ps.1 are_qs.1 both.1 in
    same both.0 others
  where
    same : {p q : Parameter} {ps qs : List Parameter} → p ≡ q → ps ≡ qs → p ∷ ps ≡ q ∷ qs
    same heads tails = cc
