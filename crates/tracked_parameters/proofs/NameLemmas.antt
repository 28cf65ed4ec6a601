-- Names that may be tracked together.
use Rattle.std.proofs.Common.{◌≡◌, ◌∙◌, ℕ, Bool, true, false, not, if◌then◌else◌, Option, Some, None, Result, Ok, Err, OnOk, OnErr, List, [], ◌∷◌, ◌++◌, refl, sym, ap, subst}
use Rattle.std.specs.Prelude.{String}
use Rattle.std.specs.declared.alloc.Global.{Global}
use Rattle.tracked_parameters.specs.Stored.{all_names}
use Rattle.std.specs.List.{AllByRecursion, IsDistinct}
use Rattle.std.proofs.lemmas.Bool.{or_parts, not-false}
use Rattle.tracked_parameters.specs.Names.{standard, alike, is_name, is_among, refusal, AreNames}
use Rattle.tracked_parameters.specs.declared.name_error.NameError.{NameError}
use Rattle.tracked_parameters.specs.declared.name_error.NameError.TheVariants.{Form, Twice}

all_more : {A : Type 0} (P : A → Type 0) (xs : List A) (x : A) → AllByRecursion P xs → P x → AllByRecursion P (xs ++ x ∷ [])
all_more P [] x all p = (p, tt)
all_more P (y ∷ ys) x all p = (all.0, all_more P ys x all.1 p)

once_more : (names : List (List ℕ)) (name : List ℕ) → IsDistinct (λ one other. alike one other) names → is_among name names ≡ false → IsDistinct (λ one other. alike one other) (names ++ name ∷ [])
unfolding IsDistinct
once_more [] name once fresh = (tt, tt)
once_more (one ∷ more) name once fresh =
    let parts = or_parts (alike one name) (is_among name more) fresh in
    (all_more (λ other. alike one other ≡ false) more name once.0 parts.0, once_more more name once.1 parts.1)

passes : (b : Bool) (error : NameError) (rest : Option NameError) → (if b then Some error else rest) ≡ None → (b ≡ false) × (rest ≡ None)
passes true error rest e = absurd (cc)
passes false error rest e = (refl, e)

-- one more that isn't refused
pub names_more : (names : List (List ℕ)) (name : List ℕ) → AreNames names → refusal names name ≡ None → AreNames (names ++ name ∷ [])
unfolding refusal
names_more names name are none =
    let first = passes (not (is_name name)) Form _ none in
    let second = passes (is_among name names) Twice None first.1 in
    record {
      formed = all_more (λ one. is_name one ≡ true) names name are.formed (not-false (is_name name) first.0);
      once = once_more names name are.once second.0;
    }

-- the same whether there was memory for it or not
pub names_after : {E : Type 0} (result : Result Unit E) (new old : List (String Global)) (names : List (List ℕ)) (name : List ℕ) → AreNames (all_names old) → all_names old ≡ names → refusal names name ≡ None → OnOk result (all_names new ≡ all_names old ++ name ∷ []) → OnErr result (new ≡ old) → AreNames (all_names new)
names_after (Ok x) new old names name are same none ok err =
    subst AreNames (sym ok) (names_more (all_names old) name are (subst (λ (ns : List (List ℕ)). refusal ns name ≡ None) (sym same) none))
names_after (Err x) new old names name are same none ok err = subst (λ (ns : List (String Global)). AreNames (all_names ns)) (sym err) are

pub standard_are : AreNames standard
unfolding IsDistinct
standard_are = record {
  formed = (refl, (refl, (refl, (refl, (refl, (refl, tt))))));
  once = ((refl, (refl, (refl, (refl, (refl, tt))))), ((refl, (refl, (refl, (refl, tt)))), ((refl, (refl, (refl, tt))), ((refl, (refl, tt)), ((refl, tt), (tt, tt))))));
}

-- six that were put one behind the other
pub six : (n0 n1 n2 n3 n4 n5 n6 : List (List ℕ)) (a b d e f g : List ℕ) → n0 ≡ [] → n1 ≡ n0 ++ a ∷ [] → n2 ≡ n1 ++ b ∷ [] → n3 ≡ n2 ++ d ∷ [] → n4 ≡ n3 ++ e ∷ [] → n5 ≡ n4 ++ f ∷ [] → n6 ≡ n5 ++ g ∷ [] → n6 ≡ a ∷ b ∷ d ∷ e ∷ f ∷ g ∷ []
six n0 n1 n2 n3 n4 n5 n6 a b d e f g e0 e1 e2 e3 e4 e5 e6 =
    e6 ∙ ap (λ (n : List (List ℕ)). n ++ g ∷ []) (e5 ∙ ap (λ (n : List (List ℕ)). n ++ f ∷ []) (e4 ∙ ap (λ (n : List (List ℕ)). n ++ e ∷ []) (e3 ∙ ap (λ (n : List (List ℕ)). n ++ d ∷ []) (e2 ∙ ap (λ (n : List (List ℕ)). n ++ b ∷ []) (e1 ∙ ap (λ (n : List (List ℕ)). n ++ a ∷ []) e0)))))
