-- The field at the front of bytes, and the first of a type among several.
use Rattle.std.proofs.Common.{◌≡◌, ◌≢◌, ℕ, ◌+◌, ◌-◌, ◌↔◌, ◌==◌, Option, Some, None, List, [], ◌∷◌, ◌++◌, length, take, drop, refl, sym, ap, ◌∙◌, subst, append_assoc}
use Rattle.std.specs.List.{AllByRecursion, position_from}
use Rattle.startup.specs.Replies.{error_field}
use Rattle.startup.specs.Fields.{Field, IsField, fields_text, HasField, BeginsWith}
use Rattle.startup.proofs.BodyLemmas.{one_text}
use Rattle.startup.proofs.ParameterLemmas.{split_at, cut, no_end}

-- a field's bytes, from left to right
field-append : (kind : ℕ) (text rest : List ℕ)
    → error_field kind text ++ rest ≡ kind ∷ (text ++ 0 ∷ rest)
field-append kind text rest = simp append_assoc refl

-- the bytes of a field tell it
record SameField (k l : ℕ) (t u x y : List ℕ) : Type 0 where
  pub kind : k ≡ l
  pub text : t ≡ u
  pub after : x ≡ y

one_field : (k l : ℕ) (t u x y : List ℕ) → AllByRecursion (λ byte. byte ≢ 0) t
    → AllByRecursion (λ byte. byte ≢ 0) u → error_field k t ++ x ≡ error_field l u ++ y
    → SameField k l t u x y
one_field k l t u x y p q e =
    let same : k ∷ (t ++ 0 ∷ x) ≡ l ∷ (u ++ 0 ∷ y) =
    sym (field-append k t x) ∙ e ∙ field-append l u y in
    let heads : k ≡ l = cc in
    let tails : t ++ 0 ∷ x ≡ u ++ 0 ∷ y = cc in
    let rest = one_text t u x y p q tails in
    record { kind = heads; text = rest.0; after = rest.1 }

-- the field that is read of a type byte and what follows it
pub field_read : (bytes rest : List ℕ) (kind end : ℕ) (o : Option ℕ) → bytes ≡ kind ∷ rest
    → (kind ≡ 0 → ⊥) → o ≡ position_from (λ byte. byte == 0) 0 rest → o ≡ Some end
    → BeginsWith bytes kind (take end rest) (take (length rest - (end + 1)) (drop (end + 1) rest))
field_read bytes rest kind end o spelled typed is found =
    let split = split_at rest end o is found in
    let parts = cut rest end split in
    record {
      is_field = record {
        typed = typed;
        no_zero = subst (λ t. AllByRecursion (λ byte. byte ≢ 0) t) (sym parts.0) split.no_zero;
      };
      body_is = spelled ∙ ap (λ xs. kind ∷ xs) split.spelled
          ∙ ap (λ t. kind ∷ (t ++ 0 ∷ split.after)) (sym parts.0)
          ∙ ap (λ xs. kind ∷ (take end rest ++ 0 ∷ xs)) (sym parts.1)
          ∙ sym (field-append kind (take end rest)
          (take (length rest - (end + 1)) (drop (end + 1) rest)));
    }

-- no field begins bytes behind whose type no text ends
pub no_field : (bytes rest : List ℕ) (first : ℕ) (o : Option ℕ) → bytes ≡ first ∷ rest
    → o ≡ position_from (λ byte. byte == 0) 0 rest → o ≡ None
    → (kind : ℕ) (text after : List ℕ) → BeginsWith bytes kind text after → ⊥
no_field bytes rest first o spelled is none kind text after begins =
    let same : first ∷ rest ≡ kind ∷ (text ++ 0 ∷ after) =
    sym spelled ∙ begins.body_is ∙ field-append kind text after in
    no_end rest o is none text after cc

-- a field of another type stands before the first of this one
pub passes : (body after : List ℕ) (other kind : ℕ) (skipped : List ℕ)
    → BeginsWith body other skipped after → (other ≡ kind → ⊥) → (text : List ℕ)
    → HasField after kind text ↔ HasField body kind text
passes body after other kind skipped begins differs text = (into, out)
  where
    field : Field
    field = record { kind = other; text = skipped }

    into : HasField after kind text → HasField body kind text
    into has = record {
      before = field ∷ has.before;
      after = has.after;
      each = (begins.is_field, has.each);
      first = (differs, has.first);
      is_field = has.is_field;
      body_is = begins.body_is ∙ ap (λ xs. error_field other skipped ++ xs) has.body_is
          ∙ sym (append_assoc (error_field other skipped) (fields_text has.before)
          (error_field kind text ++ has.after));
    }

    behind : (before : List Field) (rest : List ℕ) → AllByRecursion IsField before
        → AllByRecursion (λ f. f.kind ≢ kind) before
        → IsField (record { kind = kind; text = text })
        → body ≡ fields_text before ++ (error_field kind text ++ rest)
        → HasField after kind text
    behind [] rest each first is_field is =
        absurd (differs (one_field other kind skipped text after rest
        begins.is_field.no_zero is_field.no_zero (sym begins.body_is ∙ is)).kind)
    behind (f ∷ fs) rest each first is_field is =
        let same = one_field other f.kind skipped f.text after
        (fields_text fs ++ (error_field kind text ++ rest))
        begins.is_field.no_zero each.0.no_zero
        (sym begins.body_is ∙ is
        ∙ append_assoc (error_field f.kind f.text) (fields_text fs)
        (error_field kind text ++ rest)) in
        record {
          before = fs;
          after = rest;
          each = each.1;
          first = first.1;
          is_field = is_field;
          body_is = same.after;
        }

    out : HasField body kind text → HasField after kind text
    out has = behind has.before has.after has.each has.first has.is_field has.body_is

-- the first field of all is the first of its type
pub has_first : (body : List ℕ) (other kind : ℕ) (text after : List ℕ) → other ≡ kind
    → BeginsWith body other text after → HasField body kind text
has_first body other kind text after is begins = first
    (subst (λ (k : ℕ). BeginsWith body k text after) is begins)
  where
    first : BeginsWith body kind text after → HasField body kind text
    first begins = record {
      before = [];
      after = after;
      each = tt;
      first = tt;
      is_field = begins.is_field;
      body_is = begins.body_is;
    }

-- a body that begins with no field has none
pub has_none : (body : List ℕ) (kind : ℕ)
    → ((k : ℕ) (text after : List ℕ) → BeginsWith body k text after → ⊥)
    → (text : List ℕ) → HasField body kind text → ⊥
has_none body kind none text has = begun has.before has.each has.body_is
  where
    begun : (before : List Field) → AllByRecursion IsField before
        → body ≡ fields_text before ++ (error_field kind text ++ has.after) → ⊥
    begun [] each is =
        none kind text has.after (record { is_field = has.is_field; body_is = is })
    begun (f ∷ fs) each is =
        none f.kind f.text (fields_text fs ++ (error_field kind text ++ has.after))
        (record {
          is_field = each.0;
          body_is = is ∙ append_assoc (error_field f.kind f.text) (fields_text fs)
              (error_field kind text ++ has.after);
        })
