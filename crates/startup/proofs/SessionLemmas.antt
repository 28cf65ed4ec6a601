-- The reading of a body, parameter by parameter.
use Rattle.std.proofs.Common.{◌≡◌, ◌≢◌, ℕ, ◌+◌, ◌≤◌, Bool, true, false, if◌then◌else◌, cond, List, [], ◌∷◌, ◌++◌, Bor, length, map, codes, refl, sym, ap, ◌∙◌, subst, append_assoc, arith, length-append}
use Rattle.std.specs.List.{AllByRecursion, IsDistinct, flat_map}
use Rattle.std.specs.Str.{bytes_eq}
use Rattle.std.proofs.lemmas.List.{map-append}
use Rattle.std.proofs.lemmas.Map.Keys.{IsDistinct-head, IsDistinct-tail, IsDistinct-cons}
use Rattle.std.proofs.lemmas.Slice.Eq.{bytes_eq-Decides}
use Rattle.std.proofs.lemmas.Bool.{false≢true, false_from_ne_true}
use Rattle.startup.specs.StartupMessage.{Parameter, IsParameter, AreParameters, AreGivenOnce, is_reserved, parameter, body_of, given}
use Rattle.startup.specs.Names.{AreDistinct}
use Rattle.startup.specs.Session.{IsSessionOf, IsReadOf}
use Rattle.startup.specs.declared.session.Session.{Session}
use Rattle.startup.proofs.BodyLemmas.{one_parameter, no_parameter, parameter-append, one_body, left_of}
use Rattle.startup.proofs.ParameterLemmas.{AllByRecursion-snoc, AllByRecursion-last, flat_map-snoc}

abbrev IsAllowed : Parameter → Type 0
IsAllowed p = is_reserved p.name ≡ false

abbrev texts : List (Bor (List ℕ)) → List (List ℕ)
texts names = map (λ name. name.now) names

abbrev names_of : List Parameter → List (List ℕ)
names_of ps = map (λ p. p.name) ps

-- what was read of a body: some parameters of which none is reserved, with these names, and the
-- user and the database that they give unless a name is given twice
pub record Taken (body rest user database : List ℕ) (names : List (Bor (List ℕ))) : Type 0 where
  pub done : List Parameter
  pub spelled : body ≡ flat_map parameter done ++ rest
  pub formed : AllByRecursion IsParameter done
  pub allowed : AllByRecursion IsAllowed done
  pub named : texts names ≡ names_of done
  pub is_user : AreGivenOnce done → user ≡ given (codes "user") done
  pub is_database : AreGivenOnce done → database ≡ given (codes "database") done

pub none_taken : (body : List ℕ) → Taken body body [] [] []
none_taken body = record {
  done = [];
  spelled = refl;
  formed = tt;
  allowed = tt;
  named = refl;
  is_user = λ once. refl;
  is_database = λ once. refl;
}

-- what holds of a list holds of its front and of the rest
before-formed : {A : Type 0} (P : A → Type 0) (xs ys : List A) → AllByRecursion P (xs ++ ys) → AllByRecursion P xs
before-formed P [] ys all = tt
before-formed P (x ∷ xs) ys all = (all.0, before-formed P xs ys all.1)

after-formed : {A : Type 0} (P : A → Type 0) (xs ys : List A) → AllByRecursion P (xs ++ ys) → AllByRecursion P ys
after-formed P [] ys all = all
after-formed P (x ∷ xs) ys all = after-formed P xs ys all.1

before-once : (ps : List Parameter) (p : Parameter) → AreGivenOnce (ps ++ p ∷ []) → AreGivenOnce ps × AllByRecursion (λ q. p.name ≢ q.name) ps
before-once [] p once = (tt, tt)
before-once (q ∷ qs) p once =
    let others = before-once qs p once.1 in
    ((before-formed (λ (r : Parameter). r.name ≢ q.name) qs (p ∷ []) once.0, others.0), (AllByRecursion-last (λ (r : Parameter). r.name ≢ q.name) qs p once.0, others.1))

given-snoc : (name : List ℕ) (ps : List Parameter) (p : Parameter) → AllByRecursion (λ q. p.name ≢ q.name) ps → given name (ps ++ p ∷ []) ≡ (if bytes_eq name p.name then p.value else given name ps)
given-snoc name [] p others = refl
given-snoc name (q ∷ qs) p others = one_more (bytes_eq name q.name) refl (given-snoc name qs p others.1)
  where
    one_more : (b : Bool) → bytes_eq name q.name ≡ b → given name (qs ++ p ∷ []) ≡ cond (bytes_eq name p.name) p.value (given name qs) → cond b q.value (given name (qs ++ p ∷ [])) ≡ cond (bytes_eq name p.name) p.value (cond b q.value (given name qs))
    one_more true is rest =
        let other : bytes_eq name p.name ≡ false =
        false_from_ne_true _ (λ e. others.0 (sym ((bytes_eq-Decides name p.name).0 e) ∙ (bytes_eq-Decides name q.name).0 is)) in
        rw other refl
    one_more false is rest = rest

-- what is given under a name after one more parameter
given_more : (name value : List ℕ) (ps : List Parameter) (p : Parameter) → (AreGivenOnce ps → value ≡ given name ps) → AreGivenOnce (ps ++ p ∷ []) → (if bytes_eq name p.name then p.value else value) ≡ given name (ps ++ p ∷ [])
given_more name value ps p is once =
    let before = before-once ps p once in
    ap (λ (v : List ℕ). if bytes_eq name p.name then p.value else v) (is before.0) ∙ sym (given-snoc name ps p before.1)

-- one more parameter, which isn't reserved
pub take_more : (body rest user database : List ℕ) (names more : List (Bor (List ℕ))) (name : Bor (List ℕ)) (p : Parameter) (after : List ℕ) → Taken body rest user database names → IsParameter p → rest ≡ parameter p ++ after → is_reserved p.name ≡ false → more ≡ names ++ name ∷ [] → name.now ≡ p.name
    → Taken body after (if bytes_eq (codes "user") p.name then p.value else user) (if bytes_eq (codes "database") p.name then p.value else database) more
take_more body rest user database names more name p after taken is spelled allowed grown named = record {
  done = taken.done ++ p ∷ [];
  spelled = taken.spelled ∙ ap (λ (t : List ℕ). flat_map parameter taken.done ++ t) spelled ∙ sym (flat_map-snoc taken.done p after);
  formed = AllByRecursion-snoc IsParameter taken.done p taken.formed is;
  allowed = AllByRecursion-snoc IsAllowed taken.done p taken.allowed allowed;
  named =
      let one : texts (name ∷ []) ≡ names_of (p ∷ []) = ap (λ (n : List ℕ). n ∷ []) named in
      ap texts grown ∙ map-append (λ (n : Bor (List ℕ)). n.now) names (name ∷ []) ∙ ap (λ (ns : List (List ℕ)). ns ++ texts (name ∷ [])) taken.named ∙ ap (λ (ns : List (List ℕ)). names_of taken.done ++ ns) one ∙ sym (map-append (λ (q : Parameter). q.name) taken.done (p ∷ []));
  is_user = given_more (codes "user") user taken.done p taken.is_user;
  is_database = given_more (codes "database") database taken.done p taken.is_database;
}

-- a parameter has three bytes at least
pub length-parameter : (p : Parameter) (rest after : List ℕ) → IsParameter p → rest ≡ parameter p ++ after → length after + 3 ≤ length rest
length-parameter p rest after is spelled = named_so p.name is.named (ap length (spelled ∙ parameter-append p after))
  where
    named_so : (name : List ℕ) → name ≢ [] → length rest ≡ length (name ++ 0 ∷ (p.value ++ 0 ∷ after)) → length after + 3 ≤ length rest
    named_so [] named e = absurd (named refl)
    named_so (byte ∷ more) named e =
        omega (arith, e, length-append more (0 ∷ (p.value ++ 0 ∷ after)), length-append p.value (0 ∷ after))

-- the parameters end with a zero byte
pub all_taken : (body rest : List ℕ) (session : Session) (names : List (Bor (List ℕ))) → Taken body rest session.user.now session.database.now names → rest ≡ 0 ∷ [] → IsReadOf session names body
all_taken body rest session names taken ends = record {
  parameters = taken.done;
  formed = taken.formed;
  allowed = taken.allowed;
  spelled = taken.spelled ∙ ap (λ (t : List ℕ). flat_map parameter taken.done ++ t) ends;
  named = taken.named;
  user = taken.is_user;
  database = taken.is_database;
}

-- no parameter stands where the rest isn't the end
none_left : (rest : List ℕ) (left : List Parameter) → AllByRecursion IsParameter left → rest ≡ body_of left → (rest ≡ 0 ∷ [] → ⊥) → ((p : Parameter) (after : List ℕ) → IsParameter p → rest ≡ parameter p ++ after → ⊥) → ⊥
none_left rest [] are spelled goes_on none = goes_on spelled
none_left rest (q ∷ qs) are spelled goes_on none =
    none q (body_of qs) are.0 (spelled ∙ append_assoc (parameter q) (flat_map parameter qs) (0 ∷ []))

-- a body whose rest begins with no parameter, and isn't the end, is that of none
pub not_formed : (body rest user database : List ℕ) (names : List (Bor (List ℕ))) → Taken body rest user database names → (rest ≡ 0 ∷ [] → ⊥) → ((p : Parameter) (after : List ℕ) → IsParameter p → rest ≡ parameter p ++ after → ⊥) → (ps : List Parameter) → AllByRecursion IsParameter ps → body ≡ body_of ps → ⊥
not_formed body rest user database names taken goes_on none ps are e =
    let left = left_of taken.done rest ps taken.formed are (sym taken.spelled ∙ e) in
    none_left rest left.left (after-formed IsParameter taken.done left.left (subst (AllByRecursion IsParameter) left.joined are)) left.spelled goes_on none

none_reserved : (p : Parameter) (rest after : List ℕ) (left : List Parameter) → AllByRecursion IsParameter left → AllByRecursion IsAllowed left → rest ≡ body_of left → IsParameter p → rest ≡ parameter p ++ after → is_reserved p.name ≡ true → ⊥
none_reserved p rest after [] are allowed spelled is begins reserved = no_parameter p after [] is (sym begins ∙ spelled)
none_reserved p rest after (q ∷ qs) are allowed spelled is begins reserved =
    let both = one_parameter p q after (body_of qs) is are.0 (sym begins ∙ spelled ∙ append_assoc (parameter q) (flat_map parameter qs) (0 ∷ [])) in
    false≢true (sym allowed.0 ∙ sym (ap (λ (r : Parameter). is_reserved r.name) both.0) ∙ reserved)

-- a body with a reserved name is that of no parameters that a client may send
pub not_allowed : (body rest user database : List ℕ) (names : List (Bor (List ℕ))) (p : Parameter) (after : List ℕ) → Taken body rest user database names → IsParameter p → rest ≡ parameter p ++ after → is_reserved p.name ≡ true → (ps : List Parameter) → AllByRecursion IsParameter ps → AllByRecursion IsAllowed ps → body ≡ body_of ps → ⊥
not_allowed body rest user database names p after taken is begins reserved ps are allowed e =
    let left = left_of taken.done rest ps taken.formed are (sym taken.spelled ∙ e) in
    none_reserved p rest after left.left
    (after-formed IsParameter taken.done left.left (subst (AllByRecursion IsParameter) left.joined are))
    (after-formed IsAllowed taken.done left.left (subst (AllByRecursion IsAllowed) left.joined allowed))
    left.spelled is begins reserved

-- names that are distinct as they were read are so as they were sent, and the other way round
others_apart : (name : Bor (List ℕ)) (names : List (Bor (List ℕ))) (p : Parameter) (ps : List Parameter) → name.now ≡ p.name → texts names ≡ names_of ps → AllByRecursion (λ other. bytes_eq name.now other.now ≡ false) names → AllByRecursion (λ q. q.name ≢ p.name) ps
others_apart name names p [] same e all = tt
others_apart name [] p (q ∷ qs) same e all = absurd (cc)
others_apart name (other ∷ names) p (q ∷ qs) same e all =
    let here : other.now ≡ q.name = cc in
    let rest : texts names ≡ names_of qs = cc in
    (λ twice. false≢true (sym all.0 ∙ (bytes_eq-Decides name.now other.now).1 (same ∙ sym twice ∙ sym here)), others_apart name names p qs same rest all.1)

apart_others : (name : Bor (List ℕ)) (names : List (Bor (List ℕ))) (p : Parameter) (ps : List Parameter) → name.now ≡ p.name → texts names ≡ names_of ps → AllByRecursion (λ q. q.name ≢ p.name) ps → AllByRecursion (λ other. bytes_eq name.now other.now ≡ false) names
apart_others name [] p ps same e all = tt
apart_others name (other ∷ names) p [] same e all = absurd (cc)
apart_others name (other ∷ names) p (q ∷ qs) same e all =
    let here : other.now ≡ q.name = cc in
    let rest : texts names ≡ names_of qs = cc in
    (false_from_ne_true _ (λ twice. all.0 (sym here ∙ sym ((bytes_eq-Decides name.now other.now).0 twice) ∙ same)), apart_others name names p qs same rest all.1)

once_from_distinct : (names : List (Bor (List ℕ))) (ps : List Parameter) → texts names ≡ names_of ps → AreDistinct names → AreGivenOnce ps
once_from_distinct names [] e distinct = tt
once_from_distinct [] (p ∷ ps) e distinct = absurd (cc)
once_from_distinct (name ∷ names) (p ∷ ps) e distinct =
    let here : name.now ≡ p.name = cc in
    let rest : texts names ≡ names_of ps = cc in
    (others_apart name names p ps here rest (IsDistinct-head _ name names distinct), once_from_distinct names ps rest (IsDistinct-tail _ name names distinct))

distinct_from_once : (names : List (Bor (List ℕ))) (ps : List Parameter) → texts names ≡ names_of ps → AreGivenOnce ps → AreDistinct names
unfolding IsDistinct
distinct_from_once [] ps e once = tt
distinct_from_once (name ∷ names) [] e once = absurd (cc)
distinct_from_once (name ∷ names) (p ∷ ps) e once =
    let here : name.now ≡ p.name = cc in
    let rest : texts names ≡ names_of ps = cc in
    IsDistinct-cons _ name names (apart_others name names p ps here rest once.0) (distinct_from_once names ps rest once.1)

-- a body with distinct names gives its session
pub session_of_read : (body : List ℕ) (session : Session) (names : List (Bor (List ℕ))) → IsReadOf session names body → AreDistinct names → IsSessionOf session body
session_of_read body session names read distinct =
    let once = once_from_distinct names read.parameters read.named distinct in
    record {
      parameters = read.parameters;
      sendable = record { formed = read.formed; once = once; allowed = read.allowed };
      spelled = read.spelled;
      user = read.user once;
      database = read.database once;
    }

-- a body with a name twice is that of no parameters that a client may send
pub none_of_read : (body : List ℕ) (session : Session) (names : List (Bor (List ℕ))) → IsReadOf session names body → (AreDistinct names → ⊥) → (ps : List Parameter) → AreParameters ps → body ≡ body_of ps → ⊥
none_of_read body session names read repeated ps are e =
    let same = one_body ps read.parameters are.formed read.formed (sym e ∙ read.spelled) in
    repeated (distinct_from_once names read.parameters read.named (subst AreGivenOnce same are.once))
