-- What a ParameterStatus changes, by the first bytes of its body.
use Rattle.std.proofs.Common.{◌≡◌, ◌≢◌, ◌∙◌, ℕ, zero, suc, ◌+◌, ◌-◌, ◌<◌, ◌≤◌, ◌==◌, ◌⊎◌, ◌&&◌, Bool, true, false, cond, Option, Some, None, is_some, IfSome, Result, Ok, Err, OnOk, OnErr, List, [], ◌∷◌, ◌++◌, length, take, drop, slice_get, refl, sym, ap, subst, inl, inr, arith, add-one, append_assoc, append-nil, length-append, take-append-drop}
use Rattle.std.specs.Prelude.{nat_lt}
use Rattle.std.specs.Char.{to_ascii_lowercase}
use Rattle.std.specs.List.{AllByRecursion, position_from}
use Rattle.std.specs.Str.{str_to_ascii_lowercase}
use Rattle.std.proofs.lemmas.Bool.{cases_eq, eq-eqb, ne_eqb, lt-ltb}
use Rattle.std.proofs.lemmas.List.{length-map, take_all}
use Rattle.std.proofs.lemmas.Slice.Eq.{bytes_eq-Decides}
use Rattle.startup.specs.StartupMessage.{HasNoZero}
use Rattle.startup.specs.Replies.{Report}
use Rattle.tracked_parameters.specs.declared.value_error.ValueError.{ValueError}
use Rattle.tracked_parameters.specs.declared.value_error.ValueError.TheVariants.{TooLong}
use Rattle.tracked_parameters.specs.Names.{alike}
use Rattle.tracked_parameters.specs.Status.{IsStatus}
use Rattle.tracked_parameters.specs.Values.{place_of}
use Rattle.tracked_parameters.specs.Server.{ServerState, longest_value, is_too_long, reported_at, after_report, after_lost_report}
use Rattle.tracked_parameters.proofs.TextLemmas.{text_before, one_text, status_begins}
use Rattle.tracked_links.specs.Heard.{HearsStatus}
use Rattle.tracked_links.specs.HeardInside.{Suffices, IsBeforeZero}

-- a name that is too long is none of these
not_true : (b : Bool) → (b ≡ true → ⊥) → b ≡ false
not_true true never = absurd (never refl)
not_true false never = refl

alike_long : (one name : List ℕ) → alike one name ≡ true → length one ≡ length name
alike_long one name e =
    let same = (bytes_eq-Decides (str_to_ascii_lowercase one) (str_to_ascii_lowercase name)).0 e in
    sym (length-map one to_ascii_lowercase) ∙ ap length same ∙ length-map name to_ascii_lowercase

untracked_from : (i : ℕ) (names : List (List ℕ)) (name : List ℕ) (most : ℕ) → AllByRecursion (Suffices most) names → (length name + 10003 ≤ most → ⊥) → position_from (λ one. alike one name) i names ≡ None
untracked_from i [] name most each long = refl
untracked_from i (one ∷ more) name most each long =
    let other : alike one name ≡ false =
    not_true (alike one name) (λ e. long (omega (arith, alike_long one name e, each.0))) in
    ap (λ (b : Bool). cond b (Some i) (position_from (λ one. alike one name) (i + 1) more)) other
    ∙ untracked_from (i + 1) more name most each.1 long

pub untracked : (names : List (List ℕ)) (name : List ℕ) (most : ℕ) → AllByRecursion (Suffices most) names → (length name + 10003 ≤ most → ⊥) → place_of names name ≡ None
untracked names name most each long = untracked_from 0 names name most each long

-- more is enough, too
pub enough_by : (less more : ℕ) (names : List (List ℕ)) → less ≤ more → AllByRecursion (Suffices less) names → AllByRecursion (Suffices more) names
enough_by less more [] le each = tt
enough_by less more (name ∷ names) le each = (omega (arith, le, each.0), enough_by less more names le each.1)

-- enough for one name more
pub enough_next : (names : List (List ℕ)) (i less at most : ℕ) → AllByRecursion (Suffices less) (take i names) → IfSome (slice_get names i) (Suffices at) → less ≤ most → at ≤ most → AllByRecursion (Suffices most) (take (i + 1) names)
enough_next names i less at most each here le le' =
    subst (λ (n : ℕ). AllByRecursion (Suffices most) (take n names)) (sym (add-one i)) (next names i each here)
  where
    next : (names : List (List ℕ)) (i : ℕ) → AllByRecursion (Suffices less) (take i names) → IfSome (slice_get names i) (Suffices at) → AllByRecursion (Suffices most) (take (suc i) names)
    next [] zero each here = tt
    next [] (suc i) each here = tt
    next (name ∷ names) zero each here = (omega (arith, here, le'), tt)
    next (name ∷ names) (suc i) each here = (omega (arith, each.0, le), next names i each.1 here)

-- what stands before the first zero byte
zero_none : (i byte : ℕ) (bytes : List ℕ) → (byte ≡ 0) ⊎ (byte ≡ 0 → ⊥) → cond (byte == 0) (Some i) (position_from (λ byte. byte == 0) (i + 1) bytes) ≡ None → (position_from (λ byte. byte == 0) (i + 1) bytes ≡ None → HasNoZero bytes) → HasNoZero (byte ∷ bytes)
zero_none i byte bytes (inl is) none rest =
    let here : Some i ≡ None =
    ap (λ (b : Bool). cond b (Some i) (position_from (λ byte. byte == 0) (i + 1) bytes)) (sym (eq-eqb byte 0 is)) ∙ none in
    absurd (cc)
zero_none i byte bytes (inr is) none rest =
    (is, rest (ap (λ (b : Bool). cond b (Some i) (position_from (λ byte. byte == 0) (i + 1) bytes)) (sym (ne_eqb byte 0 is)) ∙ none))

none_zero : (i : ℕ) (bytes : List ℕ) → position_from (λ byte. byte == 0) i bytes ≡ None → HasNoZero bytes
none_zero i [] none = tt
none_zero i (byte ∷ bytes) none = zero_none i byte bytes (cases_eq byte 0) none (none_zero (i + 1) bytes)

pub before_none : (bytes : List ℕ) (o : Option ℕ) → o ≡ position_from (λ byte. byte == 0) 0 bytes → o ≡ None → IsBeforeZero bytes bytes
before_none bytes o is none = record {
  no_zero = none_zero 0 bytes (sym is ∙ none);
  rest = [];
  whole = sym (append-nil bytes);
  ended = inl refl;
}

pub before_some : (bytes : List ℕ) (o : Option ℕ) (end : ℕ) → o ≡ position_from (λ byte. byte == 0) 0 bytes → o ≡ Some end → IsBeforeZero bytes (take end bytes)
before_some bytes o end is found =
    let parts = text_before bytes o end is found in
    record {
      no_zero = parts.0;
      rest = 0 ∷ take (length bytes - (end + 1)) (drop (end + 1) bytes);
      whole = parts.1;
      ended = inr (take (length bytes - (end + 1)) (drop (end + 1) bytes), refl);
    }

-- the whole body was kept: what its value is, or that it isn't kept
not_too_long : {X : Type 0} (b : Bool) (x : X) → (b ≡ true → Ok x ≡ Err TooLong) → b ≡ false
not_too_long true x long = let made = long refl in absurd (cc)
not_too_long false x long = refl

pub whole_noted : (result : Result Unit ValueError) (names : List (List ℕ)) (body : List ℕ) (report : Report) (old new : ServerState) → IsStatus body report → (is_too_long names report ≡ true → result ≡ Err TooLong) → OnOk result (new ≡ after_report names report old) → OnErr result (new ≡ after_lost_report names report.name old) → HearsStatus names body old new
whole_noted (Ok x) names body report old new is long ok err = inr (inl (record {
  report = report;
  is_status = is;
  fits = not_too_long (is_too_long names report) x long;
  kept = ok;
}))
whole_noted (Err e) names body report old new is long ok err = inr (inr (record {
  name = report.name;
  no_zero = is.name;
  more = report.value ++ 0 ∷ [];
  begins = status_begins body report is;
  lost = err;
}))

pub whole_other : (names : List (List ℕ)) (body : List ℕ) (server : ServerState) → ((report : Report) → IsStatus body report → ⊥) → HearsStatus names body server server
whole_other names body server none =
    inl (record { untracked = λ report is. absurd (none report is); same = refl })

-- the body is longer: no value of it is kept
lost_by : {X : Type 0} (place : Option ℕ) (x : X) (value : List ℕ) (old new : ServerState) → 10000 < length value → ((is_some place && nat_lt longest_value (length value)) ≡ true → Ok x ≡ Err TooLong) → new ≡ reported_at place (Some value) old → new ≡ reported_at place None old
lost_by None x value old new above long is = is
lost_by (Some place) x value old new above long is =
    let made = long (lt-ltb 10000 (length value) above) in absurd (cc)

lost_either : (result : Result Unit ValueError) (names : List (List ℕ)) (report : Report) (old new : ServerState) → 10000 < length report.value → (is_too_long names report ≡ true → result ≡ Err TooLong) → OnOk result (new ≡ after_report names report old) → OnErr result (new ≡ after_lost_report names report.name old) → new ≡ after_lost_report names report.name old
lost_either (Ok x) names report old new above long ok err = lost_by (place_of names report.name) x report.value old new above long ok
lost_either (Err e) names report old new above long ok err = err

-- the zero byte behind the name, where it isn't all
ends_in_zero : (bytes text : List ℕ) → length text ≢ length bytes → (before : IsBeforeZero bytes text) → (after : List ℕ) × (bytes ≡ text ++ 0 ∷ after)
ends_in_zero bytes text shorter before = by_case before.ended
  where
    by_case : (before.rest ≡ []) ⊎ ((after : List ℕ) × (before.rest ≡ 0 ∷ after)) → (after : List ℕ) × (bytes ≡ text ++ 0 ∷ after)
    by_case (inl none) =
        absurd (shorter (ap length (sym (append-nil text)) ∙ ap (λ (xs : List ℕ). length (text ++ xs)) (sym none) ∙ ap length (sym before.whole)))
    by_case (inr ends) = (ends.0, before.whole ∙ ap (λ (xs : List ℕ). text ++ xs) ends.1)

-- what follows the name and its zero byte
dropped : (text after : List ℕ) → drop (suc (length text)) (text ++ 0 ∷ after) ≡ after
dropped [] after = refl
dropped (x ∷ xs) after = dropped xs after

behind : (bytes text after : List ℕ) → bytes ≡ text ++ 0 ∷ after → drop (length text + 1) bytes ≡ after
behind bytes text after is =
    ap (λ (n : ℕ). drop n bytes) (add-one (length text)) ∙ ap (drop (suc (length text))) is ∙ dropped text after

pub cut_lost : (result : Result Unit ValueError) (names : List (List ℕ)) (bytes name value more : List ℕ) (old new : ServerState) → IsBeforeZero bytes name → length name ≢ length bytes → 10000 < length value → (is_too_long names (record { name = name; value = value }) ≡ true → result ≡ Err TooLong) → OnOk result (new ≡ after_report names (record { name = name; value = value }) old) → OnErr result (new ≡ after_lost_report names name old) → HearsStatus names (bytes ++ more) old new
cut_lost result names bytes name value more old new before shorter above long ok err =
    let parts = ends_in_zero bytes name shorter before in
    inr (inr (record {
      name = name;
      no_zero = before.no_zero;
      more = parts.0 ++ more;
      begins = ap (λ (xs : List ℕ). xs ++ more) parts.1 ∙ append_assoc name (0 ∷ parts.0) more;
      lost = lost_either result names (record { name = name; value = value }) old new above long ok err;
    }))

-- a value that is short has something behind its zero byte, unless the name is too long
longer_name : (bytes name more after : List ℕ) → HasNoZero bytes → bytes ++ more ≡ name ++ 0 ∷ after → length bytes ≤ length name
longer_name [] name more after none e = omega arith
longer_name (byte ∷ bytes) [] more after none e = absurd (none.0 cc)
longer_name (byte ∷ bytes) (letter ∷ name) more after none e =
    let rest : length bytes ≤ length name = longer_name bytes name more after none.1 cc in omega (arith, rest)

no_zero_in : (bytes text : List ℕ) → length text ≡ length bytes → IsBeforeZero bytes text → HasNoZero bytes
no_zero_in bytes text same before =
    subst HasNoZero (sym (before.whole ∙ ap (λ (xs : List ℕ). text ++ xs) (empty before.rest (omega (arith, same, ap length before.whole, length-append text before.rest))) ∙ append-nil text)) before.no_zero
  where
    empty : (xs : List ℕ) → length xs ≡ 0 → xs ≡ []
    empty [] none = refl
    empty (x ∷ xs) none = absurd (omega (arith, none))

pub cut_nameless : (names : List (List ℕ)) (bytes name more : List ℕ) (server : ServerState) → AllByRecursion (Suffices (length bytes)) names → IsBeforeZero bytes name → length name ≡ length bytes → HearsStatus names (bytes ++ more) server server
cut_nameless names bytes name more server each before same =
    inl (record {
      untracked = λ report is.
          let longer : length bytes ≤ length report.name =
          longer_name bytes report.name more (report.value ++ 0 ∷ []) (no_zero_in bytes name same before) (status_begins (bytes ++ more) report is) in
          untracked names report.name (length bytes) each (λ fits. omega (arith, fits, longer));
      same = refl;
    })

-- a short value that is ended before the end
no_more : (value rest after : List ℕ) → HasNoZero value → HasNoZero after → (end : (rest ≡ []) ⊎ ((behind : List ℕ) × (rest ≡ 0 ∷ behind))) → 2 ≤ length rest → (more : List ℕ) → after ++ 0 ∷ [] ≡ (value ++ rest) ++ more → ⊥
no_more value rest after none none' (inl empty) some more e = omega (arith, some, ap length empty)
no_more value rest after none none' (inr ends) some more e =
    let whole : after ++ 0 ∷ [] ≡ value ++ 0 ∷ (ends.0 ++ more) =
    e ∙ ap (λ (xs : List ℕ). (value ++ xs) ++ more) ends.1 ∙ append_assoc value (0 ∷ ends.0) more in
    let last = one_text after value [] (ends.0 ++ more) none' none whole in
    omega (arith, some, ap length ends.1, ap length last.1, length-append ends.0 more)

pub cut_short : (names : List (List ℕ)) (bytes name value more : List ℕ) (server : ServerState) → AllByRecursion (Suffices (length bytes)) names → IsBeforeZero bytes name → length name ≢ length bytes → IsBeforeZero (drop (length name + 1) bytes) value → length value ≤ 10000 → HearsStatus names (bytes ++ more) server server
cut_short names bytes name value more server each before shorter before' short =
    let parts = ends_in_zero bytes name shorter before in
    let after = parts.0 in
    let after_is : after ≡ value ++ before'.rest = sym (behind bytes name after parts.1) ∙ before'.whole in
    inl (record {
      untracked = λ report is.
          let fronts = one_text report.name name (report.value ++ 0 ∷ []) (after ++ more) is.name before.no_zero
          (sym (status_begins (bytes ++ more) report is) ∙ ap (λ (xs : List ℕ). xs ++ more) parts.1 ∙ append_assoc name (0 ∷ after) more) in
          untracked names report.name (length bytes) each (λ fits.
          no_more value before'.rest report.value before'.no_zero is.value before'.ended
          (omega (arith, fits, short, ap length fronts.0, ap length parts.1, length-append name (0 ∷ after), ap length after_is, length-append value before'.rest))
          more (fronts.1 ∙ ap (λ (xs : List ℕ). xs ++ more) after_is));
      same = refl;
    })

-- what is kept of a body that is shorter is all of it
pub kept_whole : (body whole : List ℕ) (most : ℕ) → body ≡ take most whole → length body < most → whole ≡ body
kept_whole body whole most is short = sym (is ∙ take_all most whole (fits whole most (omega (arith, short, ap length is))))
  where
    fits : (xs : List ℕ) (n : ℕ) → length (take n xs) < n → length xs ≤ n
    fits [] n h = omega arith
    fits (x ∷ xs) zero h = absurd (omega (arith, h))
    fits (x ∷ xs) (suc n) h = let rest : length xs ≤ n = fits xs n (omega (arith, h)) in omega (arith, rest)

-- and one that isn't shorter is its beginning
pub kept_cut : (body whole : List ℕ) (most : ℕ) → body ≡ take most whole → whole ≡ body ++ drop most whole
kept_cut body whole most is =
    sym (take-append-drop most whole) ∙ ap (λ (xs : List ℕ). xs ++ drop most whole) (sym is)
