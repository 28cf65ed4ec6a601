-- The text of a settings query.
use Rattle.std.proofs.Common.{◌≡◌, ◌∙◌, ◌≢◌, ℕ, ◌+◌, ◌<◌, ◌≤◌, ◌==◌, ◌⊎◌, ◌↔◌, Bool, true, false, ◌||◌, ◌&&◌, IsTrue, cond, nat_le, Option, Some, None, IfSome, IsNone, List, [], ◌∷◌, ◌++◌, length, get_or, drop, codes, refl, sym, ap, subst, inl, inr, arith, append_assoc, ◌^◌}
use Rattle.std.specs.List.{AllByRecursion, list_all, flat_map}
use Rattle.std.specs.Str.{bytes_eq}
use Rattle.std.specs.Char.{is_ascii_alphanumeric}
use Rattle.std.specs.Int.{is_in_range}
use Rattle.std.proofs.lemmas.Bool.{cases_Bool, and_parts, or_cases, leb-true, eqb-true, false≢true}
use Rattle.std.proofs.lemmas.List.{append-nil, drop_more}
use Rattle.std.proofs.lemmas.Slice.Eq.{bytes_eq-Decides}
use Rattle.startup.specs.Replies.{Report}
use Rattle.tracked_parameters.specs.Names.{is_name, is_name_byte, AreNames}
use Rattle.tracked_parameters.specs.Values.{Agree, IsText, AreTexts}
use Rattle.tracked_parameters.specs.Settings.{difference, differing, IsSetting, AreSettings, IsPrintable, IsSettingsQuery, query}
use Rattle.tracked_parameters.specs.Stored.{is_there, all_there, piece, written, next, joined, all_written}
use Rattle.tracked_parameters.proofs.ReadingLemmas.{one_reading}
use Rattle.tracked_parameters.proofs.ConstantLemmas.{all_append, all_printable, constant_printable, constant_closed, constant_reads}

in_range : (low high byte : ℕ) → is_in_range low high byte ≡ true → 32 ≤ low → high < 127 → IsPrintable byte
in_range low high byte is above below =
    let parts = and_parts (nat_le low byte) (nat_le byte high) is in
    (omega (arith, leb-true low byte parts.0), omega (arith, leb-true byte high parts.1))

name_byte : (byte : ℕ) → is_name_byte byte ≡ true → IsPrintable byte
name_byte byte is = go (or_cases (is_ascii_alphanumeric byte) (byte == 95 || byte == 46) is)
  where
    first : (is_in_range 48 57 byte ≡ true) ⊎ (is_in_range 65 90 byte ≡ true) → IsPrintable byte
    first (inl a) = in_range 48 57 byte a (omega arith) (omega arith)
    first (inr a) = in_range 65 90 byte a (omega arith) (omega arith)

    letter : ((is_in_range 48 57 byte || is_in_range 65 90 byte) ≡ true) ⊎ (is_in_range 97 122 byte ≡ true) → IsPrintable byte
    letter (inl a) = first (or_cases _ _ a)
    letter (inr a) = in_range 97 122 byte a (omega arith) (omega arith)

    mark : (byte == 95 ≡ true) ⊎ (byte == 46 ≡ true) → IsPrintable byte
    mark (inl a) = let e = eqb-true byte 95 a in (omega (arith, e), omega (arith, e))
    mark (inr a) = let e = eqb-true byte 46 a in (omega (arith, e), omega (arith, e))

    go : (is_ascii_alphanumeric byte ≡ true) ⊎ ((byte == 95 || byte == 46) ≡ true) → IsPrintable byte
    go (inl a) = letter (or_cases _ _ a)
    go (inr a) = mark (or_cases _ _ a)

name_bytes : (name : List ℕ) → list_all is_name_byte name ≡ true → AllByRecursion IsPrintable name
name_bytes [] is = tt
name_bytes (byte ∷ name) is =
    let parts = and_parts (is_name_byte byte) (list_all is_name_byte name) is in
    (name_byte byte parts.0, name_bytes name parts.1)

name_printable : (name : List ℕ) → is_name name ≡ true → AllByRecursion IsPrintable name
name_printable [] is = absurd (false≢true is)
name_printable (byte ∷ name) is = name_bytes (byte ∷ name) (and_parts _ (list_all is_name_byte (byte ∷ name)) is).1

-- a setting of a name by a text
abbrev IsFormed : Report → Type 0
IsFormed report = (is_name report.name ≡ true) × IsText report.value

written_printable : (report : Report) → IsFormed report → AllByRecursion IsPrintable (written report)
written_printable report is =
    all_append IsPrintable (codes "SET ") _ (all_printable (codes "SET ") refl)
    (all_append IsPrintable report.name _ (name_printable report.name is.0)
    (all_append IsPrintable (codes " = E'") _ (all_printable (codes " = E'") refl)
    (all_append IsPrintable (flat_map piece report.value) _ (constant_printable report.value is.1) (all_printable (codes "'") refl))))

written_is : (report : Report) → IsFormed report → IsSetting report (written report)
written_is report is = record {
  inside = flat_map piece report.value;
  spelled = refl;
  reads = constant_reads report.value is.1;
  only = λ value reads. one_reading value report.value (flat_map piece report.value) reads (constant_reads report.value is.1);
  closed = constant_closed report.value is.1;
}

-- settings with a separator before each
behind : List Report → List ℕ
behind reports = flat_map (λ report. codes "; " ++ written report) reports

joined_is : (byte : ℕ) (text : List ℕ) (reports : List Report) → joined (byte ∷ text) reports ≡ (byte ∷ text) ++ behind reports
unfolding behind
joined_is byte text [] = sym (append-nil (byte ∷ text))
joined_is byte text (report ∷ reports) =
    joined_is byte (text ++ (codes "; " ++ written report)) reports
    ∙ append_assoc (byte ∷ text) (codes "; " ++ written report) (behind reports)

settings_are : (report : Report) (reports : List Report) → IsFormed report → AllByRecursion IsFormed reports → AreSettings (report ∷ reports) (written report ++ behind reports)
unfolding behind
settings_are report [] is all = subst (IsSetting report) (sym (append-nil (written report))) (written_is report is)
settings_are report (more ∷ reports) is all =
    (written report, written more ++ behind reports, written_is report is, refl, settings_are more reports all.0 all.1)

behind_printable : (reports : List Report) → AllByRecursion IsFormed reports → AllByRecursion IsPrintable (behind reports)
unfolding behind
behind_printable [] all = tt
behind_printable (report ∷ reports) all =
    all_append IsPrintable (codes "; " ++ written report) (behind reports)
    (all_append IsPrintable (codes "; ") (written report) (all_printable (codes "; ") refl) (written_printable report all.0))
    (behind_printable reports all.1)

-- what the settings of formed names and texts are written as
query_is : (reports : List Report) → AllByRecursion IsFormed reports → reports ≢ [] → (bytes text : List ℕ) → text ≡ all_written reports → bytes ≡ query text → 5 + length text < 2 ^ 32 → IsSettingsQuery reports bytes
query_is [] all some bytes text is message fits = absurd (some refl)
query_is (report ∷ reports) all some bytes text is message fits =
    let whole : text ≡ written report ++ behind reports = is ∙ joined_is _ _ reports in
    record {
      text = text;
      some = some;
      are = subst (AreSettings (report ∷ reports)) (sym whole) (settings_are report reports all.0 all.1);
      printable = subst (AllByRecursion IsPrintable) (sym whole) (all_append IsPrintable (written report) (behind reports) (written_printable report all.0) (behind_printable reports all.1));
      message = message;
      fits = fits;
    }

one_formed : (name : List ℕ) (value there : Option (List ℕ)) → is_name name ≡ true → IfSome value IsText → AllByRecursion IsFormed (difference name value there)
one_formed name None there is text = tt
one_formed name (Some value) None is text = ((is, text), tt)
one_formed name (Some value) (Some other) is text = go (bytes_eq other value)
  where
    go : (b : Bool) → AllByRecursion IsFormed (cond b [] (record { name = name; value = value } ∷ []))
    go true = tt
    go false = ((is, text), tt)

differing_formed : (names : List (List ℕ)) (wanted present : List (Option (List ℕ))) → AllByRecursion (λ name. is_name name ≡ true) names → AreTexts wanted → AllByRecursion IsFormed (differing names wanted present)
differing_formed [] wanted present named texts = tt
differing_formed (name ∷ names) [] present named texts = tt
differing_formed (name ∷ names) (value ∷ wanted) [] named texts = tt
differing_formed (name ∷ names) (value ∷ wanted) (there ∷ present) named texts =
    all_append IsFormed (difference name value there) (differing names wanted present)
    (one_formed name value there named.0 texts.0) (differing_formed names wanted present named.1 texts.1)

nothing_front : {A : Type 0} (xs ys : List A) → xs ++ ys ≡ [] → (xs ≡ []) × (ys ≡ [])
nothing_front [] ys e = (refl, e)
nothing_front (x ∷ xs) ys e = absurd (cc)

not_empty : (report : Report) → report ∷ [] ≡ [] → ⊥
not_empty report e = cc

one_agrees : (name : List ℕ) (value there : Option (List ℕ)) → difference name value there ≡ [] → IfSome value (λ v. there ≡ Some v)
one_agrees name None there none = tt
one_agrees name (Some value) None none = absurd (cc)
one_agrees name (Some value) (Some other) none = go (cases_Bool (bytes_eq other value))
  where
    go : (bytes_eq other value ≡ true) ⊎ (bytes_eq other value ≡ false) → Some other ≡ Some value
    go (inl same) = ap Some ((bytes_eq-Decides other value).0 same)
    go (inr differs) = absurd (not_empty (record { name = name; value = value }) (sym (ap (λ (b : Bool). cond b [] (record { name = name; value = value } ∷ [])) differs) ∙ none))

-- where nothing differs all that is wanted is there
nothing_differs : (names : List (List ℕ)) (wanted present : List (Option (List ℕ))) → length wanted ≡ length names → length present ≡ length names → differing names wanted present ≡ [] → Agree wanted present
nothing_differs names [] present lw lp none = tt
nothing_differs [] (value ∷ wanted) present lw lp none = absurd (omega arith)
nothing_differs (name ∷ names) (value ∷ wanted) [] lw lp none = absurd (omega arith)
nothing_differs (name ∷ names) (value ∷ wanted) (there ∷ present) lw lp none =
    let parts = nothing_front (difference name value there) (differing names wanted present) none in
    (one_agrees name value there parts.0, nothing_differs names wanted present (omega arith) (omega arith) parts.1)

-- the query where not all that is wanted is there
pub settings_query_is : (names : List (List ℕ)) (wanted present : List (Option (List ℕ))) (bytes text : List ℕ) → AreNames names → AreTexts wanted → length wanted ≡ length names → length present ≡ length names → (Agree wanted present → ⊥) → text ≡ all_written (differing names wanted present) → bytes ≡ query text → 5 + length text < 2 ^ 32 → IsSettingsQuery (differing names wanted present) bytes
settings_query_is names wanted present bytes text are texts lw lp differ is message fits =
    query_is (differing names wanted present) (differing_formed names wanted present are.formed texts)
    (λ none. differ (nothing_differs names wanted present lw lp none)) bytes text is message fits

-- those from a place on, of which the first is the one at the place
pub differing_more : (names : List (List ℕ)) (wanted present : List (Option (List ℕ))) (place : ℕ) → place < length names → length wanted ≡ length names → length present ≡ length names
    → differing (drop place names) (drop place wanted) (drop place present)
    ≡ difference (get_or names place []) (get_or wanted place None) (get_or present place None) ++ differing (drop (place + 1) names) (drop (place + 1) wanted) (drop (place + 1) present)
differing_more names wanted present place within lw lp =
    ap (λ (ns : List (List ℕ)). differing ns (drop place wanted) (drop place present)) (drop_more names place [] within)
    ∙ ap (λ (ws : List (Option (List ℕ))). differing (get_or names place [] ∷ drop (place + 1) names) ws (drop place present)) (drop_more wanted place None (omega arith))
    ∙ ap (λ (ps : List (Option (List ℕ))). differing (get_or names place [] ∷ drop (place + 1) names) (get_or wanted place None ∷ drop (place + 1) wanted) ps) (drop_more present place None (omega arith))

-- settings that are joined in two parts
pub joined-append : (text : List ℕ) (front reports : List Report) → joined text (front ++ reports) ≡ joined (joined text front) reports
joined-append text [] reports = refl
joined-append text (report ∷ front) reports = joined-append (next text report) front reports

one_from : (value there : Option (List ℕ)) → IfSome value (λ v. there ≡ Some v) → is_there value there ≡ true
one_from None there agree = refl
one_from (Some value) None agree = absurd (cc)
one_from (Some value) (Some other) agree = let same : other ≡ value = cc in (bytes_eq-Decides other value).1 same

one_to : (value there : Option (List ℕ)) → is_there value there ≡ true → IfSome value (λ v. there ≡ Some v)
one_to None there is = tt
one_to (Some value) None is = absurd (false≢true is)
one_to (Some value) (Some other) is = ap Some ((bytes_eq-Decides other value).0 is)

no_value : (value : Option (List ℕ)) → is_there value None ≡ true → IsNone value
no_value None is = refl
no_value (Some value) is = absurd (false≢true is)

none_there : (value : Option (List ℕ)) → IsNone value → is_there value None ≡ true
none_there None is = refl
none_there (Some value) is = absurd (cc)

there_from : (wanted present : List (Option (List ℕ))) → Agree wanted present → all_there wanted present ≡ true
there_from [] present agree = refl
there_from (value ∷ wanted) [] agree = grind (arith, none_there value agree.0, there_from wanted [] agree.1)
there_from (value ∷ wanted) (there ∷ present) agree = grind (arith, one_from value there agree.0, there_from wanted present agree.1)

there_to : (wanted present : List (Option (List ℕ))) → all_there wanted present ≡ true → Agree wanted present
there_to [] present is = tt
there_to (value ∷ wanted) [] is =
    let parts = and_parts (is_there value None) (all_there wanted []) is in
    (no_value value parts.0, there_to wanted [] parts.1)
there_to (value ∷ wanted) (there ∷ present) is =
    let parts = and_parts (is_there value there) (all_there wanted present) is in
    (one_to value there parts.0, there_to wanted present parts.1)

-- whether all from a place on are there
pub there_more : (wanted present : List (Option (List ℕ))) (place : ℕ) → place < length wanted → length wanted ≡ length present
    → all_there (drop place wanted) (drop place present)
    ≡ (is_there (get_or wanted place None) (get_or present place None) && all_there (drop (place + 1) wanted) (drop (place + 1) present))
there_more wanted present place within same =
    ap (λ (ws : List (Option (List ℕ))). all_there ws (drop place present)) (drop_more wanted place None within)
    ∙ ap (λ (ps : List (Option (List ℕ))). all_there (get_or wanted place None ∷ drop (place + 1) wanted) ps) (drop_more present place None (omega arith))

-- one that isn't there, as it was read
pub missing_at : (value wanted there present : Option (List ℕ)) → value ≡ wanted → there ≡ present → false ≡ is_there value there → is_there wanted present ≡ false
missing_at value wanted there present a b missing = cc

-- a test of whether all are there, and what it says
pub agree_iff : (wanted present : List (Option (List ℕ))) (result : Bool) → result ≡ all_there wanted present → IsTrue result ↔ Agree wanted present
agree_iff wanted present result is = (λ yes. there_to wanted present (sym is ∙ yes), λ agree. is ∙ there_from wanted present agree)
