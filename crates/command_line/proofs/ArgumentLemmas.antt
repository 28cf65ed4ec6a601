-- Arguments are read one after the other.
use Rattle.std.proofs.Common.{◌≡◌, ℕ, zero, suc, ◌+◌, ◌<◌, ◌≤◌, Bool, true, false, not, ◌&&◌, ◌||◌, eqb, List, [], ◌∷◌, ◌++◌, codes, length, get_or, map, filter, if◌then◌else◌, drop, Option, Some, None, Bor, inr, refl, sym, ap, ◌∙◌, append_assoc, append-nil, arith, drop-cons}
use Rattle.std.proofs.Math.Seq.{take-length}
use Rattle.std.proofs.lemmas.List.{drop_all}
use Rattle.std.proofs.lemmas.List.Folds.{list_any_none, list_any_at}
use Rattle.std.proofs.lemmas.List.Sums.{fails_before_first, passes_at_first}
use Rattle.std.proofs.lemmas.List.Kept.{AllPairs-cons}
use Rattle.std.specs.Prelude.{MatchOption, AllPairs, ◌≢◌, All}
use Rattle.std.specs.Option.{option_map}
use Rattle.std.specs.Prelude.{Result, Ok, Err, IsErr}
use Rattle.command_line.specs.declared.wrong.Wrong.{Wrong}
use Rattle.command_line.specs.Finds.{Takes, Finds}
use Rattle.std.specs.Str.{bytes_eq}
use Rattle.std.specs.List.{position_or_len, list_any, before_first, after_first}
use Rattle.std.proofs.lemmas.Bool.Decides.{nat_tests}
use Rattle.command_line.specs.declared.command_name.CommandName.{CommandName}
use Rattle.command_line.specs.Options.{same_option}
use Rattle.command_line.specs.declared.arguments.GivenOption.{GivenOption}
use Rattle.command_line.specs.declared.option_name.OptionName.{OptionName}
use Rattle.command_line.specs.Arguments.{Text, Given, Plain, End, Flag, Alone, Whole, Unknown, shape_of, given_behind, given_by_all, plain_alone, value_alone, joined, LeadsOn, option_in, values_of, is_plain, is_end, asks_help, cut_at, cut_in}
use Rattle.command_line.specs.Numbers.{◌>>=◌, each, all_differ, one_or_more}

-- the texts from a place on begin with the one at that place
pub texts_from : (words : List (Bor (List ℕ))) (i : ℕ) (d : Bor (List ℕ)) → i < length words
    → map (λ w. w.now) (drop i words) ≡ (get_or words i d).now
    ∷ map (λ w. w.now) (drop (i + 1) words)
texts_from words i d within =
    let next : suc i ≡ i + 1 = omega arith in
    ap (map (λ (w : Bor (List ℕ)). w.now)) (drop-cons words i d within)
    ∙ ap (λ k. (get_or words i d).now ∷ map (λ (w : Bor (List ℕ)). w.now) (drop k words)) next

-- texts that are there
pub some_texts : (words : List (Bor (List ℕ))) → 0 < length words
    → one_or_more (map (λ w. w.now) words) ≡ Some (map (λ w. w.now) words)
some_texts [] some = absurd (omega arith)
some_texts (word ∷ words) some = refl

-- ---- what some arguments give, and then the others

pub joined_assoc : (a b c : Given) → joined (joined a b) c ≡ joined a (joined b c)
joined_assoc a b c = simp append_assoc refl

pub joined_nothing : (a : Given) → joined a (plain_alone []) ≡ a
joined_nothing a = simp append-nil refl

same_maps : {A B : Type 0} (f g : A → B) → ((x : A) → f x ≡ g x) → (o : Option A)
    → option_map f o ≡ option_map g o
same_maps f g same None = refl
same_maps f g same (Some x) = ap Some (same x)

-- what was given grows by one thing
pub grows : (command : CommandName) (whole said : Option Given) (old new : Given)
    (others : List Text) → whole ≡ option_map (joined old) said
    → LeadsOn command old new said others
    → whole ≡ option_map (joined new) (given_by_all command others)
grows command whole said old new others is leads = is
    ∙ ap (option_map (joined old)) leads.gives ∙ twice (given_by_all command others)
  where
    twice : (o : Option Given) → option_map (joined old) (option_map (joined leads.one) o)
        ≡ option_map (joined new) o
    twice None = refl
    twice (Some g) = ap Some (sym (joined_assoc old leads.one g)
        ∙ ap (λ all. joined all g) (sym leads.grown))

pub takes_plain : (command : CommandName) (argument : Text) (later : List Text) (old new : Given)
    → shape_of command argument ≡ Plain → new ≡ joined old (plain_alone (argument ∷ []))
    → LeadsOn command old new (given_by_all command (argument ∷ later)) later
unfolding given_behind
takes_plain command argument later old new shape grown =
    record { one = plain_alone (argument ∷ []); grown = grown; gives = rw shape refl }

pub takes_end : (command : CommandName) (argument : Text) (later : List Text) (old new : Given)
    → shape_of command argument ≡ End → new ≡ joined old (plain_alone later)
    → LeadsOn command old new (given_by_all command (argument ∷ later)) []
unfolding given_behind
takes_end command argument later old new shape grown =
    record { one = plain_alone later; grown = grown; gives = rw (shape, append-nil later) refl }

pub takes_flag : (command : CommandName) (argument : Text) (name : OptionName) (later : List Text)
    (old new : Given) → shape_of command argument ≡ Flag name
    → new ≡ joined old (value_alone name [])
    → LeadsOn command old new (given_by_all command (argument ∷ later)) later
unfolding given_behind
takes_flag command argument name later old new shape grown =
    record { one = value_alone name []; grown = grown; gives = rw shape refl }

pub takes_whole : (command : CommandName) (argument : Text) (name : OptionName) (value : Text)
    (later : List Text) (old new : Given) → shape_of command argument ≡ Whole name value
    → new ≡ joined old (value_alone name value)
    → LeadsOn command old new (given_by_all command (argument ∷ later)) later
unfolding given_behind
takes_whole command argument name value later old new shape grown =
    record { one = value_alone name value; grown = grown; gives = rw shape refl }

pub takes_value : (command : CommandName) (name : OptionName) (value : Text) (later : List Text)
    (old new : Given) → is_plain value ≡ true → new ≡ joined old (value_alone name value)
    → LeadsOn command old new (given_behind command (Some name) (value ∷ later)) later
unfolding given_behind
takes_value command name value later old new plain grown =
    record { one = value_alone name value; grown = grown; gives = rw plain refl }

pub awaits : (command : CommandName) (argument : Text) (name : OptionName) (later : List Text)
    → shape_of command argument ≡ Alone name → given_by_all command (argument ∷ later)
    ≡ given_behind command (Some name) later
unfolding given_behind
awaits command argument name later shape = rw shape refl

pub takes_unknown : (command : CommandName) (argument : Text) (later : List Text)
    → shape_of command argument ≡ Unknown → given_by_all command (argument ∷ later) ≡ None
unfolding given_behind
takes_unknown command argument later shape = rw shape refl

pub takes_no_value : (command : CommandName) (name : OptionName) (value : Text) (later : List Text)
    → is_plain value ≡ false → given_behind command (Some name) (value ∷ later) ≡ None
unfolding given_behind
takes_no_value command name value later plain = rw plain refl

pub awaits_nothing : (command : CommandName) (name : OptionName)
    → given_behind command (Some name) [] ≡ None
unfolding given_behind
awaits_nothing command name = refl

pub gives_nothing : (command : CommandName) → given_by_all command [] ≡ Some (plain_alone [])
unfolding given_behind
gives_nothing command = refl

-- ---- the values of an option

-- one option more, whose value is among those that are read where the option is the one
one_value : (option : GivenOption) (kept : List GivenOption) (seen : List (OptionName × Text))
    (keeps : Bool) → map (λ o. o.value.now) kept ≡ map (λ o. o.1) seen
    → map (λ o. o.value.now) (if keeps then option ∷ kept else kept)
    ≡ map (λ o. o.1) (if keeps then option_in option ∷ seen else seen)
one_value option kept seen true rest = ap (λ texts. option.value.now ∷ texts) rest
one_value option kept seen false rest = rest

-- the values that are read of the options are those of the options
pub values_read : (name : OptionName) (options : List GivenOption)
    → map (λ o. o.value.now) (filter (λ o. same_option name o.name) options)
    ≡ values_of name (record { options = map option_in options; plain = [] })
values_read name [] = refl
values_read name (option ∷ options) =
    one_value option _ _ (same_option name option.name) (values_read name options)

-- ---- cuts

-- a cut at the first such byte, and no cut where there is none
pub cut_read : (mark : ℕ) (text : Text) (whole : Bor Text) (r : Option (Bor Text × Bor Text))
    → MatchOption r (position_or_len (λ b. eqb b mark) text ≡ length text)
    (λ x. (position_or_len (λ b. eqb b mark) text < length text)
    × (x.0.now ≡ before_first (λ b. eqb b mark) text)
    × (x.1.now ≡ after_first (λ b. eqb b mark) text))
    → MatchOption r (whole.now ≡ text → cut_in (whole, None) ≡ cut_at mark text)
    (λ x. cut_in (x.0, Some x.1) ≡ cut_at mark text)
unfolding cut_at
cut_read mark text whole None h =
    let is_mark : ℕ → Bool = λ b. eqb b mark in
    let none : list_any is_mark text ≡ false =
    list_any_none is_mark text (λ k d within. fails_before_first is_mark text k d
    (omega (arith, h, within))) in
    λ is. rw (none, h, take-length text, is) refl
cut_read mark text whole (Some x) h =
    let is_mark : ℕ → Bool = λ b. eqb b mark in
    let some : list_any is_mark text ≡ true =
    list_any_at is_mark text (position_or_len is_mark text) 0 h.0
    (passes_at_first is_mark text 0 h.0) in
    rw (some, h.1, h.2) refl

-- ---- items

push_all : {A : Type 0} (x : A) (so_far : List A) (o : Option (List A))
    → option_map (λ others. so_far ++ others) (o >>= (λ others. Some (x ∷ others)))
    ≡ option_map (λ others. (so_far ++ x ∷ []) ++ others) o
push_all x so_far None = refl
push_all x so_far (Some others) = ap Some (sym (append_assoc so_far (x ∷ []) others))

-- the item at a place is read
pub each_read : {A : Type 0} (read : Text → Option A) (words : List (Bor (List ℕ))) (i : ℕ)
    (d : Bor (List ℕ)) (so_far : List A) (x : A) (whole : Option (List A)) → i < length words
    → whole ≡ option_map (λ others. so_far ++ others) (each read (map (λ w. w.now) (drop i words)))
    → read (get_or words i d).now ≡ Some x
    → whole ≡ option_map (λ others. (so_far ++ x ∷ []) ++ others)
    (each read (map (λ w. w.now) (drop (i + 1) words)))
unfolding each
each_read read words i d so_far x whole within is item = is
    ∙ rw (texts_from words i d within, item)
    (push_all x so_far (each read (map (λ w. w.now) (drop (i + 1) words))))

-- the item at a place can't be read
pub each_refused : {A : Type 0} (read : Text → Option A) (words : List (Bor (List ℕ))) (i : ℕ)
    (d : Bor (List ℕ)) (so_far : List A) (whole : Option (List A)) → i < length words
    → whole ≡ option_map (λ others. so_far ++ others) (each read (map (λ w. w.now) (drop i words)))
    → read (get_or words i d).now ≡ None → whole ≡ None
unfolding each
each_refused read words i d so_far whole within is item = is
    ∙ rw (texts_from words i d within, item) refl

-- all items were read
pub each_done : {A : Type 0} (read : Text → Option A) (words : List (Bor (List ℕ))) (i : ℕ)
    (so_far : List A) (whole : Option (List A)) → length words ≤ i
    → whole ≡ option_map (λ others. so_far ++ others) (each read (map (λ w. w.now) (drop i words)))
    → whole ≡ Some so_far
unfolding each
each_done read words i so_far whole past is = is
    ∙ rw (drop_all i words past, append-nil so_far) refl

-- ---- numbers of which none comes twice

and_both : (a b : Bool) → (a && b) ≡ true → (a ≡ true) × (b ≡ true)
and_both true b e = (refl, e)
and_both false b e = cc

or_none : (a b : Bool) → (a || b) ≡ false → (a ≡ false) × (b ≡ false)
or_none true b e = cc
or_none false b e = (refl, e)

not_true : (b : Bool) → not b ≡ true → b ≡ false
not_true true e = cc
not_true false e = refl

none_equal : (n : ℕ) (ns : List ℕ) → list_any (λ m. eqb m n) ns ≡ false → All (λ m. n ≢ m) ns
none_equal n [] none i d within = absurd (omega arith)
none_equal n (m ∷ ms) none zero d within = let apart =
    (or_none (eqb m n) (list_any (λ k. eqb k n) ms) none).0 in grind (arith, nat_tests)
none_equal n (m ∷ ms) none (suc i) d within =
    none_equal n ms (or_none (eqb m n) (list_any (λ k. eqb k n) ms) none).1 i d (omega arith)

pub differ_pairs : (numbers : List ℕ) → all_differ numbers ≡ true → AllPairs (λ a b. a ≢ b) numbers
unfolding all_differ
differ_pairs [] all = λ i j d lt within. absurd (omega arith)
differ_pairs (n ∷ ns) all =
    let both = and_both (not (list_any (λ m. eqb m n) ns)) (all_differ ns) all in
    AllPairs-cons (λ a b. a ≢ b) n ns (none_equal n ns
    (not_true (list_any (λ m. eqb m n) ns) both.0)) (differ_pairs ns both.1)

-- the number at a place comes again, or doesn't
pub differ_at : (numbers : List ℕ) (i d : ℕ) → i < length numbers → (again : Bool)
    → list_any (λ m. eqb m (get_or numbers i d)) (drop (i + 1) numbers) ≡ again
    → all_differ (drop i numbers) ≡ (not again && all_differ (drop (i + 1) numbers))
unfolding all_differ
differ_at numbers i d within again is =
    let next : suc i ≡ i + 1 = omega arith in
    rw (← next, drop-cons numbers i d within)
    (ap (λ a. not a && all_differ (drop (suc i) numbers)) (rw next is))

pub differ_nothing : (numbers : List ℕ) (i : ℕ) → length numbers ≤ i
    → all_differ (drop i numbers) ≡ true
unfolding all_differ
differ_nothing numbers i past = rw (drop_all i numbers past) refl

-- ---- help

pub help_at : (words : List (Bor (List ℕ))) (i : ℕ) (d : Bor (List ℕ)) (ends short long : Bool)
    → i < length words → bytes_eq (get_or words i d).now (codes "--") ≡ ends
    → bytes_eq (get_or words i d).now (codes "-h") ≡ short
    → bytes_eq (get_or words i d).now (codes "--help") ≡ long
    → asks_help (map (λ w. w.now) (drop i words))
    ≡ (not ends && ((short || long) || asks_help (map (λ w. w.now) (drop (i + 1) words))))
unfolding asks_help
help_at words i d ends short long within is_end is_short is_long =
    rw (texts_from words i d within) (simp (is_end, is_short, is_long) refl)

pub help_nothing : (words : List (Bor (List ℕ))) (i : ℕ) → length words ≤ i
    → asks_help (map (λ w. w.now) (drop i words)) ≡ false
unfolding asks_help
help_nothing words i past = rw (drop_all i words past) refl

drop_twice : (words : List (Bor (List ℕ))) → drop 1 (drop 1 words) ≡ drop 2 words
drop_twice [] = refl
drop_twice (w ∷ []) = refl
drop_twice (w ∷ v ∷ words) = refl

-- ---- the first of some arguments

-- what stands for an argument where there is none
abbrev pub no_text : Bor (List ℕ)
no_text = record { ref_ptr = (0, 0); now = [] }

-- they begin with it
pub first_text : (words : List (Bor (List ℕ))) → 0 < length words
    → map (λ w. w.now) words ≡ (get_or words 0 no_text).now ∷ map (λ w. w.now) (drop 1 words)
first_text words some = texts_from words 0 no_text some

module _ (command : CommandName) (words : List (Bor (List ℕ))) (some : 0 < length words)
    (old new : Given) where
  leads : (others : List Text)
      → LeadsOn command old new (given_by_all command ((get_or words 0 no_text).now
      ∷ map (λ w. w.now) (drop 1 words))) others
      → LeadsOn command old new (given_by_all command (map (λ w. w.now) words)) others
  leads others h = rw (first_text words some) h

  pub first_plain : shape_of command (get_or words 0 no_text).now ≡ Plain
      → new ≡ joined old (plain_alone ((get_or words 0 no_text).now ∷ []))
      → LeadsOn command old new (given_by_all command (map (λ w. w.now) words)) (map (λ w. w.now) (drop 1 words))
  first_plain shape grown =
      leads (map (λ w. w.now) (drop 1 words))
      (takes_plain command (get_or words 0 no_text).now (map (λ w. w.now) (drop 1 words)) old new shape
      grown)

  pub first_end : (later : List (Bor (List ℕ))) → later ≡ drop 1 words
      → shape_of command (get_or words 0 no_text).now ≡ End
      → new ≡ joined old (plain_alone (map (λ w. w.now) later))
      → LeadsOn command old new (given_by_all command (map (λ w. w.now) words))
      (map (λ w. w.now) (drop (length words) words))
  first_end later are shape grown =
      let none : length words ≤ length words = omega arith in
      rw (drop_all (length words) words none)
      (leads [] (takes_end command (get_or words 0 no_text).now (map (λ w. w.now) (drop 1 words)) old
      new shape (rw are at grown)))

  pub first_flag : (name : OptionName) → shape_of command (get_or words 0 no_text).now ≡ Flag name
      → new ≡ joined old (value_alone name [])
      → LeadsOn command old new (given_by_all command (map (λ w. w.now) words))
      (map (λ w. w.now) (drop 1 words))
  first_flag name shape grown =
      leads (map (λ w. w.now) (drop 1 words))
      (takes_flag command (get_or words 0 no_text).now name (map (λ w. w.now) (drop 1 words)) old
      new shape grown)

  pub first_whole : (name : OptionName) (value : Text)
      → shape_of command (get_or words 0 no_text).now ≡ Whole name value
      → new ≡ joined old (value_alone name value)
      → LeadsOn command old new (given_by_all command (map (λ w. w.now) words)) (map (λ w. w.now) (drop 1 words))
  first_whole name value shape grown =
      leads (map (λ w. w.now) (drop 1 words))
      (takes_whole command (get_or words 0 no_text).now name value (map (λ w. w.now) (drop 1 words)) old new
      shape grown)

  pub first_two : (later : List (Bor (List ℕ))) → later ≡ drop 1 words
      → (name : OptionName) (value : Text) → shape_of command (get_or words 0 no_text).now ≡ Alone name
      → is_plain value ≡ true → map (λ w. w.now) later ≡ value ∷ map (λ w. w.now) (drop 1 later)
      → new ≡ joined old (value_alone name value)
      → LeadsOn command old new (given_by_all command (map (λ w. w.now) words)) (map (λ w. w.now) (drop 2 words))
  first_two later are name value shape plain begins grown =
      let two : drop 1 later ≡ drop 2 words = ap (drop 1) are ∙ drop_twice words in
      let said : given_by_all command (map (λ w. w.now) words) ≡ given_behind command (Some name)
      (value ∷ map (λ w. w.now) (drop 2 words)) =
      ap (given_by_all command) (first_text words some)
      ∙ awaits command (get_or words 0 no_text).now name (map (λ w. w.now) (drop 1 words)) shape
      ∙ ap (given_behind command (Some name)) (ap (map (λ (w : Bor (List ℕ)). w.now)) (sym are) ∙ begins
      ∙ ap (λ l. value ∷ map (λ (w : Bor (List ℕ)). w.now) l) two) in
      rw said (takes_value command name value (map (λ w. w.now) (drop 2 words)) old new plain grown)

  pub first_alone : (later : List (Bor (List ℕ))) → later ≡ drop 1 words → (name : OptionName)
      → shape_of command (get_or words 0 no_text).now ≡ Alone name
      → given_behind command (Some name) (map (λ w. w.now) later) ≡ None
      → given_by_all command (map (λ w. w.now) words) ≡ None
  first_alone later are name shape none =
      ap (given_by_all command) (first_text words some)
      ∙ awaits command (get_or words 0 no_text).now name (map (λ w. w.now) (drop 1 words)) shape
      ∙ ap (λ l. given_behind command (Some name) (map (λ (w : Bor (List ℕ)). w.now) l)) (sym are) ∙ none

  pub first_unknown : shape_of command (get_or words 0 no_text).now ≡ Unknown
      → given_by_all command (map (λ w. w.now) words) ≡ None
  first_unknown shape = rw (first_text words some)
      (takes_unknown command (get_or words 0 no_text).now (map (λ w. w.now) (drop 1 words)) shape)

pub awaits_none : (command : CommandName) (name : OptionName) (words : List (Bor (List ℕ)))
    → length words ≡ 0 → given_behind command (Some name) (map (λ w. w.now) words) ≡ None
awaits_none command name [] none = awaits_nothing command name
awaits_none command name (w ∷ words) none = absurd (omega arith)

-- arguments that give nothing are refused
pub refused_takes : (command : CommandName) (old new : Given) (words : List (Bor (List ℕ))) (r : Result ℕ Wrong) → IsErr r
    → given_by_all command (map (λ w. w.now) words) ≡ None → Takes command old new words r
refused_takes command old new words (Ok count) err none = cc
refused_takes command old new words (Err wrong) err none = inr none

pub refused_finds : {X Y : Type 0} (view : X → Y) (r : Result X Wrong) (said : Option Y) → IsErr r
    → said ≡ None → Finds view r said
refused_finds view (Ok x) said err none = cc
refused_finds view (Err wrong) said err none = inr none
