-- A reader that goes on behind faults finds all of them.
use Rattle.std.proofs.Common.{◌≡◌, ℕ, suc, ◌+◌, ◌≤◌, ◌<◌, add-one, Bool, true, false, not, ◌&&◌, ◌||◌, if◌then◌else◌, List, [], ◌∷◌, ◌++◌, length, map, take, drop, cond, leb, codes, Option, is_some, is_none, Result, Ok, Err, Some, None, Bor, refl, sym, ap, subst, ◌∙◌, arith, append_assoc, append-nil, length-append}
use Rattle.std.specs.Iterator.{AlwaysYields}
use Rattle.std.specs.List.{list_any, prefix_len}
use Rattle.std.specs.Option.{option_map}
use Rattle.std.specs.Str.Iter.{lines_steps, lines_rest}
use Rattle.std.specs.Str.Lines.{lines}
use Rattle.std.specs.declared.str.Lines.{Lines}
use Rattle.std.proofs.lemmas.Iterator.{YieldsList}
use Rattle.std.proofs.lemmas.Iterator.Splits.{YieldsList-from_lines}
use Rattle.ini_config.specs.declared.fault.IniCode.{IniCode}
use Rattle.ini_config.specs.declared.faults.WholeFault.{WholeFault}
use Rattle.ini_config.specs.declared.faults.WholeFault.TheVariants as whole
use Rattle.ini_config.specs.declared.keys.PoolMode.{PoolMode}
use Rattle.ini_config.specs.declared.keys.AuthType.{AuthType}
use Rattle.ini_config.specs.Faults.{LineFault, IsFirst, AreFaults, gone, left, gone_with, left_behind, section_lines, is_section_line, subject_of, Ends, told, is_missing, names, whole_faults}
use Rattle.ini_config.specs.Reads.{◌>>=◌}
use Rattle.ini_config.specs.Node.{NodeSettings, pool_total}
use Rattle.ini_config.specs.Settings.{Given, nothing, line_given, lines_given, in_line, node_given, settings_given, settings_of}
use Rattle.ini_config.specs.Surveyed.{Surveyed, nothing_surveyed, survey_gone, survey_fault, survey_read, survey_line}
use Rattle.ini_config.specs.Text.{trimmed}
use Rattle.ini_config.proofs.LineLemmas.{lines-le, settings_of-result}
use Rattle.ini_config.proofs.Totals.{settings_given-within}

-- ---- what lines give

-- one more line behind others
given_then : (xs : List (List ℕ)) (l : List ℕ) (f : Given) (n : ℕ) (g h : Given)
    → lines_given f n xs ≡ Ok g → line_given g (trimmed l) ≡ Ok h
    → lines_given f n (xs ++ l ∷ []) ≡ Ok h
unfolding lines_given
given_then [] l f n g h e given = let same : f ≡ g = cc in rw (same, given) refl
given_then (x ∷ xs) l f n g h e given =
    by (λ k so. given_then xs l k (suc n) g h so given) (line_given f (trimmed x)) e
  where
    by : ((k : Given) → lines_given k (suc n) xs ≡ Ok g
        → lines_given k (suc n) (xs ++ l ∷ []) ≡ Ok h)
        → (r : Result Given IniCode) → (in_line n r >>= λ k. lines_given k (suc n) xs) ≡ Ok g
        → (in_line n r >>= λ k. lines_given k (suc n) (xs ++ l ∷ [])) ≡ Ok h
    by more (Ok k) e = more k e
    by more (Err c) e = cc

-- an empty line gives nothing
nothing_given : (g : Given) → line_given g (trimmed []) ≡ Ok g
unfolding line_given
nothing_given g = refl

-- ---- the lines that go with a section line

one_more : (n : ℕ) → 1 + n ≡ suc n
one_more n = omega arith

gone_more : (l : List ℕ) (ls : List (List ℕ)) → is_section_line l ≡ false
    → gone_with true (l ∷ ls) ≡ l ∷ gone_with true ls
gone_more l ls other =
    let n = prefix_len (λ line. not (is_section_line line)) ls in
    let count : prefix_len (λ line. not (is_section_line line)) (l ∷ ls) ≡ suc n =
    ap (λ b. cond (not b) (1 + n) 0) other ∙ one_more n in
    ap (λ k. take k (l ∷ ls)) count

left_more : (l : List ℕ) (ls : List (List ℕ)) → is_section_line l ≡ false
    → left_behind true (l ∷ ls) ≡ [] ∷ left_behind true ls
left_more l ls other =
    ap (λ (gone : List (List ℕ)). map (λ (line : List ℕ). []) gone ++ drop (length gone) (l ∷ ls))
    (gone_more l ls other)

gone_none : (l : List ℕ) (ls : List (List ℕ)) → is_section_line l ≡ true
    → gone_with true (l ∷ ls) ≡ []
gone_none l ls opens = rw opens refl

left_none : (l : List ℕ) (ls : List (List ℕ)) → is_section_line l ≡ true
    → left_behind true (l ∷ ls) ≡ l ∷ ls
left_none l ls opens = rw opens refl

gone_end : (b : Bool) → gone_with b [] ≡ []
gone_end true = refl
gone_end false = refl

left_end : (b : Bool) → left_behind b [] ≡ []
left_end true = refl
left_end false = refl

-- ---- what has been read

same_faults : (taken taken' ls ls' : List (List ℕ)) (more : List LineFault)
    (whole : List WholeFault) → taken ≡ taken' → ls ≡ ls' → AreFaults taken ls more whole
    → AreFaults taken' ls' more whole
same_faults taken taken' ls ls' more whole e f h =
    subst (λ t. AreFaults t ls' more whole) e (subst (λ l. AreFaults taken l more whole) f h)

-- The lines that were read, with those that were taken out emptied, gave this, and the faults of
-- what is left follow those so far.
pub record Reached (all : List (List ℕ)) (s : Surveyed) (number : ℕ) (ls : List (List ℕ))
    : Type 0 where
  pub done : List (List ℕ)
  pub many : length done ≡ number
  pub gave : lines_given nothing 1 done ≡ Ok s.given
  pub goes : (more : List LineFault) (whole : List WholeFault)
      → AreFaults (s.taken ++ gone_with s.skips ls) (done ++ left_behind s.skips ls) more whole
      → AreFaults [] all (s.faults ++ more) whole

-- nothing has been read
pub none_reached : (all : List (List ℕ)) → Reached all nothing_surveyed 0 all
unfolding lines_given
none_reached all = record { done = []; many = refl; gave = refl; goes = λ more whole h. h }

module _ (all : List (List ℕ)) (s : Surveyed) (number : ℕ) (l : List ℕ) (ls : List (List ℕ))
    (r : Reached all s number (l ∷ ls)) where
  longer : (x : List ℕ) → length (r.done ++ x ∷ []) ≡ number + 1
  longer x = length-append r.done (x ∷ []) ∙ ap (λ n. n + 1) r.many

  -- the line goes with a section line
  line_gone : s.skips ≡ true → is_section_line l ≡ false
      → Reached all (survey_gone s l) (number + 1) ls
  line_gone skips other = record {
    done = r.done ++ [] ∷ [];
    many = longer [];
    gave = given_then r.done [] nothing 1 s.given s.given r.gave (nothing_given s.given);
    goes = λ more whole h. r.goes more whole (same_faults _ _ _ _ more whole
        (append_assoc s.taken (l ∷ []) (gone_with s.skips ls)
        ∙ ap (λ t. s.taken ++ t) (rw skips (sym (gone_more l ls other))))
        (append_assoc r.done ([] ∷ []) (left_behind s.skips ls)
        ∙ ap (λ t. r.done ++ t) (rw skips (sym (left_more l ls other)))) h);
  }

  module _ (none : gone_with s.skips (l ∷ ls) ≡ []) (same : left_behind s.skips (l ∷ ls) ≡ l ∷ ls)
    where
      -- the line isn't refused
      line_good : (h : Given) → line_given s.given (trimmed l) ≡ Ok h
          → Reached all (record s { given = h; skips = false }) (number + 1) ls
      line_good h given = record {
        done = r.done ++ l ∷ [];
        many = longer l;
        gave = given_then r.done l nothing 1 s.given h r.gave given;
        goes = λ more whole faults. r.goes more whole (same_faults _ _ _ _ more whole
            (ap (λ t. s.taken ++ t) (sym none))
            (append_assoc r.done (l ∷ []) ls ∙ ap (λ t. r.done ++ t) (sym same)) faults);
      }

      -- the line is refused
      line_fault : (c : IniCode) → line_given s.given (trimmed l) ≡ Err c
          → Reached all (survey_fault s (number + 1) c l (is_section_line l)) (number + 1) ls
      line_fault c refused =
          let fault : LineFault = record {
            line = number + 1;
            code = c;
            subject = subject_of s.given (trimmed l);
          } in
          let first : IsFirst (r.done ++ left_behind s.skips (l ∷ ls)) fault = record {
            before = r.done;
            line = l;
            after = ls;
            place = ap (λ t. r.done ++ t) same;
            number = ap (λ n. n + 1) (sym r.many);
            given = s.given;
            gave = r.gave;
            refused = refused;
            subject = refl;
          } in
          record {
            done = r.done ++ [] ∷ [];
            many = longer [];
            gave = given_then r.done [] nothing 1 s.given s.given r.gave (nothing_given s.given);
            goes = λ more whole faults.
                subst (λ (f : List LineFault). AreFaults [] all f whole)
                (sym (append_assoc s.faults (fault ∷ []) more))
                (r.goes (fault ∷ more) whole (
                  first,
                  same_faults _ _ _ _ more whole
                      (append_assoc s.taken (l ∷ []) (gone_with (is_section_line l) ls)
                      ∙ ap (λ t. t ++ l ∷ gone_with (is_section_line l) ls)
                      (sym (ap (λ t. s.taken ++ t) none ∙ append-nil s.taken)))
                      (append_assoc r.done ([] ∷ []) (left_behind (is_section_line l) ls)) faults,
                ));
          }

      line_read : (said : Result Given IniCode) → line_given s.given (trimmed l) ≡ said
          → Reached all (survey_read s (number + 1) l said) (number + 1) ls
      line_read (Ok h) e = line_good h e
      line_read (Err c) e = line_fault c e

  -- one more line
  pub next_reached : Reached all (survey_line s (number + 1) l) (number + 1) ls
  unfolding survey_line
  next_reached = by s.skips (is_section_line l) refl refl
    where
      by : (skips opens : Bool) → s.skips ≡ skips → is_section_line l ≡ opens
          → Reached all (if skips && not opens then survey_gone s l
          else survey_read s (number + 1) l (line_given s.given (trimmed l))) (number + 1) ls
      by true true skips opens = line_read (rw skips (gone_none l ls opens))
          (rw skips (left_none l ls opens)) (line_given s.given (trimmed l)) refl
      by true false skips opens = line_gone skips opens
      by false opens skips is = line_read (rw skips refl) (rw skips refl)
          (line_given s.given (trimmed l)) refl

-- no line is left
pub all_reached : (all : List (List ℕ)) (s : Surveyed) (number : ℕ) → Reached all s number []
    → AreFaults [] all s.faults (whole_faults s.taken s.given)
all_reached all s number r =
    subst (λ (f : List LineFault). AreFaults [] all f (whole_faults s.taken s.given))
    (append-nil s.faults)
    (r.goes [] (whole_faults s.taken s.given) (record {
      given = s.given;
      gave = ap (lines_given nothing 1) (ap (λ t. r.done ++ t) (left_end s.skips)
          ∙ append-nil r.done) ∙ r.gave;
      whole_is = sym (ap (λ t. whole_faults t s.given) (ap (λ t. s.taken ++ t) (gone_end s.skips)
          ∙ append-nil s.taken));
    }))

-- ---- the loop

-- what has been read, and the lines that are left, of which the last read has this number
pub record SurveyLeft (text : List ℕ) (s : Surveyed) (number : ℕ) (it : Lines) : Type 0 where
  pub left_lines : List (List ℕ)
  pub yields : YieldsList lines_steps (λ x. x.now) it left_lines
  pub reached : Reached (lines text) s number left_lines
  pub counted : number + length left_lines ≤ length text

pub all_left : (text : List ℕ) (it : Lines) → lines_rest it ≡ text
    → SurveyLeft text nothing_surveyed 0 it
all_left text it e = record {
  left_lines = lines text;
  yields = YieldsList-from_lines text e;
  reached = none_reached (lines text);
  counted = omega (arith, lines-le text);
}

-- one more line
pub record NextLine (text : List ℕ) (s : Surveyed) (number : ℕ) (line : List ℕ) (after : Lines)
    : Type 0 where
  pub fits : number < length text
  pub goes : SurveyLeft text (survey_line s (number + 1) line) (number + 1) after

pub next_line : (text : List ℕ) (s : Surveyed) (number : ℕ) (it after : Lines) (x : Bor (List ℕ))
    → SurveyLeft text s number it → lines_steps it (Some x) after
    → NextLine text s number x.now after
next_line text s number it after x h step = by h.left_lines h.yields.runs h.reached h.counted
  where
    by : (ls : List (List ℕ)) → AlwaysYields lines_steps (λ (y : Bor (List ℕ)). y.now) it ls
        → Reached (lines text) s number ls → number + length ls ≤ length text
        → NextLine text s number x.now after
    by [] none reached counted = absurd (none x after step)
    by (l ∷ ls) yields reached counted =
        let more = yields.1 x after step in
        record {
          fits = omega arith;
          goes = record {
            left_lines = ls;
            yields = record { runs = more.1 };
            reached = subst (λ (line : List ℕ). Reached (lines text)
                (survey_line s (number + 1) line) (number + 1) ls) (sym more.0)
                (next_reached (lines text) s number l ls reached);
            counted = omega arith;
          };
        }

-- no line is left
pub no_line : (text : List ℕ) (s : Surveyed) (number : ℕ) (it after : Lines)
    → SurveyLeft text s number it → lines_steps it None after
    → AreFaults [] (lines text) s.faults (whole_faults s.taken s.given)
no_line text s number it after h step = by h.left_lines h.yields.runs h.reached
  where
    by : (ls : List (List ℕ)) → AlwaysYields lines_steps (λ (y : Bor (List ℕ)). y.now) it ls
        → Reached (lines text) s number ls
        → AreFaults [] (lines text) s.faults (whole_faults s.taken s.given)
    by [] none reached = all_reached (lines text) s number reached
    by (l ∷ ls) yields reached = absurd (yields.0 after step)

-- ---- the whole

-- a test of what texts are
pub any_seen : (p : List ℕ → Bool) (words : List (Bor (List ℕ)))
    → list_any (λ w. p w.now) words ≡ list_any p (map (λ w. w.now) words)
any_seen p [] = refl
any_seen p (w ∷ words) = ap (λ b. p w.now || b) (any_seen p words)

-- whether a value isn't there
pub none_is : {A : Type 0} (value : Option A) (none : Bool) → is_some value ≡ not none
    → none ≡ is_none value
none_is (Some x) true e = cc
none_is (Some x) false e = refl
none_is None true e = refl
none_is None false e = cc

-- whether a key is missing
pub missing_is : {A : Type 0} (key : List ℕ) (words : List (Bor (List ℕ))) (value : Option A)
    (none result : Bool) → none ≡ is_none value
    → result ≡ (none && not (list_any (λ w. names key w.now) words))
    → result ≡ is_missing (map (λ w. w.now) words) key value
missing_is key words value none result is_none_is result_is = result_is
    ∙ ap (λ b. b && not (list_any (λ (w : Bor (List ℕ)). names key w.now) words)) is_none_is
    ∙ ap (λ b. is_none value && not b) (any_seen (names key) words)

pub none_mapped : {A B : Type 0} (f : A → B) (value : Option A)
    → is_none value ≡ is_none (option_map f value)
none_mapped f None = refl
none_mapped f (Some x) = refl

-- four faults that are there or not
pub told_all : (f f1 f2 f3 f4 : List WholeFault) (a b c d a' b' c' d' : Bool) → f ≡ []
    → f1 ≡ f ++ told a whole.PoolMode → f2 ≡ f1 ++ told b whole.AuthType
    → f3 ≡ f2 ++ told c whole.ListenAddr → f4 ≡ f3 ++ told d whole.Links
    → a ≡ a' → b ≡ b' → c ≡ c' → d ≡ d'
    → f4 ≡ told a' whole.PoolMode ++ told b' whole.AuthType ++ told c' whole.ListenAddr
    ++ told d' whole.Links
told_all f f1 f2 f3 f4 a b c d a' b' c' d' e e1 e2 e3 e4 ea eb ec ed =
    let first : f1 ≡ told a whole.PoolMode = e1 ∙ ap (λ xs. xs ++ told a whole.PoolMode) e in
    cc

-- ---- no faults

-- what is given where nothing is wrong with the whole is settings
whole_right : (g : Given) → [] ≡ whole_faults [] g
    → (node : NodeSettings) × (settings_given g ≡ Ok node)
whole_right g none = by g.keys.pool_mode g.keys.auth_type g.keys.listen_addr
    (leb (pool_total (node_given g [])) 65535) refl refl refl refl none
  where
    by : (mode : Option PoolMode) (auth : Option AuthType) (addr : Option (List ℕ)) (fits : Bool)
        → g.keys.pool_mode ≡ mode → g.keys.auth_type ≡ auth → g.keys.listen_addr ≡ addr
        → leb (pool_total (node_given g [])) 65535 ≡ fits
        → [] ≡ told (is_missing [] (codes "pool_mode") mode) whole.PoolMode
        ++ told (is_missing [] (codes "auth_type") auth) whole.AuthType
        ++ told (is_missing [] (codes "listen_addr") addr) whole.ListenAddr
        ++ told (not fits) whole.Links
        → (node : NodeSettings) × (settings_given g ≡ Ok node)
    by (Some m) (Some a) (Some l) true mode auth addr fits e =
        (node_given g l, settings_given-within g m a l mode auth addr fits)
    by (Some m) (Some a) (Some l) false mode auth addr fits e = cc
    by (Some m) (Some a) None fits mode auth addr _ e = cc
    by (Some m) None addr fits mode auth _ _ e = cc
    by None auth addr fits mode _ _ _ e = cc

-- a text without faults says settings
pub no_faults : (text : List ℕ) (ls : List LineFault) (faults : List WholeFault)
    → AreFaults [] (lines text) ls faults → ls ≡ [] → faults ≡ []
    → (node : NodeSettings) × (settings_of text ≡ Ok node)
no_faults text ls faults are none nothing_whole =
    let ends : Ends [] (lines text) [] =
    subst (λ (f : List WholeFault). AreFaults [] (lines text) [] f) nothing_whole
    (subst (λ (l : List LineFault). AreFaults [] (lines text) l faults) none are) in
    let right = whole_right ends.given ends.whole_is in
    (right.0, settings_of-result text ends.given (Ok right.0) (Ok right.0) ends.gave refl right.1)
