-- The lines of a text, as a loop reads them.
use Rattle.std.proofs.Common.{◌≡◌, ◌⊎◌, inl, inr, ℕ, suc, ◌+◌, ◌≤◌, ◌<◌, add-one, true, false, cond, eqb, List, [], ◌∷◌, length, Result, Ok, Err, Some, None, Bor, refl, sym, ap, ◌∙◌, arith}
use Rattle.std.specs.Iterator.{AlwaysYields}
use Rattle.std.specs.List.{slice_split, onto_first}
use Rattle.std.specs.Str.Iter.{lines_steps, lines_rest}
use Rattle.std.specs.Str.Lines.{lines, lines_of_parts}
use Rattle.std.specs.declared.str.Lines.{Lines}
use Rattle.std.proofs.lemmas.Bool.{ne_eqb}
use Rattle.std.proofs.lemmas.Iterator.{YieldsList}
use Rattle.std.proofs.lemmas.Iterator.Splits.{YieldsList-from_lines}
use Rattle.ini_config.specs.declared.fault.IniCode.{IniCode}
use Rattle.ini_config.specs.declared.fault.IniError.{IniError}
use Rattle.ini_config.specs.Codes.{fault_at, IsMemory}
use Rattle.ini_config.specs.Text.{trimmed}
use Rattle.std.specs.Prelude.{MatchResult}
use Rattle.ini_config.specs.Node.{NodeSettings}
use Rattle.ini_config.specs.Reads.{Gives}
use Rattle.ini_config.specs.Settings.{Given, nothing, line_given, lines_given, in_line, settings_given, settings_of}

-- ---- how many lines there are

before_parts : (parts : List (List ℕ)) (n : ℕ) → length (lines_of_parts parts) ≤ n → length (lines_of_parts ([] ∷ parts)) ≤ suc n
before_parts [] n h = omega arith
before_parts (y ∷ more) n h = omega arith

onto_parts : (b : ℕ) (parts : List (List ℕ)) (n : ℕ) → length (lines_of_parts parts) ≤ n → length (lines_of_parts (onto_first b parts)) ≤ suc n
onto_parts b [] n h = omega arith
onto_parts b (x ∷ []) n h = rw (ne_eqb (suc (length x)) 0 (λ e. omega arith)) (omega arith)
onto_parts b (x ∷ y ∷ more) n h = omega arith

-- a text has no more lines than bytes
pub lines-le : (bs : List ℕ) → length (lines bs) ≤ length bs
lines-le [] = omega arith
lines-le (b ∷ bs) =
    elim (eqb b 10) as (λ t. length (lines_of_parts (cond t ([] ∷ slice_split (λ c. eqb c 10) bs) (onto_first b (slice_split (λ c. eqb c 10) bs)))) ≤ suc (length bs)) [
      | true ↦ before_parts (slice_split (λ c. eqb c 10) bs) (length bs) (lines-le bs)
      | false ↦ onto_parts b (slice_split (λ c. eqb c 10) bs) (length bs) (lines-le bs)
    ]

-- ---- the loop

-- what the lines so far gave, and the lines that are left, of which the last read has this number
pub record LinesLeft (text : List ℕ) (g : Given) (number : ℕ) (it : Lines) : Type 0 where
  pub left : List (List ℕ)
  pub yields : YieldsList lines_steps (λ x. x.now) it left
  pub so_far : lines_given nothing 1 (lines text) ≡ lines_given g (suc number) left
  pub counted : number + length left ≤ length text

pub all_left : (text : List ℕ) (it : Lines) → lines_rest it ≡ text → LinesLeft text nothing 0 it
all_left text it e = record { left = lines text; yields = YieldsList-from_lines text e; so_far = refl; counted = omega (arith, lines-le text) }

-- one more line
pub record NextLine (text : List ℕ) (g : Given) (number : ℕ) (line : List ℕ) (after : Lines) : Type 0 where
  pub fits : number < length text
  pub goes : (h : Given) → line_given g (trimmed line) ≡ Ok h → LinesLeft text h (number + 1) after
  pub stops : (c : IniCode) → line_given g (trimmed line) ≡ Err c → lines_given nothing 1 (lines text) ≡ Err (fault_at (number + 1) c)

pub next_line : (text : List ℕ) (g : Given) (number : ℕ) (it after : Lines) (x : Bor (List ℕ)) → LinesLeft text g number it → lines_steps it (Some x) after → NextLine text g number x.now after
unfolding lines_given
next_line text g number it after x left step = by left.left left.yields.runs left.so_far left.counted
  where
    by : (ls : List (List ℕ)) → AlwaysYields lines_steps (λ (y : Bor (List ℕ)). y.now) it ls → lines_given nothing 1 (lines text) ≡ lines_given g (suc number) ls → number + length ls ≤ length text → NextLine text g number x.now after
    by [] none so_far counted = absurd (none x after step)
    by (l ∷ ls) yields so_far counted =
        let more = yields.1 x after step in
        record {
          fits = omega arith;
          goes = λ h given. record { left = ls; yields = record { runs = more.1 }; so_far = so_far ∙ rw (add-one number, ← more.0, given) refl; counted = omega arith };
          stops = λ c refused. so_far ∙ rw (add-one number, ← more.0, refused) refl;
        }

-- no line is left
pub no_line : (text : List ℕ) (g : Given) (number : ℕ) (it after : Lines) → LinesLeft text g number it → lines_steps it None after → lines_given nothing 1 (lines text) ≡ Ok g
unfolding lines_given
no_line text g number it after left step = by left.left left.yields.runs left.so_far
  where
    by : (ls : List (List ℕ)) → AlwaysYields lines_steps (λ (y : Bor (List ℕ)). y.now) it ls → lines_given nothing 1 (lines text) ≡ lines_given g (suc number) ls → lines_given nothing 1 (lines text) ≡ Ok g
    by [] none so_far = so_far
    by (l ∷ ls) yields so_far = absurd (yields.0 after step)

-- ---- a fault with its line

pub in_line-Ok : {X Y : Type 0} (view : X → Y) (n : ℕ) (r : Result X IniCode) (said : Result Y IniCode) (x : X) → in_line n r ≡ Ok x → Gives view r said → said ≡ Ok (view x)
in_line-Ok view n (Ok y) said x e h = let same : y ≡ x = cc in h ∙ ap (λ z. Ok (view z)) same
in_line-Ok view n (Err c) said x e h = cc

pub in_line-Err : {X Y : Type 0} (view : X → Y) (n : ℕ) (r : Result X IniCode) (said : Result Y IniCode) (fault : IniError) → in_line n r ≡ Err fault → Gives view r said
    → IsMemory fault ⊎ ((c : IniCode) × (said ≡ Err c) × (fault_at n c ≡ fault))
in_line-Err view n (Ok y) said fault e h = cc
in_line-Err view n (Err c) said fault e (inl m) = let same : fault_at n c ≡ fault = cc in inl (sym same ∙ ap (fault_at n) m)
in_line-Err view n (Err c) said fault e (inr h) = let same : fault_at n c ≡ fault = cc in inr (c, h, same)

-- ---- the whole text

pub settings_of-stops : (text : List ℕ) (fault : IniError) → lines_given nothing 1 (lines text) ≡ Err fault → settings_of text ≡ Err fault
unfolding settings_of
settings_of-stops text fault e = rw e refl

settings_of-ends : (text : List ℕ) (g : Given) → lines_given nothing 1 (lines text) ≡ Ok g → settings_of text ≡ in_line 0 (settings_given g)
unfolding settings_of
settings_of-ends text g e = rw e refl

pub settings_of-result : (text : List ℕ) (g : Given) (r : Result NodeSettings IniCode) (result : Result NodeSettings IniError) → lines_given nothing 1 (lines text) ≡ Ok g → result ≡ in_line 0 r → Gives (λ s. s) r (settings_given g)
    → MatchResult result (λ s. settings_of text ≡ Ok s) (λ fault. IsMemory fault ⊎ (settings_of text ≡ Err fault))
settings_of-result text g r (Ok s) e is h = settings_of-ends text g e ∙ ap (in_line 0) (in_line-Ok (λ t. t) 0 r (settings_given g) s (sym is) h)
settings_of-result text g r (Err fault) e is h =
    elim (in_line-Err (λ t. t) 0 r (settings_given g) fault (sym is) h) [
      | inl m ↦ inl m
      | inr k ↦ inr (settings_of-ends text g e ∙ ap (in_line 0) k.1 ∙ ap Err k.2)
    ]
