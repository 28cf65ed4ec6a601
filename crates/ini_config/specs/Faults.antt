-- All faults of a settings text (own): each line at fault, in order, and then what is missing or too
-- much in what is left. `AreFaults`: each is the first fault of the lines that are left once those
-- before it were taken out, until nothing more is refused in a line.
use Rattle.std.specs.Prelude.{ℕ, ◌≡◌, ◌+◌, Bool, true, false, not, ◌&&◌, nat_le, if◌then◌else◌, List, [], ◌∷◌, ◌++◌, length, map, drop, take_while, codes, Option, Some, None, is_some, is_none, Result, Ok, Err}
use Rattle.std.specs.List.{list_any}
use Rattle.std.specs.Str.{bytes_eq}
use Rattle.ini_config.specs.declared.fault.IniCode.{IniCode}
use Rattle.ini_config.specs.declared.faults.WholeFault.{WholeFault}
use Rattle.ini_config.specs.declared.faults.WholeFault.TheVariants.{PoolMode, AuthType, ListenAddr, Links}
use Rattle.ini_config.specs.declared.section.Section.{Section}
use Rattle.ini_config.specs.declared.section.Section.TheVariants.{Pgbouncer, Databases, Peers}
use Rattle.ini_config.specs.Node.{pool_total}
use Rattle.ini_config.specs.Settings.{Given, nothing, bracketed, section_of, line_given, lines_given, node_given}
use Rattle.ini_config.specs.Text.{trimmed, is_empty, cut_at_equals}

-- ---- what a fault is of

-- a line without a name, a section, a key of [pgbouncer], or an entry of [databases] or [peers]
pub data Subject : Type 0 where
  Line : Subject
  SectionNamed : List ℕ → Subject
  KeyNamed : List ℕ → Subject
  EntryNamed : List ℕ → Subject

-- what a key is in its section
abbrev pub key_subject : Result Section IniCode → List ℕ → Subject
key_subject (Err code) key = Line
key_subject (Ok Pgbouncer) key = KeyNamed key
key_subject (Ok Databases) key = EntryNamed key
key_subject (Ok Peers) key = EntryNamed key

-- what stands before the first `=`, where that isn't empty
abbrev pub named_subject : Given → List ℕ → Subject
named_subject g key = if is_empty key then Line else key_subject (section_of g) key

abbrev pub cut_subject : Given → Result (List ℕ × List ℕ) IniCode → Subject
cut_subject g (Err code) = Line
cut_subject g (Ok cut) = named_subject g (trimmed cut.0)

abbrev pub form_subject : Given → Option (List ℕ) → List ℕ → Subject
form_subject g (Some name) line = SectionNamed name
form_subject g None line = cut_subject g (cut_at_equals line)

-- what a line without the blanks at its ends names, behind lines that gave this
unfoldable pub subject_of : Given → List ℕ → Subject
subject_of g line = form_subject g (bracketed line) line

-- ---- lines at fault

-- a fault in a line, by its number from 1
pub record LineFault : Type 0 where
  pub line : ℕ
  pub code : IniCode
  pub subject : Subject

-- whether a line has the form of a section's
abbrev pub is_section_line : List ℕ → Bool
is_section_line line = is_some (bracketed (trimmed line))

-- the lines that a section line is followed by, up to the next section line
abbrev pub section_lines : List (List ℕ) → List (List ℕ)
section_lines after = take_while (λ line. not (is_section_line line)) after

-- the lines that go with a section line that is refused; with any other line none does
abbrev pub gone_with : Bool → List (List ℕ) → List (List ℕ)
gone_with true after = section_lines after
gone_with false after = []

-- the lines behind it, of which those are emptied
abbrev pub left_behind : Bool → List (List ℕ) → List (List ℕ)
left_behind true after = map (λ line. []) (section_lines after)
    ++ drop (length (section_lines after)) after
left_behind false after = after

-- the first fault of the lines
pub record IsFirst (lines : List (List ℕ)) (fault : LineFault) : Type 0 where
  pub before : List (List ℕ)
  pub line : List ℕ
  pub after : List (List ℕ)
  pub place : lines ≡ before ++ line ∷ after
  pub number : fault.line ≡ length before + 1
  pub given : Given
  pub gave : lines_given nothing 1 before ≡ Ok given
  pub refused : line_given given (trimmed line) ≡ Err fault.code
  pub subject : fault.subject ≡ subject_of given (trimmed line)

-- the lines that are taken out with it
abbrev pub gone : {lines : List (List ℕ)} {fault : LineFault} → IsFirst lines fault
    → List (List ℕ)
gone first = first.line ∷ gone_with (is_section_line first.line) first.after

-- the lines that are left, with an empty one in place of each that was taken out
abbrev pub left : {lines : List (List ℕ)} {fault : LineFault} → IsFirst lines fault
    → List (List ℕ)
left first = first.before ++ [] ∷ left_behind (is_section_line first.line) first.after

-- ---- the text as a whole

-- whether this is what stands before the first `=` of a line
abbrev pub cut_names : List ℕ → Result (List ℕ × List ℕ) IniCode → Bool
cut_names key (Err code) = false
cut_names key (Ok cut) = bytes_eq (trimmed cut.0) key

abbrev pub names : List ℕ → List ℕ → Bool
names key line = cut_names key (cut_at_equals line)

-- a fault that is there or isn't
abbrev pub told : Bool → WholeFault → List WholeFault
told true fault = fault ∷ []
told false fault = []

-- A key that has to be given isn't, and no line that was taken out names it.
abbrev pub is_missing : {A : Type 0} → List (List ℕ) → List ℕ → Option A → Bool
is_missing taken key value = is_none value && not (list_any (names key) taken)

-- what is wrong with the text as a whole, where these lines were taken out and the others gave this
abbrev pub whole_faults : List (List ℕ) → Given → List WholeFault
whole_faults taken g =
    told (is_missing taken (codes "pool_mode") g.keys.pool_mode) PoolMode
    ++ told (is_missing taken (codes "auth_type") g.keys.auth_type) AuthType
    ++ told (is_missing taken (codes "listen_addr") g.keys.listen_addr) ListenAddr
    ++ told (not (nat_le (pool_total (node_given g [])) 65535)) Links

-- no line is refused, and this is wrong with the whole
pub record Ends (taken lines : List (List ℕ)) (whole : List WholeFault) : Type 0 where
  pub given : Given
  pub gave : lines_given nothing 1 lines ≡ Ok given
  pub whole_is : whole ≡ whole_faults taken given

-- ---- all faults

-- these are the faults of the lines, from which those were taken out before
abbrev pub AreFaults : List (List ℕ) → List (List ℕ) → List LineFault → List WholeFault → Type 0
AreFaults taken lines [] whole = Ends taken lines whole
AreFaults taken lines (fault ∷ more) whole = (first : IsFirst lines fault)
    × AreFaults (taken ++ gone first) (left first) more whole
