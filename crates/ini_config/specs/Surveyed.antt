-- What a reader that goes on behind faults has read so far (internal).
use Rattle.std.specs.Prelude.{ℕ, Bool, true, false, not, ◌&&◌, if◌then◌else◌, List, [], ◌∷◌, ◌++◌, map, Result, Ok, Err}
use Rattle.ini_config.specs.declared.fault.IniCode.{IniCode}
use Rattle.ini_config.specs.declared.faults.LineFault.{LineFault as LineFaultRead}
use Rattle.ini_config.specs.declared.faults.Subject.{Subject as SubjectRead}
use Rattle.ini_config.specs.declared.faults.Subject.TheVariants as read
use Rattle.ini_config.specs.declared.faults.Survey.{Survey}
use Rattle.ini_config.specs.Faults.{Subject, Line, SectionNamed, KeyNamed, EntryNamed, LineFault, subject_of, is_section_line}
use Rattle.ini_config.specs.Settings.{Given, nothing, line_given}
use Rattle.ini_config.specs.Text.{trimmed}
use Rattle.ini_config.specs.View.{given_seen}

abbrev pub subject_seen : SubjectRead → Subject
subject_seen read.Line = Line
subject_seen (read.Section name) = SectionNamed name.now
subject_seen (read.Key name) = KeyNamed name.now
subject_seen (read.Entry name) = EntryNamed name.now

abbrev pub line_fault_seen : LineFaultRead → LineFault
line_fault_seen fault = record {
  line = fault.line;
  code = fault.code;
  subject = subject_seen fault.subject;
}

abbrev pub line_faults_seen : List LineFaultRead → List LineFault
line_faults_seen faults = map line_fault_seen faults

-- what the lines that are left gave, the lines that were taken out, whether those up to the next
-- section are, and the faults
pub record Surveyed : Type 0 where
  pub given : Given
  pub taken : List (List ℕ)
  pub skips : Bool
  pub faults : List LineFault

abbrev pub nothing_surveyed : Surveyed
nothing_surveyed = record { given = nothing; taken = []; skips = false; faults = [] }

abbrev pub surveyed : Survey → Surveyed
surveyed s = record {
  given = given_seen s.draft;
  taken = map (λ line. line.now) s.taken.items;
  skips = s.skips;
  faults = line_faults_seen s.faults.items;
}

-- a line is taken out with the others up to the next section
abbrev pub survey_gone : Surveyed → List ℕ → Surveyed
survey_gone s line = record s { taken = s.taken ++ line ∷ [] }

-- a line is at fault
abbrev pub survey_fault : Surveyed → ℕ → IniCode → List ℕ → Bool → Surveyed
survey_fault s number code line opens = record s {
  taken = s.taken ++ line ∷ [];
  skips = opens;
  faults = s.faults
      ++ record { line = number; code = code; subject = subject_of s.given (trimmed line) } ∷ [];
}

-- what a line that isn't taken out with others gives
abbrev pub survey_read : Surveyed → ℕ → List ℕ → Result Given IniCode → Surveyed
survey_read s number line (Ok given) = record s { given = given; skips = false }
survey_read s number line (Err code) = survey_fault s number code line (is_section_line line)

-- one more line
unfoldable pub survey_line : Surveyed → ℕ → List ℕ → Surveyed
survey_line s number line = if s.skips && not (is_section_line line)
    then survey_gone s line
    else survey_read s number line (line_given s.given (trimmed line))
