-- Options with their values, and the other arguments (own).
use Rattle.std.specs.Prelude.{ℕ, ◌≡◌, ◌==◌, Bool, false, not, ◌&&◌, ◌||◌, nat_le, if◌then◌else◌, List, [], ◌∷◌, ◌++◌, length, map, filter, slice_index, Option, Some, None, codes}
use Rattle.std.specs.Borrow.{Bor}
use Rattle.std.specs.List.{list_any, before_first, after_first}
use Rattle.std.specs.Option.{option_map}
use Rattle.std.specs.Str.{bytes_eq}
use Rattle.command_line.specs.Options.{option_named, has_value, same_option}
use Rattle.command_line.specs.declared.command_name.CommandName.{CommandName}
use Rattle.command_line.specs.declared.option_name.OptionName.{OptionName}
use Rattle.command_line.specs.declared.arguments.Shape.{Shape as ShapeRead}
use Rattle.command_line.specs.declared.arguments.Shape.TheVariants as read
use Rattle.command_line.specs.declared.arguments.GivenOption.{GivenOption}
use Rattle.command_line.specs.declared.arguments.Given.{Given as GivenRead}

-- an argument's bytes
abbrev pub Text : Type 0
Text = List ℕ

-- whether an argument is no option: it doesn't begin with a hyphen, or is a hyphen alone
abbrev pub is_plain : Text → Bool
is_plain argument = nat_le (length argument) 1 || not (slice_index argument 0 == 45)

-- `--`, behind which every argument is plain
abbrev pub is_end : Text → Bool
is_end argument = bytes_eq argument (codes "--")

-- what stands before the first byte of this value, and behind it, where there is one
unfoldable pub cut_at : ℕ → Text → Text × Option Text
cut_at mark text = (
  before_first (λ byte. byte == mark) text,
  if list_any (λ byte. byte == mark) text
      then Some (after_first (λ byte. byte == mark) text) else None,
)

-- What one argument is: a plain one, the end of the options, an option that has no value, an option
-- whose value is the next argument, an option with its value behind `=`, or nothing that there is
pub data Shape : Type 0 where
  Plain : Shape
  End : Shape
  Flag : OptionName → Shape
  Alone : OptionName → Shape
  Whole : OptionName → Text → Shape
  Unknown : Shape

-- an option of this name, with what stands behind `=` (61), if anything does
abbrev pub option_shape : Option OptionName → Option Text → Shape
option_shape None value = Unknown
option_shape (Some name) None = if has_value name then Alone name else Flag name
option_shape (Some name) (Some value) = if has_value name then Whole name value else Unknown

-- what an argument of a command is
unfoldable pub shape_of : CommandName → Text → Shape
shape_of command argument =
    if is_plain argument then Plain
    else (if is_end argument then End
    else option_shape (option_named command (cut_at 61 argument).0) (cut_at 61 argument).1)

-- the options with their values, empty where an option has none, and the plain arguments, each in
-- their order
pub record Given : Type 0 where
  pub options : List (OptionName × Text)
  pub plain : List Text

abbrev pub plain_alone : List Text → Given
plain_alone arguments = record { options = []; plain = arguments }

-- one option more, before the others
abbrev pub with_value : OptionName → Text → Given → Given
with_value name value given = record given { options = (name, value) ∷ given.options }

abbrev pub with_plain : Text → Given → Given
with_plain argument given = record given { plain = argument ∷ given.plain }

-- what the first argument gives, where it is of this shape; what follows gives the rest
abbrev pub given_by : Shape → Text → List Text → Option Given → (OptionName → Option Given)
    → Option Given
given_by Plain argument rest after awaiting = option_map (with_plain argument) after
given_by End argument rest after awaiting = Some (plain_alone rest)
given_by (Flag name) argument rest after awaiting = option_map (with_value name []) after
given_by (Alone name) argument rest after awaiting = awaiting name
given_by (Whole name value) argument rest after awaiting = option_map (with_value name value) after
given_by Unknown argument rest after awaiting = None

-- what a command's arguments give, where an option may wait for its value; none where they have no
-- such form
unfoldable pub given_behind : CommandName → Option OptionName → List Text → Option Given
given_behind command None [] = Some (plain_alone [])
given_behind command (Some name) [] = None
given_behind command None (argument ∷ rest) =
    given_by (shape_of command argument) argument rest (given_behind command None rest)
    (λ name. given_behind command (Some name) rest)
given_behind command (Some name) (value ∷ rest) =
    if is_plain value
    then option_map (with_value name value) (given_behind command None rest) else None

-- what a command's arguments give: options in any order, as `--name`, `--name VALUE` or
-- `--name=VALUE`, and plain arguments among them
abbrev pub given_by_all : CommandName → List Text → Option Given
given_by_all command arguments = given_behind command None arguments

-- the values of an option, in their order
abbrev pub values_of : OptionName → Given → List Text
values_of name given =
    map (λ option. option.1) (filter (λ option. same_option name option.0) given.options)

-- whether help is asked for: `-h` or `--help` stands before any `--`
abbrev pub is_help : Text → Bool
is_help argument = bytes_eq argument (codes "-h") || bytes_eq argument (codes "--help")

unfoldable pub asks_help : List Text → Bool
asks_help [] = false
asks_help (argument ∷ rest) = not (is_end argument) && (is_help argument || asks_help rest)

-- ---- what the program's own types say

abbrev pub shape_in : ShapeRead → Shape
shape_in read.Plain = Plain
shape_in read.End = End
shape_in (read.Flag name) = Flag name
shape_in (read.Alone name) = Alone name
shape_in (read.Whole name value) = Whole name value.now
shape_in read.Unknown = Unknown

abbrev pub option_in : GivenOption → OptionName × Text
option_in option = (option.name, option.value.now)

abbrev pub given_in : GivenRead → Given
given_in given = record {
  options = map option_in given.options.items;
  plain = map (λ argument. argument.now) given.plain.items;
}

-- one value alone
abbrev pub value_alone : OptionName → Text → Given
value_alone name value = with_value name value (plain_alone [])

-- a cut that the program made
abbrev pub cut_in : Bor Text × Option (Bor Text) → Text × Option Text
cut_in cut = (cut.0.now, option_map (λ behind. behind.now) cut.1)

-- what some arguments give, and then what the others give
abbrev pub joined : Given → Given → Given
joined some others = record {
  options = some.options ++ others.options;
  plain = some.plain ++ others.plain;
}

-- Arguments of a command that say this give one thing first, by which what was given before grew,
-- and then what the others give.
pub record LeadsOn (command : CommandName) (old new : Given) (said : Option Given)
    (others : List Text) : Type 0 where
  pub one : Given
  pub grown : new ≡ joined old one
  pub gives : said ≡ option_map (joined one) (given_by_all command others)
