-- What a reader of arguments returns if memory runs out (internal).
use Rattle.std.specs.Prelude.{ℕ, ◌≡◌, ◌⊎◌, List, drop, map, Result, Ok, Err, Option, Some, None}
use Rattle.std.specs.Borrow.{Bor}
use Rattle.command_line.specs.Arguments.{Text, Given, given_by_all, LeadsOn}
use Rattle.command_line.specs.declared.command_name.CommandName.{CommandName}
use Rattle.command_line.specs.declared.wrong.Wrong.{Wrong}
use Rattle.command_line.specs.declared.wrong.Wrong.TheVariants.{Memory}

-- what a reader returned, seen by view, is what is said, and where nothing is said it is refused;
-- or memory ran out
abbrev pub Finds : {X Y : Type 0} → (X → Y) → Result X Wrong → Option Y → Type 0
Finds view (Ok found) said = said ≡ Some (view found)
Finds view (Err wrong) said = (wrong ≡ Memory) ⊎ (said ≡ None)

-- the same where no memory is taken
abbrev pub Reads : {X Y : Type 0} → (X → Y) → Result X Wrong → Option Y → Type 0
Reads view (Ok found) said = said ≡ Some (view found)
Reads view (Err wrong) said = said ≡ None

-- The first of these arguments of a command were taken, by which what was given before grew, and the
-- others give the rest; or it is refused; or memory ran out.
abbrev pub Takes : CommandName → Given → Given → List (Bor Text) → Result ℕ Wrong → Type 0
Takes command old new arguments (Ok count) =
    LeadsOn command old new (given_by_all command (map (λ argument. argument.now) arguments))
    (map (λ argument. argument.now) (drop count arguments))
Takes command old new arguments (Err wrong) = (wrong ≡ Memory)
    ⊎ (given_by_all command (map (λ argument. argument.now) arguments) ≡ None)
