-- Arguments and reports as they are kept (internal).
use Rattle.std.specs.Prelude.{ℕ, List, ◌++◌, map, Vec, Option, unwrap_or}
use Rattle.std.specs.declared.alloc.Global.{Global}
use Rattle.startup.specs.Replies.{Report, parameter_status}
use Rattle.tracked_parameters.specs.Values.{value_of}
use Rattle.tracked_parameters.specs.Options.{marks, arguments_from}
use Rattle.tracked_parameters.specs.declared.options.Splitter.{Splitter}
use Rattle.tracked_parameters.specs.declared.stored.Stored.{Stored}

-- bytes that are kept
abbrev pub items : Vec ℕ Global → List ℕ
items bytes = bytes.items

abbrev pub all_items : List (Vec ℕ Global) → List (List ℕ)
all_items all = map items all

-- the arguments in a text of which these bytes are left
abbrev pub arguments_with : Splitter → List ℕ → List (List ℕ)
arguments_with splitter bytes =
    all_items splitter.whole.items ++ arguments_from splitter.begun.items (marks splitter.escaped bytes)

-- a report that is kept
abbrev pub kept_report : Stored → Report
kept_report stored = record { name = stored.name.items; value = stored.value.items }

-- its message, with the value that is wanted if one is
abbrev pub own_status : List (List ℕ) → List (Option (List ℕ)) → Stored → List ℕ
own_status names wanted stored =
    parameter_status stored.name.items (unwrap_or (value_of names wanted stored.name.items) stored.value.items)

abbrev pub kept_reports : List Stored → List Report
kept_reports all = map kept_report all
