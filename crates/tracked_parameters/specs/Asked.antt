-- What a client asks for in its StartupMessage (PostgreSQL manual, "Message Formats": StartupMessage,
-- and postgres.c: `options` are applied first, then the parameters by name, each in order).
use Rattle.std.specs.Prelude.{ℕ, ◌||◌, Bool, false, List, [], codes, bytes_eq, nat_eq, fold, if◌then◌else◌, Option}
use Rattle.std.specs.List.{starts_with}
use Rattle.startup.specs.Replies.{Report}
use Rattle.tracked_parameters.specs.Values.{noted, no_values}
use Rattle.tracked_parameters.specs.Options.{arguments, settings_in}

-- a name in a StartupMessage that is no parameter's
abbrev pub is_special : List ℕ → Bool
is_special name =
    (((bytes_eq name (codes "user") || bytes_eq name (codes "database"))
    || bytes_eq name (codes "options")) || bytes_eq name (codes "replication"))
    || starts_with nat_eq name (codes "_pq_.")

-- the values after settings, one after another
abbrev pub after_all : List (List ℕ) → List (Option (List ℕ)) → List Report → List (Option (List ℕ))
after_all names values settings = fold (λ old setting. noted names setting old) values settings

-- the values after a parameter that is given by name
abbrev pub after_named : List (List ℕ) → List (Option (List ℕ)) → Report → List (Option (List ℕ))
after_named names values sent = if is_special sent.name then values else noted names sent values

-- the `options` that are given, the last ones, and none where none are
abbrev pub options_after : List ℕ → Report → List ℕ
options_after options sent = if bytes_eq sent.name (codes "options") then sent.value else options

abbrev pub options_of : List Report → List ℕ
options_of sent = fold options_after [] sent

-- the values that `options` ask for
abbrev pub asked_in_options : List (List ℕ) → List ℕ → List (Option (List ℕ))
asked_in_options names options =
    after_all names (no_values names) (settings_in false (arguments options))

-- the values that a StartupMessage with these names and values asks for
abbrev pub asked_for : List (List ℕ) → List Report → List (Option (List ℕ))
asked_for names sent = fold (after_named names) (asked_in_options names (options_of sent)) sent
