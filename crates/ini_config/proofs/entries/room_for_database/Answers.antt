use Rattle.std.proofs.Common.{String, Global, string_bytes, refl}
use Rattle.std.specs.Str.{bytes_eq}
use Rattle.ini_config.specs.Entry.{DatabaseGiven}
use Rattle.ini_config.specs.View.{database_given}
use Rattle.ini_config.proofs.Found.{room-seen}
use Rattle.ini_config.proofs.entries.room_for_database.Goals as goal

pub returns-clause-said : goal.returns-clause-said
returns-clause-said c =
    room-seen (λ (k : String Global). bytes_eq c.args.name.now (string_bytes k)) (λ (d : DatabaseGiven). bytes_eq c.args.name.now d.name) (λ e. database_given (string_bytes e.0) e.1) (λ e. refl)
    c.args.databases.now.entries c.contains_key.result c.len.result c.one_more.result c.contains_key.ensures c.len.ensures.len c.one_more.ensures.said
