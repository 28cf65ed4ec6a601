use Rattle.pg_ids.proofs.AnyKeyLemmas.{only_short}
use Rattle.pg_ids.proofs.any_key.AnyKey.from_short_bytes.Goals as goal

pub returns-clause-only : goal.returns-clause-only
returns-clause-only c = only_short c.args.bytes c.from_bytes.result c.from_bytes.ensures.only
