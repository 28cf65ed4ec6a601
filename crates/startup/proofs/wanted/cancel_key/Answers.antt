use Rattle.std.proofs.Common.{◌∙◌, ap, arith}
use Rattle.pg_ids.specs.AnyKey.{bytes_of}
use Rattle.startup.proofs.WantedLemmas.{cancel_of}
use Rattle.startup.proofs.wanted.cancel_key.Goals as goal

pub returns-then-so_far-eq15 : goal.returns-then-so_far-eq15
returns-then-so_far-eq15 c =
    cancel_of c.args.so_far.now _ c.args.last
    (record { below = λ i. omega (arith, c.type_inv.so_far i) }) (omega arith) c.requires
    (ap bytes_of c.from_short_bytes.ensures.found ∙ c.put_key.ensures)

pub returns-else-so_far-eq15 : goal.returns-else-so_far-eq15
returns-else-so_far-eq15 c =
    cancel_of c.args.so_far.now _ c.args.last
    (record { below = λ i. omega (arith, c.type_inv.so_far i) }) (omega arith) c.requires
    (ap bytes_of c.from_long_bytes.ensures.found ∙ c.put_key-else-so_far-eq15.ensures)
