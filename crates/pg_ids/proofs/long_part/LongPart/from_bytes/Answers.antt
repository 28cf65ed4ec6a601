use Rattle.std.proofs.Common.{rules, ◌∙◌, sym}
use Rattle.pg_ids.proofs.KeyLemmas.{halves_again, only_halves}
use Rattle.pg_ids.proofs.long_part.LongPart.from_bytes.Goals as goal

pub returns-clause-found : goal.returns-clause-found
returns-clause-found c =
    rw c.new.ensures (halves_again c.args.bytes c.read_u64-boot.result c.read_u64-serial.result (search rules) (search rules) (search rules) (search rules))

pub returns-clause-only : goal.returns-clause-only
returns-clause-only c =
    λ part is e. only_halves c.args.bytes c.read_u64-boot.result c.read_u64-serial.result part (search rules) (search rules) is e ∙ sym c.new.ensures
