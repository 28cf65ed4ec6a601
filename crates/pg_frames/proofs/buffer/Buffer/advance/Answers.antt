use Rattle.std.proofs.Common.{arith}
use Rattle.std.proofs.Math.Seq.{take-add}
use Rattle.pg_frames.proofs.StoreLemmas.{last_of}
use Rattle.pg_frames.proofs.buffer.Buffer.advance.Goals as goal

pub returns-clause-kept : goal.returns-clause-kept
returns-clause-kept c = take-add c.args.self.now.taken c.args.count c.args.self.now.store.items

pub returns-clause-taken : goal.returns-clause-taken
returns-clause-taken c =
    last_of c.args.self.now.store.items c.args.self.now.taken c.args.count (omega (arith, c.requires))
