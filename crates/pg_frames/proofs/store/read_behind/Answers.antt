use Rattle.std.proofs.Common.{Ok, refl, arith}
use Rattle.pg_frames.proofs.StoreLemmas.{take_behind}
use Rattle.pg_frames.proofs.store.read_behind.Goals as goal

pub returns-in-Ok-clause-read : goal.returns-in-Ok-clause-read
returns-in-Ok-clause-read g c =
    let within = c.in-Ok.ensures.bound.0 in (
      c.read_once.new.buffer,
      Ok c.in-Ok.count,
      omega (arith, c.requires, c.read_once.auto.buffer),
      within,
      refl,
      c.in-Ok.ensures.call,
      take_behind c.args.memory.now c.read_once.new.buffer _ c.args.at c.in-Ok.count
          (omega (arith, c.requires)) within,
    )
