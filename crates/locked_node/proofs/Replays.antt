-- Replays grow at their end, and what each step makes is made by all.
use Rattle.std.proofs.Common.{ℕ, ◌+◌, ◌≤◌, List, [], ◌∷◌, ◌++◌, refl, ap, subst, arith}
use Rattle.std.specs.Prelude.{if◌then◌else◌}
use Rattle.std.proofs.lemmas.List.Sums.{sum_by-cons}
use Rattle.node_core.specs.View.{NodeView}
use Rattle.node_core.specs.declared.exchange.Exchange.{Exchange}
use Rattle.node_core.specs.NodeStep.{NodeStep}
use Rattle.locked_node.specs.Replay.{Replay}
use Rattle.locked_node.specs.declared.call_answer.CallAnswer.{CallAnswer}
use Rattle.locked_node.specs.CallNumbers.{index_of, short, long}
use Rattle.locked_node.specs.Totals.{calls_in, is_of}
use Rattle.locked_node.proofs.Growing.{one, by_kinds}

-- one list of calls after another
pub replay_both : (first : NodeView) (calls : List Exchange) (mid : NodeView) (more : List Exchange) (last : NodeView)
    → Replay first calls mid → Replay mid more last → Replay first (calls ++ more) last
replay_both first [] mid more last replay rest = subst (λ v. Replay v more last) replay rest
replay_both first (c ∷ cs) mid more last replay rest = (replay.0, replay.1, replay_both replay.0 cs mid more last replay.2 rest)

pub replay_parts : (first : NodeView) (calls more : List Exchange) (last : NodeView) → Replay first (calls ++ more) last
    → (mid : NodeView) × Replay first calls mid × Replay mid more last
replay_parts first [] more last replay = (first, refl, replay)
replay_parts first (c ∷ cs) more last replay = let rest = replay_parts replay.0 cs more last replay.2 in (rest.0, (replay.0, replay.1, rest.1), rest.2)

-- one more call
pub replay_more : (first : NodeView) (calls : List Exchange) (last : NodeView) (call : Exchange) (next : NodeView)
    → Replay first calls last → NodeStep last call next → Replay first (calls ++ call ∷ []) next
replay_more first calls last call next replay step = replay_both first calls last (call ∷ []) next replay (next, step, refl)

-- how many of these calls have the answer, with keys of both kinds
abbrev pub answers_in : CallAnswer → List Exchange → ℕ
answers_in answer calls = calls_in (index_of (short answer)) calls + calls_in (index_of (long answer)) calls

-- where each call with an answer raises a number of the node, and no call lowers it, the number
-- grows by at least how many such calls there are
pub replay_counts : (answer : CallAnswer) (number : NodeView → ℕ)
    → ((old : NodeView) (call : Exchange) (new : NodeView) → NodeStep old call new → one answer call + number old ≤ number new)
    → (first : NodeView) (calls : List Exchange) (last : NodeView) → Replay first calls last → answers_in answer calls + number first ≤ number last
replay_counts answer number grows first [] last replay = let e = ap number replay in omega (arith, e)
replay_counts answer number grows first (c ∷ cs) last replay =
    let step = grows first c replay.0 replay.1 in
    let rest = replay_counts answer number grows replay.0 cs last replay.2 in
    let both = by_kinds answer c in
    let shorts = sum_by-cons (λ (x : Exchange). if is_of (index_of (short answer)) x then 1 else 0) c cs in
    let longs = sum_by-cons (λ (x : Exchange). if is_of (index_of (long answer)) x then 1 else 0) c cs in
    omega (arith, step, rest, both, shorts, longs)
