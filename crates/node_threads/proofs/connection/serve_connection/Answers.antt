use Rattle.std.specs.Arc.{arc_value}
use Rattle.std.proofs.Common.{◌≡◌, ◌∙◌, [], inl, inr, rules, ℕ, List, slice_get, ap, sym, subst}
use Rattle.startup.specs.Replies.{Report}
use Rattle.ini_config.specs.Node.{NodeSettings}
use Rattle.locked_node.specs.Lock.{CallerView}
use Rattle.peer_forward.specs.Calls.{Effect}
use Rattle.peer_forward.specs.declared.arrival.Asks.TheVariants as asks
use Rattle.session_io.specs.StreamCalls.{SomeCalls}
use Rattle.session_io.specs.declared.login.first_packets.Opened.TheVariants.{Session}
use Rattle.node_threads.specs.ConsoleSession.{ServesConsole}
use Rattle.node_threads.proofs.ConnectionLemmas.{serves_by}
use Rattle.node_threads.proofs.connection.serve_connection.Goals as goal

-- a session of the console, by the limit of its cutter, which is empty
console_of : {C : Type 0} (limit at : ℕ) (wrote gave : Effect C) (a b : C) (reports : List Report)
    (settings : NodeSettings) (caller : CallerView) (kept left : List ℕ) → at ≡ limit → kept ≡ []
    → SomeCalls wrote gave a b (λ calls. ServesConsole at reports settings caller kept calls left)
    → SomeCalls wrote gave a b
    (λ calls. ServesConsole limit reports settings caller [] calls left)
console_of limit at wrote gave a b reports settings caller kept left is none serves =
    subst (λ (xs : List ℕ). SomeCalls wrote gave a b
    (λ calls. ServesConsole limit reports settings caller xs calls left)) none
    (subst (λ (n : ℕ). SomeCalls wrote gave a b
    (λ calls. ServesConsole n reports settings caller kept calls left)) is serves)

pub returns-then-admits-clause-served : goal.returns-then-admits-clause-served
returns-then-admits-clause-served g c settings is =
    let calls = console_of _ _ _ _ _ _ _ settings _ _ _
    (ap (λ p. p.limit) c.with_limit-cutter.ensures) (ap (λ p. p.bytes) c.with_limit-cutter.ensures)
    (c.serve_console.ensures.served settings is) in (
      Session c.in-Session.database c.in-Session.kind,
      c.open.new.client,
      c.in-Session.ensures.opens,
      (
        asks.Console,
        search rules,
        inl (
          c.admits.new.self,
          c.if-admits.ensures.asked,
          (
            c.serve_console.new.cutter.bytes,
            (calls.0, calls.1, inl (search rules, c.serve_console.ensures.same, calls.2)),
          ),
        ),
      ),
    )
