use Rattle.std.proofs.Common.{◌≡◌, ◌<◌, ◌≤◌, length, map, subst, sym, ap, ◌∙◌, arith, rules}
use Rattle.std.specs.Vec.{vec_len}
use Rattle.world_script.specs.Peers.{settings_among}
use Rattle.world_script.specs.Script.{IsScript, statement_of, statements}
use Rattle.world_script.proofs.LineLemmas.{said_at, said_length, read_more, read_all, one_script, script_without_fault, returns_refused}
use Rattle.world_script.proofs.script.read_script.Goals as goal

pub loop-place-preserved : goal.loop-place-preserved
loop-place-preserved c =
    let lines = c.in_ok-lines.lines.items in
    let len : vec_len c.in_ok-lines.lines ≡ length lines = search rules in
    let within : c.loop-place.place < length lines = omega arith in
    let said = c.in_default.ensures.said in
    record {
      few = c.in_default.ensures.few;
      read = read_more c.args.text.now c.loop-place.place c.loop-place.draft.nodes.items c.loop-place.draft.events.items c.loop-place.invariant.read
          (statement_of c.trimmed.result.now) c.take_line.new.self.nodes.items c.take_line.new.self.events.items
          (omega (arith, said_length c.args.text.now lines c.in_ok-lines.ensures))
          (said_at c.args.text.now lines c.loop-place.place c.index.result.now c.trimmed.result.now c.in_ok-lines.ensures within c.index.ensures c.trimmed.ensures)
          said.0 said.1 said.2;
    }

pub returns-in-Err : goal.returns-in-Err
returns-in-Err c =
    let lines = c.in_ok-lines.lines.items in
    let len : vec_len c.in_ok-lines.lines ≡ length lines = search rules in
    let within : c.loop-place.place < length lines = omega arith in
    let here = said_at c.args.text.now lines c.loop-place.place c.index.result.now c.trimmed.result.now c.in_ok-lines.ensures within c.index.ensures c.trimmed.ensures in
    let right = returns_refused c.args.text.now c.loop-place.place c.loop-place.draft c.take_line.new.self (statement_of c.trimmed.result.now) c.in-Err.fault
    c.loop-place.invariant.read here c.in-Err.ensures.said in
    rw c.in_line.ensures
    record { script = right.script; only_script = right.only_script; fault = right.fault; only_fault = right.only_fault }

pub returns : goal.returns
returns c =
    let text = c.args.text.now in
    let lines = c.in_ok-lines.lines.items in
    let nodes = c.loop-place.draft.nodes.items in
    let events = c.loop-place.draft.events.items in
    let len : vec_len c.in_ok-lines.lines ≡ length lines = search rules in
    let past : length (statements text) ≤ c.loop-place.place = omega (arith, said_length text lines c.in_ok-lines.ensures) in
    let settings : c.in_ok-settings_of.field-0.items ≡ map (settings_among nodes) nodes = c.in_ok-settings_of.ensures ∙ ap (λ ns. map (settings_among ns) ns) c.deref.ensures.value in
    let is : IsScript text c.in_ok-settings_of.field-0.items events =
    subst (λ all. IsScript text all events) (sym settings) (read_all text c.loop-place.place nodes events c.loop-place.invariant.read past) in
    record {
      script = is;
      only_script = λ others other_events other. one_script text c.in_ok-settings_of.field-0.items others events other_events is other;
      fault = tt;
      only_fault = λ line fault. script_without_fault text c.in_ok-settings_of.field-0.items events line is fault;
    }
