use Rattle.std.proofs.Common.{◌∙◌, ap}
use Rattle.pg_frames.specs.Passage.{Passage}
use Rattle.pg_frames.specs.Pending.{Pending}
use Rattle.client_state.specs.Session.{Session}
use Rattle.tracked_links.proofs.SetLemmas.{sets_by, whole_query}
use Rattle.tracked_links.proofs.sets.set_link.Goals as goal

pub returns-clause-sets : goal.returns-clause-sets
returns-clause-sets g c =
    sets_by g.L.WriteCalls.wrote g.L.ReadCalls.gave c.args.link.now.stream c.stay-stayed.new.link.stream c.in_ok-sink.sink c.stay-stayed.new.client
    c.args.link.now.flow.limit c.ask-request.new.self.limit c.args.query.items c.ask-request.result c.args.link.now.flow.bytes c.with_limit-cutter.result.bytes c.stay-stayed.new.cutter.bytes
    c.stay-stayed.result c.end_of.result c.ask-request.new.self c.stay-stayed.new.session c.stay-stayed.new.link.flow
    (ap (λ (s : Session). s.limit) c.ask-request.ensures.session ∙ ap (λ (s : Session). s.limit) c.with_limit-session.ensures ∙ c.limit-limit.ensures)
    (c.ask-request.ensures.request ∙ whole_query c.len-len.result c.args.query.items (c.len-len.ensures ∙ c.args.query.ok.0))
    (ap (λ (f : Passage). f.bytes) c.requires)
    (ap (λ (p : Pending). p.bytes) c.with_limit-cutter.ensures)
    c.stay-stayed.ensures.stay c.stay-stayed.ensures.leaves c.in_ok-sink.ensures c.end_of.ensures
