use Rattle.std.proofs.Common.{ap, ◌∙◌}
use Rattle.link_state.specs.Login.{Login}
use Rattle.link_state.specs.Stages.{after_body}
use Rattle.link_state.proofs.BodyLemmas.{BodyCall, reads_whole, more_exactly, up_at, body_refused}
use Rattle.link_state.proofs.login.LinkLogin.on_body.Goals as goal

pub returns : goal.returns
returns c =
    let new : Login =
    record { request = c.self.inside.request.items; stage = c.after_body-self-inside.result } in
    let call : BodyCall c.args.self.now new c.args.body.now c.body_answer.result = record {
      left_is = c.after_body-self-inside.ensures
          ∙ ap (λ (l : Login). after_body l.stage c.args.body.now) c.self.view_is;
      says = c.body_answer.ensures;
    } in
    record {
      more = more_exactly _ _ _ _ call;
      up = up_at _ _ _ _ call;
      refused = body_refused _ _ _ _ call;
      read = reads_whole _ _ _ _ call;
      request = ap (λ (l : Login). l.request) c.self.view_is;
    }
