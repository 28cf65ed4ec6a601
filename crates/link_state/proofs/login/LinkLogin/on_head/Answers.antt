use Rattle.std.proofs.Common.{ap, ◌∙◌}
use Rattle.link_state.specs.declared.head.Head.{Head}
use Rattle.link_state.specs.Login.{Login}
use Rattle.link_state.specs.Message.{head_of}
use Rattle.link_state.specs.Stages.{after_head}
use Rattle.link_state.proofs.HeadLemmas.{HeadCall, skip_exactly, body_exactly, head_refused, refused_again, reads_on}
use Rattle.link_state.proofs.login.LinkLogin.on_head.Goals as goal

pub returns : goal.returns
returns c =
    let new : Login =
    record { request = c.self.inside.request.items; stage = c.after_head-self-inside.result } in
    let call : HeadCall c.args.self.now new c.args.kind c.args.length c.head_answer.result =
    record {
      left_is =
          c.after_head-self-inside.ensures
          ∙ ap (λ (h : Head). after_head c.self.inside.stage h) c.of-head.ensures
          ∙ ap (λ (l : Login). after_head l.stage (head_of c.args.kind c.args.length))
          c.self.view_is;
      says = c.head_answer.ensures;
    } in
    record {
      skip = skip_exactly _ _ _ _ _ call;
      body = body_exactly _ _ _ _ _ call;
      refused = head_refused _ _ _ _ _ call;
      again = refused_again _ _ _ _ _ call;
      read = reads_on _ _ _ _ _ call;
      request = ap (λ (l : Login). l.request) c.self.view_is;
    }
