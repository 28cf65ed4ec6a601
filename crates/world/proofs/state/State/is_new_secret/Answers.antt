use Rattle.std.proofs.Common.{ap, ◌∙◌}
use Rattle.std.proofs.lemmas.Bool.{false≢true}
use Rattle.pg_ids.specs.Key.{identity_of}
use Rattle.pg_ids.specs.declared.any_key.{Identity.Identity}
use Rattle.pg_ids.specs.declared.client_key.ClientKey.{ClientKey}
use Rattle.world.proofs.Issuing.{given_there}
use Rattle.world.proofs.state.State.is_new_secret.Goals as goal

pub returns-in-Some : goal.returns-in-Some
returns-in-Some c = (
  λ yes. absurd (false≢true yes),
  λ never.
      let f = rw (← c.self.view_is) at c.requires in
      let found = c.in-Some.ensures in
      let new = rw (c.in-Short-Some.is-0, c.in-Short-Some.is-1, ← c.self.view_is) at never in
      absurd (given_there _ f c.args.node c.in-Short-Some.slot c.args.secret c.in-Some.field-0.place c.in-Some.field-0.row
      c.key_in_range.ensures
      found.found (found.key ∙ c.identity.ensures ∙ ap (λ (k : ClientKey). Identity.Short (identity_of k)) c.first_key-key.ensures)
      new),
)
