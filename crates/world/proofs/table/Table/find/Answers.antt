use Rattle.std.proofs.Common.{◌≡◌, Some, None, slice_get, ap, sym, ◌∙◌}
use Rattle.std.proofs.lemmas.Option.{same_Some, none-some}
use Rattle.world.proofs.Tables.{key_there, row_read, row_has, same_found}
use Rattle.world.proofs.table.Table.find.Goals as goal

pub returns-in_err-place-clause-only : goal.returns-in_err-place-clause-only
returns-in_err-place-clause-only g c place row there is =
    let key = key_there g.R.Row.key_of _ _ _ c.self.invariant (ap (λ v. v.rows) c.self.view_is) place row c.args.key there is in
    let found : c.find.result ≡ Some place = c.find.ensures.only place key in
    absurd (none-some place (sym c.in_err-place.was ∙ found))

pub returns-in_err-row-clause-only : goal.returns-in_err-row-clause-only
returns-in_err-row-clause-only g c place row there is =
    let none : slice_get c.args.self.now.rows c.in_ok-place.place ≡ None = sym c.get.ensures ∙ c.in_err-row.was in
    absurd (row_read g.R.Row.key_of _ c.args.self.now.rows _ c.self.invariant (ap (λ v. v.rows) c.self.view_is)
    c.in_ok-place.place c.args.key c.in_ok-place.ensures.found none)

pub returns-clause-key : goal.returns-clause-key
returns-clause-key g c =
    let at : slice_get c.args.self.now.rows c.in_ok-place.place ≡ Some c.in_ok-row.row = sym c.get.ensures ∙ c.in_ok-row.was in
    row_has g.R.Row.key_of _ c.args.self.now.rows _ c.self.invariant (ap (λ v. v.rows) c.self.view_is)
    c.in_ok-place.place c.args.key c.in_ok-row.row c.in_ok-place.ensures.found at

pub returns-clause-only : goal.returns-clause-only
returns-clause-only g c place row there is =
    let key = key_there g.R.Row.key_of _ _ _ c.self.invariant (ap (λ v. v.rows) c.self.view_is) place row c.args.key there is in
    let found : c.find.result ≡ Some place = c.find.ensures.only place key in
    let get : c.get.result ≡ slice_get c.args.self.now.rows c.in_ok-place.place = c.get.ensures in
    let at : slice_get c.args.self.now.rows c.in_ok-place.place ≡ Some c.in_ok-row.row = sym get ∙ c.in_ok-row.was in
    let same : c.in_ok-place.place ≡ place = same_Some c.in_ok-place.place place (sym c.in_ok-place.was ∙ found) in
    same_found c.args.self.now.rows c.in_ok-place.place place c.in_ok-row.row row same at there
