use Rattle.std.proofs.Common.{◌≡◌, List, Some, None, slice_get, ap, sym, ◌∙◌}
use Rattle.std.proofs.lemmas.Option.{same_Some, none-some}
use Rattle.world.specs.declared.request.Forward.{Forward}
use Rattle.world.proofs.Tables.{key_there, row_read, row_has, same_found}
use Rattle.world.proofs.forwards.Forwards.of_arrival.Goals as goal

pub returns-in_err-place-clause-only : goal.returns-in_err-place-clause-only
returns-in_err-place-clause-only c place row there is =
    let key = key_there (λ (f : Forward). f.origin) _ _ _ c.self.invariant (ap (λ v. v.rows) c.self.view_is) place row
    c.args.origin there is in
    absurd (none-some place (sym c.in_err-place.was ∙ c.find.ensures.only place key))

pub returns-in_err-row-clause-only : goal.returns-in_err-row-clause-only
returns-in_err-row-clause-only c place row there is =
    let rows = ap (λ v. v.rows) c.self.view_is in
    let none : slice_get c.args.self.now.rows c.in_ok-place.place ≡ None =
    ap (λ (l : List Forward). slice_get l c.in_ok-place.place) (sym rows) ∙ sym c.get.ensures ∙ c.in_err-row.was in
    absurd (row_read (λ (f : Forward). f.origin) _ c.args.self.now.rows _ c.self.invariant rows
    c.in_ok-place.place c.args.origin c.in_ok-place.ensures.found none)

pub returns-clause-key : goal.returns-clause-key
returns-clause-key c =
    let rows = ap (λ v. v.rows) c.self.view_is in
    let at : slice_get c.args.self.now.rows c.in_ok-place.place ≡ Some c.in_ok-row.row =
    ap (λ (l : List Forward). slice_get l c.in_ok-place.place) (sym rows) ∙ sym c.get.ensures ∙ c.in_ok-row.was in
    row_has (λ (f : Forward). f.origin) _ c.args.self.now.rows _ c.self.invariant rows
    c.in_ok-place.place c.args.origin c.in_ok-row.row c.in_ok-place.ensures.found at

pub returns-clause-only : goal.returns-clause-only
returns-clause-only c place row there is =
    let rows = ap (λ v. v.rows) c.self.view_is in
    let key = key_there (λ (f : Forward). f.origin) _ _ _ c.self.invariant rows place row c.args.origin there is in
    let at : slice_get c.args.self.now.rows c.in_ok-place.place ≡ Some c.in_ok-row.row =
    ap (λ (l : List Forward). slice_get l c.in_ok-place.place) (sym rows) ∙ sym c.get.ensures ∙ c.in_ok-row.was in
    let same : c.in_ok-place.place ≡ place =
    same_Some c.in_ok-place.place place (sym c.in_ok-place.was ∙ c.find.ensures.only place key) in
    same_found c.args.self.now.rows c.in_ok-place.place place c.in_ok-row.row row same at there
