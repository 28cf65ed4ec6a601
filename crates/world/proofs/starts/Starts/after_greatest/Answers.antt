use Rattle.std.proofs.Common.{◌≡◌, ℕ, List, Some, slice_get, ap, sym, subst, ◌∙◌, arith}
use Rattle.std.proofs.lemmas.Option.{none-some}
use Rattle.world.specs.declared.starts.Greatest.{Greatest}
use Rattle.world.specs.World.{Start, HadBoot, IsGreatestBoot}
use Rattle.world.specs.Starts.{AreGreatest}
use Rattle.world.proofs.Boots.{if_none, one_greatest}
use Rattle.world.proofs.starts.Starts.after_greatest.Goals as goal

-- the boot that was found is the node's greatest
found_greatest : {starts now : List Start} {greatest : List Greatest} → AreGreatest starts greatest
    → starts ≡ now → (node place : ℕ) (one : Greatest) → slice_get greatest place ≡ Some one
    → one.node ≡ node → IsGreatestBoot now node one.boot
found_greatest {starts} {now} are same node place one there of =
    subst (λ (l : List Start). IsGreatestBoot l node one.boot) same
    (subst (λ (n : ℕ). IsGreatestBoot starts n one.boot) of (are.each place one there))

pub returns-in_err-greatest-clause-none : goal.returns-in_err-greatest-clause-none
returns-in_err-greatest-clause-none c = if_none c.from_residual.result (λ boot h.
    let a = c.self.invariant.all c.args.node h.0
    (subst (λ (l : List Start). HadBoot l c.args.node h.0) (sym (ap (λ v. v.rows) c.self.view_is)) h.1.had) in
    absurd (none-some _ (sym c.in_err-greatest.was ∙ c.find.ensures.only a.0 a.1 a.2 a.3)))

pub returns-in_err-next-clause-none : goal.returns-in_err-next-clause-none
returns-in_err-next-clause-none c = if_none c.from_residual-in_err-next.result (λ boot h.
    let is = found_greatest c.self.invariant (ap (λ v. v.rows) c.self.view_is) c.args.node c.in_ok-greatest.greatest.place
    c.in_ok-greatest.greatest.row c.in_ok-greatest.ensures.found c.in_ok-greatest.ensures.key in
    let least = one_greatest c.args.self.now.rows c.args.node _ h.0 is h.1 in
    let value = c.get.ensures in
    let next = h.2 in
    let fits = h.3 in
    c.in_err-next.ensures (omega (arith, least, value, next, fits)))

pub returns-clause-next : goal.returns-clause-next
returns-clause-next c =
    let add = c.in_ok-next.ensures in
    let value = c.get.ensures in (
      c.in_ok-greatest.greatest.row.boot,
      found_greatest c.self.invariant (ap (λ v. v.rows) c.self.view_is) c.args.node c.in_ok-greatest.greatest.place
          c.in_ok-greatest.greatest.row c.in_ok-greatest.ensures.found c.in_ok-greatest.ensures.key,
      omega (arith, add, value),
      omega (arith, add, value),
    )
