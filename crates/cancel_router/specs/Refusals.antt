-- Numbers of refused routes, 60 to 63 (own).
use Rattle.std.specs.Prelude.{ℕ}
use Rattle.cancel_router.specs.declared.refusal.RouteRefusal.{RouteRefusal}
use Rattle.cancel_router.specs.declared.refusal.RouteRefusal.TheVariants.{Spent, Unknown, NoPeer, NoLink}

-- its number among all refusals
abbrev pub number_of : RouteRefusal → ℕ
number_of Spent = 60
number_of Unknown = 61
number_of NoPeer = 62
number_of NoLink = 63
