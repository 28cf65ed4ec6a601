-- What a pooler takes from the body of a StartupMessage (internal).
use Rattle.std.specs.Prelude.{◌≡◌, ◌≤◌, ℕ, List, ◌++◌, length, map, flat_map, codes, false}
use Rattle.std.specs.Borrow.{Bor}
use Rattle.std.specs.List.{AllByRecursion}
use Rattle.startup.specs.StartupMessage.{Parameter, IsParameter, AreParameters, AreGivenOnce, is_reserved, parameter, body_of, given}
use Rattle.startup.specs.declared.session.Session.{Session}

-- the body's parameters give this user and this database
pub record IsSessionOf (session : Session) (body : List ℕ) : Type 0 where
  pub parameters : List Parameter
  pub sendable : AreParameters parameters
  pub spelled : body ≡ body_of parameters
  pub user : session.user.now ≡ given (codes "user") parameters
  pub database : session.database.now ≡ given (codes "database") parameters

-- at most so many parameters begin the body
abbrev pub HoldsAtMost : ℕ → List ℕ → Type 0
HoldsAtMost most body = (ps : List Parameter) (after : List ℕ) → AllByRecursion IsParameter ps
    → body ≡ flat_map parameter ps ++ after → length ps ≤ most

-- the body is that of parameters with these names, none of them reserved, and unless a name is
-- given twice they give this user and this database
pub record IsReadOf (session : Session) (names : List (Bor (List ℕ))) (body : List ℕ) : Type 0 where
  pub parameters : List Parameter
  pub formed : AllByRecursion IsParameter parameters
  pub allowed : AllByRecursion (λ p. is_reserved p.name ≡ false) parameters
  pub spelled : body ≡ body_of parameters
  pub named : map (λ name. name.now) names ≡ map (λ p. p.name) parameters
  pub user : AreGivenOnce parameters → session.user.now ≡ given (codes "user") parameters
  pub database : AreGivenOnce parameters
      → session.database.now ≡ given (codes "database") parameters
