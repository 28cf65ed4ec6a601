-- The salted password of a password that is prepared first (RFC 5802, section 3: Hi of
-- Normalize(password)).
use Rattle.std.specs.Prelude.{ℕ, ◌≡◌, List}
use Rattle.scram.specs.Exchange.{Salted}
use Rattle.scram.specs.Prepare.{IsPrepared}
use Rattle.scram.specs.Values.{salted_password}

-- it has this salt and count, and Hi of the prepared password
pub record IsSaltedOf (password salt : List ℕ) (iterations : ℕ) (salted : Salted) : Type 0 where
  pub prepared : List ℕ
  pub prepared_is : IsPrepared password prepared
  pub salt_is : salted.salt ≡ salt
  pub iterations_are : salted.iterations ≡ iterations
  pub key : salted.key ≡ salted_password prepared salt iterations
