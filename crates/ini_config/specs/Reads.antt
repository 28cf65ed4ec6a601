-- What a reader of settings returns if memory runs out (internal).
use Rattle.std.specs.Prelude.{◌≡◌, ◌⊎◌, Result, Ok, Err, Option, Some, None}
use Rattle.ini_config.specs.declared.fault.IniCode.{IniCode}
use Rattle.ini_config.specs.declared.fault.IniCode.TheVariants.{Repeated, Missing, Memory}

-- the first fault goes before what follows it
infixl 10 ◌>>=◌
abbrev pub ◌>>=◌ : {A B E : Type 0} → Result A E → (A → Result B E) → Result B E
(Ok x) >>= f = f x
(Err e) >>= f = Err e

-- a value that wasn't given before
abbrev pub once : {A : Type 0} → Option A → Result A IniCode → Result (Option A) IniCode
once (Some x) value = Err Repeated
once None (Ok x) = Ok (Some x)
once None (Err e) = Err e

-- a value that has to be given
abbrev pub needed : {A : Type 0} → Option A → Result A IniCode
needed (Some x) = Ok x
needed None = Err Missing

-- what a reader returned, seen by view, is what the grammar says
abbrev pub Answers : {X Y : Type 0} → (X → Y) → Result X IniCode → Result Y IniCode → Type 0
Answers view (Ok x) said = said ≡ Ok (view x)
Answers view (Err e) said = said ≡ Err e

-- what a reader returned, seen by view, is what the grammar says, unless memory ran out
abbrev pub Gives : {X Y : Type 0} → (X → Y) → Result X IniCode → Result Y IniCode → Type 0
Gives view (Ok x) said = said ≡ Ok (view x)
Gives view (Err e) said = (e ≡ Memory) ⊎ (said ≡ Err e)
