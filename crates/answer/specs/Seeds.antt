-- The seed of `serve` in a file (own): what is known of the file, up to where it counts, is a seed,
-- and so are the first bytes that its reads gave.
use Rattle.std.specs.Prelude.{ℕ, ◌≡◌, ◌⊎◌, ◌<◌, ⊤, List, take, Result, Ok, Option, Some, None, IfSome, length, string_bytes}
use Rattle.std.specs.declared.io.Error.{Error}
use Rattle.command_line.specs.Seeds.{counted_bytes, seed_held}
use Rattle.command_line.specs.declared.seed.SeedSource.{SeedSource}
use Rattle.command_line.specs.declared.seed.SeedSource.TheVariants as source
use Rattle.answer.specs.declared.fault.Fault.{Fault}
use Rattle.answer.specs.declared.fault.Fault.TheVariants as fault
use Rattle.answer.specs.Reading.{Call, Fails, ReadsOn, given}

-- a read that had room gave nothing
pub record EndsAt {R : Type 0} (gave : R → List ℕ → Result ℕ Error → R → Type 0) (last : R)
    : Type 0 where
  pub buffer : List ℕ
  pub room : 0 < length buffer
  pub new : R
  pub ends : gave last buffer (Ok 0) new

-- some reads went on, and gave these bytes: as many as were asked for, or all up to the end
pub record ReadsFirst {R : Type 0} (gave : R → List ℕ → Result ℕ Error → R → Type 0) (reader : R)
    (count : ℕ) (bytes : List ℕ) : Type 0 where
  pub calls : List Call
  pub last : R
  pub reads : ReadsOn gave reader calls last
  pub bytes_are : bytes ≡ given calls
  pub all : (length bytes ≡ count) ⊎ EndsAt gave last

-- a file was opened, and these are the first bytes that its reads gave
pub record GaveFirst {R : Type 0} (opens : Result R Error → Type 0)
    (gave : R → List ℕ → Result ℕ Error → R → Type 0) (count : ℕ) (bytes : List ℕ) : Type 0 where
  pub reader : R
  pub opened : opens (Ok reader)
  pub first : ReadsFirst gave reader count bytes

-- what the reads of the file with this name gave, up to where it counts, is this seed, or is none
pub record GaveSeed {R : Type 0} (opens : List ℕ → Result R Error → Type 0)
    (gave : R → List ℕ → Result ℕ Error → R → Type 0) (name : List ℕ) (seed : Option (List ℕ))
    : Type 0 where
  pub bytes : List ℕ
  pub gave_first : GaveFirst (opens name) gave (counted_bytes name) bytes
  pub held : seed_held bytes ≡ seed

-- what is known of the file with this name holds this seed
abbrev pub HoldsSeed : Option (List ℕ) → List ℕ → List ℕ → Type 0
HoldsSeed known name seed =
    IfSome known (λ bytes. seed_held (take (counted_bytes name) bytes) ≡ Some seed)

-- these bytes, or what the file holds
abbrev pub IsSeedOf : (List ℕ → Option (List ℕ)) → SeedSource → List ℕ → Type 0
IsSeedOf known (source.Bytes given) seed = seed ≡ given
IsSeedOf known (source.File file) seed = HoldsSeed (known file.now) file.now seed

-- the seed of a file is what its reads gave
abbrev pub IsReadSeed : {R : Type 0} → (List ℕ → Result R Error → Type 0)
    → (R → List ℕ → Result ℕ Error → R → Type 0) → SeedSource → List ℕ → Type 0
IsReadSeed opens gave (source.Bytes given) seed = ⊤
IsReadSeed opens gave (source.File file) seed = GaveSeed opens gave file.now (Some seed)

-- why a file gives no seed: it can't be opened, or a read of it fails; or it holds none, in a free
-- text; or memory ran out
abbrev pub IsNoSeed : {R : Type 0} → Option (List ℕ) → (List ℕ → Result R Error → Type 0)
    → (R → List ℕ → Result ℕ Error → R → Type 0) → List ℕ → Fault → Type 0
IsNoSeed known opens gave name (fault.Unread file reason) = (string_bytes file ≡ name)
    × Fails (opens name) gave
IsNoSeed known opens gave name (fault.Usage text) =
    IfSome known (λ bytes. seed_held (take (counted_bytes name) bytes) ≡ None)
    × GaveSeed opens gave name None
IsNoSeed known opens gave name fault.Memory = ⊤
IsNoSeed known opens gave name _ = ⊥

-- given bytes are always a seed
abbrev pub IsSeedFault : {R : Type 0} → (List ℕ → Option (List ℕ))
    → (List ℕ → Result R Error → Type 0) → (R → List ℕ → Result ℕ Error → R → Type 0) → SeedSource
    → Fault → Type 0
IsSeedFault known opens gave (source.Bytes given) why = ⊥
IsSeedFault known opens gave (source.File file) why =
    IsNoSeed (known file.now) opens gave file.now why
