-- The text of an entry after its method's name, as it is read (internal).
use Rattle.std.specs.Prelude.{ℕ, ◌≡◌, ◌≢◌, List, ◌∷◌, ◌++◌, Option, None, Some}
use Rattle.scram.specs.Entry.{IsEntry, kept_text}
use Rattle.scram.specs.Exchange.{Kept}
use Rattle.scram.specs.Messages.{Lacks}

-- its parts, whatever they are
pub record HasKept (text count salt stored server : List ℕ) : Type 0 where
  pub spelled : text ≡ count ++ 58 ∷ (salt ++ 36 ∷ (stored ++ 58 ∷ server))
  pub count_lacks : Lacks 58 count
  pub salt_lacks : Lacks 36 salt
  pub stored_lacks : Lacks 58 stored

-- the entry, or that there is none
abbrev pub ReadsKept : List ℕ → Option Kept → Type 0
ReadsKept text (Some kept) = IsEntry kept × (text ≡ kept_text kept)
ReadsKept text None = (kept : Kept) → IsEntry kept → text ≢ kept_text kept
