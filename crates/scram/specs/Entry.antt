-- An entry as PostgreSQL keeps it in `pg_authid.rolpassword` (manual, "pg_authid"; RFC 5803 in part):
-- SCRAM-SHA-256$<iterations>:<salt>$<StoredKey>:<ServerKey>, the last three in base64.
use Rattle.std.specs.Prelude.{ℕ, ◌≡◌, ◌≢◌, true, List, ◌∷◌, ◌++◌, codes, take, Result, Ok, Err}
use Rattle.std.specs.Fmt.{decimal}
use Rattle.base64.specs.GeneralPurpose.{IsBytes}
use Rattle.scram.specs.Base64.{base64}
use Rattle.scram.specs.Exchange.{Kept, Salted, Verified}
use Rattle.scram.specs.Hmac.{hmac}
use Rattle.scram.specs.Messages.{IsCount}
use Rattle.scram.specs.Server.{Begins, IsDigest}
use Rattle.scram.specs.Values.{stored_key, server_key}
use Rattle.scram.specs.declared.entry.EntryError.{EntryError}
use Rattle.scram.specs.declared.entry.EntryError.TheVariants.{OtherMethod, Malformed, Memory}

-- what may be kept
pub record IsEntry (kept : Kept) : Type 0 where
  pub count : IsCount kept.iterations
  pub salt : IsBytes kept.salt
  pub stored_key : IsDigest kept.stored_key
  pub server_key : IsDigest kept.server_key

-- the method's name, and a dollar sign
abbrev pub method : List ℕ
method = codes "SCRAM-SHA-256$"

-- what follows it; 58 is a colon, and 36 a dollar sign
abbrev pub kept_text : Kept → List ℕ
kept_text kept =
    decimal kept.iterations ++ 58 ∷ (base64 kept.salt ++ 36 ∷ (base64 kept.stored_key ++ 58 ∷ base64 kept.server_key))

-- the text of an entry
abbrev pub entry_text : Kept → List ℕ
entry_text kept = method ++ kept_text kept

-- a server reads this text, in which an entry is due
abbrev pub TellsEntry : List ℕ → Result Kept EntryError → Type 0
TellsEntry text (Ok kept) = IsEntry kept × (text ≡ entry_text kept)
TellsEntry text (Err OtherMethod) = ¬ (Begins text method)
TellsEntry text (Err Malformed) = Begins text method × ((kept : Kept) → IsEntry kept → text ≢ entry_text kept)
TellsEntry text (Err Memory) = Unit {0}

-- the entry of a salted password
abbrev pub entry_of : Salted → Kept
entry_of salted = record {
  salt = salted.salt;
  iterations = salted.iterations;
  stored_key = stored_key salted.key;
  server_key = server_key salted.key;
}

-- what stands for a user who isn't known: its salt is the first 16 bytes of an HMAC of the name (own)
pub record IsNobody (secret user : List ℕ) (iterations : ℕ) (verified : Verified) : Type 0 where
  pub is_mock : verified.is_mock ≡ true
  pub iterations_are : verified.entry.iterations ≡ iterations
  pub salt : verified.entry.salt ≡ take 16 (hmac secret user)
