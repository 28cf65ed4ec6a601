-- The fields of an ErrorResponse or of a NoticeResponse (PostgreSQL manual, "Error and Notice Message
-- Fields"): each is a type byte, which isn't zero, and a text that ends with a zero byte. One more
-- zero byte ends them. `HasField`: this is the first field of its type, at the beginning of a
-- message's body that is well formed, whatever follows it.
use Rattle.std.specs.Prelude.{ℕ, ◌≡◌, ◌≢◌, List, ◌++◌, flat_map}
use Rattle.std.specs.List.{AllByRecursion}
use Rattle.startup.specs.StartupMessage.{HasNoZero}
use Rattle.startup.specs.Replies.{error_field}

-- a field: its type, and its text without the zero byte that ends it
pub record Field : Type 0 where
  pub kind : ℕ
  pub text : List ℕ

-- one that a message can have
pub record IsField (field : Field) : Type 0 where
  pub typed : field.kind ≢ 0
  pub no_zero : HasNoZero field.text

-- fields as bytes
abbrev pub fields_text : List Field → List ℕ
fields_text fields = flat_map (λ field. error_field field.kind field.text) fields

-- the body has this text as its first field of this type
pub record HasField (body : List ℕ) (kind : ℕ) (text : List ℕ) : Type 0 where
  pub before : List Field
  pub after : List ℕ
  pub each : AllByRecursion IsField before
  pub first : AllByRecursion (λ field. field.kind ≢ kind) before
  pub is_field : IsField (record { kind = kind; text = text })
  pub body_is : body ≡ fields_text before ++ (error_field kind text ++ after)

-- so begins a body with a field
pub record BeginsWith (body : List ℕ) (kind : ℕ) (text after : List ℕ) : Type 0 where
  pub is_field : IsField (record { kind = kind; text = text })
  pub body_is : body ≡ error_field kind text ++ after
