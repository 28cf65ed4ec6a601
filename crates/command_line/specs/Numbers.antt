-- Numbers among the arguments (own).
use Rattle.std.specs.Prelude.{ℕ, ◌==◌, ◌&&◌, Bool, true, not, nat_le, if◌then◌else◌, List, [], ◌∷◌, length, Option, Some, None}
use Rattle.std.specs.List.{list_any, slice_split}
use Rattle.std.specs.Result.{result_ok}
use Rattle.ini_config.specs.Text.{number_in}
use Rattle.command_line.specs.Arguments.{Text}

-- a value is needed before what follows it
infixl 10 ◌>>=◌
abbrev pub ◌>>=◌ : {A B : Type 0} → Option A → (A → Option B) → Option B
None >>= f = None
(Some x) >>= f = f x

-- the one text of a list
abbrev pub only_one : List Text → Option Text
only_one [] = None
only_one (text ∷ []) = Some text
only_one (text ∷ another ∷ rest) = None

-- the one text of a list, or that there is none
abbrev pub at_most_one : List Text → Option (Option Text)
at_most_one [] = Some None
at_most_one (text ∷ []) = Some (Some text)
at_most_one (text ∷ another ∷ rest) = None

-- the texts of a list, if there are any
abbrev pub one_or_more : List Text → Option (List Text)
one_or_more [] = None
one_or_more (text ∷ rest) = Some (text ∷ rest)

-- what each of these texts means, where each means something
unfoldable pub each : {A : Type 0} → (Text → Option A) → List Text → Option (List A)
each read [] = Some []
each read (text ∷ rest) = do
  first ← read text
  others ← each read rest
  Some (first ∷ others)

-- the items between the commas of a text; where there is no text there are none
abbrev pub between_commas : Option Text → List Text
between_commas None = []
between_commas (Some text) = slice_split (λ byte. byte == 44) text

-- a number in decimal digits, with no zero in front of another, from least to most
abbrev pub number_from : ℕ → ℕ → Text → Option ℕ
number_from least most text = result_ok (number_in least most text)

-- a port
abbrev pub port_of : Text → Option ℕ
port_of text = number_from 1 65535 text

-- whether no two numbers of a list are equal
unfoldable pub all_differ : List ℕ → Bool
all_differ [] = true
all_differ (first ∷ rest) = not (list_any (λ number. number == first) rest) && all_differ rest

-- the number of a peer
abbrev pub peer_of : Text → Option ℕ
peer_of text = number_from 1 16383 text

-- at most 64 peers, none twice
abbrev pub allowed_peers : List ℕ → Option (List ℕ)
allowed_peers peers = if nat_le (length peers) 64 && all_differ peers then Some peers else None

-- the peers that a text names
abbrev pub peers_of : Option Text → Option (List ℕ)
peers_of text = each peer_of (between_commas text) >>= allowed_peers
