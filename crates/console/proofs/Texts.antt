-- Texts that aren't UTF-8 are no query.
use Rattle.std.proofs.Common.{◌≡◌, ◌<◌, ℕ, zero, suc, List, [], ◌∷◌, ◌++◌, Bool, true, false, ◌&&◌, map, codes, inl, inr, refl, sym, ap, subst, arith}
use Rattle.std.specs.List.{list_all}
use Rattle.std.specs.Char.{to_ascii_lowercase}
use Rattle.std.specs.Str.{IsUtf8, IsAscii}
use Rattle.std.specs.Prelude.{nat_lt}
use Rattle.std.proofs.lemmas.Str.{IsUtf8-from_ascii}
use Rattle.std.proofs.lemmas.Str.Ascii.{IsAscii-nil, IsAscii-cons, lowercase_is, lowercase_ascii}
use Rattle.std.proofs.lemmas.Bool.{ltb-true}
use Rattle.ini_config.specs.Node.{NodeSettings}
use Rattle.node_core.specs.View.{NodeView}
use Rattle.pg_frames.specs.declared.frame.Frame.{Frame}
use Rattle.console.specs.declared.query.Query.{Query}
use Rattle.console.specs.declared.query.Query.TheVariants.{Peers, Links, Clients, Cancels}
use Rattle.console.specs.Rows.{text_of, IsSameInAnyCase, Asks, Answers}

-- the lower case of a byte above ASCII is that byte
lower_ascii : (c : ℕ) → to_ascii_lowercase c < 128 → c < 128
lower_ascii c low = grind (arith, low, (lowercase_is c).2)

-- a text is ASCII that is the same as one, except for the case of its letters
same_ascii : (xs ys : List ℕ) → IsSameInAnyCase xs ys → IsAscii ys → IsAscii xs
same_ascii [] ys same ascii = IsAscii-nil
same_ascii (x ∷ xs) [] same ascii = absurd cc
same_ascii (x ∷ xs) (y ∷ ys) same ascii =
    let head : to_ascii_lowercase x ≡ to_ascii_lowercase y = cc in
    let tail : IsSameInAnyCase xs ys = cc in
    IsAscii-cons x xs
    (lower_ascii x (subst (λ (n : ℕ). n < 128) (sym head) (lowercase_ascii y (ascii 0))))
    (same_ascii xs ys tail (λ i. ascii (suc i)))

below_all : (xs : List ℕ) → list_all (λ b. nat_lt b 128) xs ≡ true → IsAscii xs
below_all [] all = IsAscii-nil
below_all (x ∷ xs) all = go (nat_lt x 128) refl all (below_all xs)
  where
    go : (low : Bool) → nat_lt x 128 ≡ low
        → (low && list_all (λ b. nat_lt b 128) xs) ≡ true
        → (list_all (λ b. nat_lt b 128) xs ≡ true → IsAscii xs) → IsAscii (x ∷ xs)
    go true is both more = IsAscii-cons x xs (ltb-true x 128 is) (more both)
    go false is both more = absurd cc

query_ascii : (query : Query) → IsAscii (text_of query) × IsAscii (text_of query ++ codes ";")
query_ascii Peers = (below_all (text_of Peers) refl, below_all (text_of Peers ++ codes ";") refl)
query_ascii Links = (below_all (text_of Links) refl, below_all (text_of Links ++ codes ";") refl)
query_ascii Clients = (below_all (text_of Clients) refl, below_all (text_of Clients ++ codes ";") refl)
query_ascii Cancels = (below_all (text_of Cancels) refl, below_all (text_of Cancels ++ codes ";") refl)

asks_ascii : (text : List ℕ) (query : Query) → Asks text query → IsAscii text
asks_ascii text query asks = elim asks [
  | inl plain ↦ same_ascii text _ plain (query_ascii query).0
  | inr closed ↦ same_ascii text _ closed (query_ascii query).1
]

no_query : (query : Query) → Asks [] query → ⊥
no_query Peers asks = elim asks [ inl a ↦ cc | inr b ↦ cc ]
no_query Links asks = elim asks [ inl a ↦ cc | inr b ↦ cc ]
no_query Clients asks = elim asks [ inl a ↦ cc | inr b ↦ cc ]
no_query Cancels asks = elim asks [ inl a ↦ cc | inr b ↦ cc ]

-- what answers an empty text answers one that isn't UTF-8
pub answers_unread : (text : List ℕ) (view : NodeView) (words : List ℕ) (settings : NodeSettings)
    (frames : List Frame) → (IsUtf8 text → ⊥) → Answers [] view words settings frames
    → Answers text view words settings frames
answers_unread text view words settings frames not answers = elim answers [
  | inl asked ↦ absurd (no_query asked.0 asked.2)
  | inr other ↦ inr (
    λ query asks. not (IsUtf8-from_ascii text (asks_ascii text query asks)),
    other.1,
  )
]
