-- Bytes are those of one key of either kind.
use Rattle.std.proofs.Common.{◌≡◌, ℕ, List, take, drop, ◌++◌, sym, ap, ◌∙◌}
use Rattle.pg_ids.specs.Key.{IsKey, key_bytes}
use Rattle.pg_ids.specs.AnyKey.{IsLongPart, IsAnyKey, long_part_bytes, any_bytes, bytes_of}
use Rattle.pg_ids.specs.declared.client_key.ClientKey.{ClientKey}
use Rattle.pg_ids.specs.declared.long_part.LongPart.{LongPart}
use Rattle.pg_ids.specs.declared.any_key.AnyKey.{AnyKey}
use Rattle.pg_ids.specs.declared.any_key.AnyKey.TheVariants.{Short, Long}
use Rattle.pg_ids.specs.declared.any_key.KeyBytes.TheVariants as bytes

-- eight bytes
pub only_short : (list : List ℕ) (one : ClientKey) → ((key : ClientKey) → IsKey key → key_bytes key ≡ list → key ≡ one) → (key : AnyKey) → IsAnyKey key → any_bytes key ≡ bytes.Short list → key ≡ Short one
only_short list one only (Short key) is e =
    let spelled : key_bytes key ≡ list = ap bytes_of e in ap Short (only key is spelled)
only_short list one only (Long key part) is e = cc

-- twenty-four bytes
pub only_long : (list front back : List ℕ) (one : ClientKey) (behind : LongPart) → front ≡ take 8 list → back ≡ drop 8 list → ((key : ClientKey) → IsKey key → key_bytes key ≡ front → key ≡ one) → ((part : LongPart) → IsLongPart part → long_part_bytes part ≡ back → part ≡ behind) → (key : AnyKey) → IsAnyKey key → any_bytes key ≡ bytes.Long list → key ≡ Long one behind
only_long list front back one behind is_front is_back only_one only_behind (Short key) is e = cc
only_long list front back one behind is_front is_back only_one only_behind (Long key part) is e =
    let spelled : key_bytes key ++ long_part_bytes part ≡ list = ap bytes_of e in
    let first : key_bytes key ≡ front = ap (take 8) spelled ∙ sym is_front in
    let second : long_part_bytes part ≡ back = ap (drop 8) spelled ∙ sym is_back in
    let same : key ≡ one = only_one key is.0 first in
    let same_part : part ≡ behind = only_behind part is.1 second in
    ap (λ (k : ClientKey). Long k part) same ∙ ap (λ (p : LongPart). Long one p) same_part
