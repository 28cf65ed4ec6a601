-- Characters as UTF-8, one after the other.
use Rattle.std.proofs.Common.{◌≡◌, ◌<◌, ◌+◌, ℕ, List, [], ◌∷◌, ◌++◌, length, take, get_or, encode_utf8, encode_utf8_all, sym, ap, ◌∙◌}
use Rattle.std.proofs.lemmas.List.{append-nil, take_more}
use Rattle.std.proofs.lemmas.Str.{encodes-append}

pub encoded_more : (text new xs : List ℕ) (i x : ℕ) → i < length xs → x ≡ get_or xs i x → text ≡ encode_utf8_all (take i xs) → new ≡ text ++ encode_utf8 x → new ≡ encode_utf8_all (take (i + 1) xs)
encoded_more text new xs i x below is so_far next =
    next ∙ ap (λ (t : List ℕ). t ++ encode_utf8 x) so_far
    ∙ ap (λ (c : List ℕ). encode_utf8_all (take i xs) ++ c) (sym (append-nil (encode_utf8 x)))
    ∙ sym (encodes-append (take i xs) (x ∷ []))
    ∙ ap encode_utf8_all (ap (λ (c : ℕ). take i xs ++ c ∷ []) is ∙ sym (take_more xs i x below))
