-- One word more of a list is read.
use Rattle.std.proofs.Common.{◌≡◌, ℕ, ◌+◌, ◌<◌, List, [], ◌∷◌, ◌++◌, length, get_or, map, take, Bor, sym, ◌∙◌, ap, subst}
use Rattle.std.proofs.lemmas.List.{take_more, map_push}
use Rattle.std.proofs.lemmas.Slice.Zip.{all_zipped_more}
use Rattle.std.specs.List.{AllZip}

-- what is true of the words so far, and of the word at a place
pub AllZip-next : {Y : Type 0} (R : List ℕ → Y → Type 0) (words : List (Bor (List ℕ))) (i : ℕ)
    (ys : List Y) (d : Bor (List ℕ)) (y : Y) → i < length words
    → AllZip R (map (λ w. w.now) (take i words)) ys → R (get_or words i d).now y
    → AllZip R (map (λ w. w.now) (take (i + 1) words)) (ys ++ y ∷ [])
AllZip-next R words i ys d y within so_far is =
    let more : map (λ (w : Bor (List ℕ)). w.now) (take (i + 1) words)
    ≡ map (λ (w : Bor (List ℕ)). w.now) (take i words) ++ (get_or words i d).now ∷ [] =
    ap (map (λ (w : Bor (List ℕ)). w.now)) (take_more words i d within)
    ∙ map_push (λ (w : Bor (List ℕ)). w.now) (take i words) (get_or words i d) in
    subst (λ ws. AllZip R ws (ys ++ y ∷ [])) (sym more)
    (all_zipped_more R (map (λ w. w.now) (take i words)) ys (get_or words i d).now y so_far is)
