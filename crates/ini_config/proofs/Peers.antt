-- Peers by their numbers.
use Rattle.std.proofs.Common.{◌≡◌, ℕ, suc, None, sym, ◌∙◌, ◌+◌, ◌<◌, arith, eqb, List, [], ◌∷◌, ◌++◌, map, take, length, get_or, is_some, refl, ap, add-one}
use Rattle.std.proofs.lemmas.List.{map-append}
use Rattle.std.proofs.Math.Seq.{take-suc}
use Rattle.std.specs.List.{list_any}
use Rattle.std.specs.Prelude.{All}
use Rattle.std.proofs.lemmas.Bool.{ne_eqb}
use Rattle.ini_config.specs.Plain.{plain_peer}
use Rattle.std.specs.Map.{lookup}
use Rattle.ini_config.specs.declared.entry.PeerEntry.{PeerEntry}
use Rattle.ini_config.specs.Node.{PeerSettings}
use Rattle.ini_config.specs.View.{peer_settings}
use Rattle.ini_config.proofs.Found.{found-seen}

-- the numbers of the peers are the keys that they are kept under
pub numbers-keys : (es : List (ℕ × PeerEntry)) → map (λ e. e.0) es ≡ map (λ (p : PeerSettings). p.number) (map (λ e. peer_settings e.0 e.1) es)
numbers-keys [] = refl
numbers-keys (e ∷ es) = ap (λ l. e.0 ∷ l) (numbers-keys es)

-- a number is a key where a peer has it
pub lists-keys : (number : ℕ) (es : List (ℕ × PeerEntry)) → is_some (lookup (eqb number) es) ≡ list_any (λ (p : PeerSettings). eqb number p.number) (map (λ e. peer_settings e.0 e.1) es)
lists-keys number es = found-seen (eqb number) (λ (p : PeerSettings). eqb number p.number) (λ e. peer_settings e.0 e.1) (λ e. refl) es

-- peers that come from numbers have no other number as a key
pub absent_peer : (number : ℕ) (es : List (ℕ × PeerEntry)) (front : List ℕ) → map (λ e. peer_settings e.0 e.1) es ≡ map plain_peer front → All (λ x. x ≡ number → ⊥) front → lookup (eqb number) es ≡ None
absent_peer number [] front e others = refl
absent_peer number (x ∷ es) [] e others = cc
absent_peer number (x ∷ es) (n ∷ front) e others =
    let tail : map (λ (y : ℕ × PeerEntry). peer_settings y.0 y.1) es ≡ map plain_peer front = cc in
    let head : peer_settings x.0 x.1 ≡ plain_peer n = cc in
    let same : x.0 ≡ n = ap (λ (p : PeerSettings). p.number) head in
    let other : number ≡ x.0 → ⊥ = λ eq. others 0 n (omega arith) (sym same ∙ sym eq) in
    let rest : All (λ x. x ≡ number → ⊥) front = λ i d lt. others (suc i) d (omega arith) in
    rw (ne_eqb number x.0 other) (absent_peer number es front tail rest)

-- one more number, and the entry of its peer behind those of the earlier ones
pub one_more_peer : (es : List (ℕ × PeerEntry)) (numbers : List ℕ) (i number : ℕ) (entry : PeerEntry) → i < length numbers → number ≡ get_or numbers i number → map (λ e. peer_settings e.0 e.1) es ≡ map plain_peer (take i numbers) → peer_settings number entry ≡ plain_peer number → map (λ e. peer_settings e.0 e.1) (es ++ (number, entry) ∷ []) ≡ map plain_peer (take (i + 1) numbers)
one_more_peer es numbers i number entry within is so_far new =
    map-append (λ (e : ℕ × PeerEntry). peer_settings e.0 e.1) es ((number, entry) ∷ [])
    ∙ ap (λ (l : List PeerSettings). l ++ peer_settings number entry ∷ []) so_far
    ∙ ap (λ (p : PeerSettings). map plain_peer (take i numbers) ++ p ∷ []) (new ∙ ap plain_peer is)
    ∙ sym (map-append plain_peer (take i numbers) (get_or numbers i number ∷ []))
    ∙ ap (map plain_peer) (sym (rw add-one (take-suc numbers i number within)))
