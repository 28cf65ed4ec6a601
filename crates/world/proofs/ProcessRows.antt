-- Server processes as they are kept, and as a world has them.
use Rattle.std.proofs.Common.{◌≡◌, ℕ, suc, ◌-◌, ◌≤◌, List, ◌∷◌, Option, Some, map, replicate, ap, sym, ◌∙◌, arith}
use Rattle.std.proofs.Math.ListN.{set}
use Rattle.std.specs.List.{slice_get}
use Rattle.std.specs.Option.{option_map}
use Rattle.std.proofs.lemmas.Option.{same_Some}
use Rattle.world.specs.declared.{backends.Process.Process, backends.ProcessKey.ProcessKey, table.Found.Found}
use Rattle.world.specs.Table.{IsFound}
use Rattle.world.specs.Wire.{wire_of, backend_of}
use Rattle.world.specs.World.{Backend, IsBackend}
use Rattle.world.proofs.Lists.{read_map, from_map, map_write}

-- what no two rows share
abbrev pub key_of : Process → ProcessKey
key_of p = record { server = p.server; key = p.key }

-- a row with a key is the server process with that key
pub process_there : (rows : List Process) (backends : List Backend) (server : ℕ) (key : List ℕ) (place : ℕ) (p : Process)
    → map backend_of rows ≡ backends → slice_get rows place ≡ Some p
    → key_of p ≡ record { server = server; key = key }
    → (b : Backend) × IsBackend backends server key place b
process_there rows backends server key place p is there same = (
  backend_of p,
  record {
    there = ap (λ (bs : List Backend). slice_get bs place) (sym is) ∙ read_map backend_of rows place p there;
    of = ap (λ (k : ProcessKey). k.server) same;
    by = ap (λ (k : ProcessKey). k.key) same;
  },
)

-- each server process has its row, so what finds rows finds it
pub process_only : (rows : List Process) (backends : List Backend) (server : ℕ) (key : List ℕ) (found : Option (Found Process))
    → map backend_of rows ≡ backends
    → ((place : ℕ) (p : Process) → slice_get rows place ≡ Some p → key_of p ≡ record { server = server; key = key }
    → found ≡ Some record { place = place; row = p })
    → (place : ℕ) (b : Backend) → IsBackend backends server key place b
    → option_map (λ (f : Found Process). f.place) found ≡ Some place
process_only rows backends server key found is only place b at =
    let p = from_map backend_of rows place b (ap (λ (bs : List Backend). slice_get bs place) is ∙ at.there) in
    let key_is : key_of p.0 ≡ record { server = server; key = key } =
    ap (λ (x : Backend). record { server = x.server; key = x.key }) p.2 ∙ (λ i. record { server = at.of i; key = at.by i }) in
    ap (option_map (λ (f : Found Process). f.place)) (only place p.0 p.1 key_is)

-- the row of a server process, with the key of another that has its server and key
pub process_same : (rows : List Process) (backends : List Backend) (at place : ℕ) (old p : Process) → map backend_of rows ≡ backends
    → at ≡ place → slice_get backends place ≡ Some (backend_of old) → old.server ≡ p.server → old.key ≡ p.key
    → IsFound key_of rows at (key_of p)
process_same rows backends at place old p is here there server key =
    let x = from_map backend_of rows at (backend_of old) (ap (λ (bs : List Backend). slice_get bs at) is ∙ ap (slice_get backends) here ∙ there) in record {
      row = x.0;
      there = x.1;
      of = ap (λ (b : Backend). record { server = b.server; key = b.key }) x.2 ∙ (λ i. record { server = server i; key = key i });
    }

-- a row is written
pub process_written : (rows news : List Process) (backends : List Backend) (at place : ℕ) (p : Process) → map backend_of rows ≡ backends
    → at ≡ place → news ≡ set rows at p → map backend_of news ≡ set backends place (backend_of p)
process_written rows news backends at place p is here written =
    ap (map backend_of) written ∙ map_write backend_of rows at p
    ∙ ap (λ (bs : List Backend). set bs at (backend_of p)) is
    ∙ ap (λ (n : ℕ). set backends n (backend_of p)) here

-- the first request of a wire is run
pub process_takes : (olds news : List Backend) (place waiting label : ℕ) (p : Process)
    → Some (backend_of p) ≡ slice_get olds place → p.holder ≡ Some label → (1 ≤ p.waiting) × (waiting ≡ p.waiting - 1)
    → news ≡ set olds place (backend_of (record p { waiting = waiting; running = Some label }))
    → (b : Backend) → slice_get olds place ≡ Some b
    → (x : ℕ) × (rest : List ℕ) × (b.wire ≡ x ∷ rest)
    × (news ≡ set olds place (record b { wire = rest; running = Some x }))
process_takes olds news place waiting label p was holder counted written b at =
    let same : backend_of p ≡ b = same_Some (backend_of p) b (was ∙ at) in
    let count : p.waiting ≡ suc waiting = omega (arith, counted.0, counted.1) in
    let wire : wire_of p.waiting p.holder ≡ label ∷ replicate waiting label =
    ap (wire_of p.waiting) holder ∙ ap (λ (n : ℕ). replicate n label) count in (
      label,
      replicate waiting label,
      ap (λ (x : Backend). x.wire) (sym same) ∙ wire,
      written
          ∙ ap (λ (w : List ℕ). set olds place (record (backend_of p) { wire = w; running = Some label })) (ap (wire_of waiting) holder)
          ∙ ap (λ (x : Backend). set olds place (record x { wire = replicate waiting label; running = Some label })) same,
    )
