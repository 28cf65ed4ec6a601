-- The first start of each node of a group.
use Rattle.std.proofs.Common.{◌≡◌, ℕ, zero, suc, ◌+◌, ◌<◌, ◌≤◌, ◌^◌, List, [], ◌∷◌, ◌++◌, Some, length, take, add-one, refl, ap, sym, subst, ◌∙◌, ⊎_elim, arith}
use Rattle.std.specs.List.{slice_get}
use Rattle.std.proofs.Math.Seq.{take-suc}
use Rattle.std.proofs.lemmas.List.{take_all}
use Rattle.std.proofs.lemmas.Option.{none-some, get_or_from_slice_get}
use Rattle.ini_config.specs.Node.{NodeSettings}
use Rattle.ini_config.specs.Group.{IsGroup, PeersDiffer}
use Rattle.world.specs.World.{World, Start, Issue, Session, Backend, Arrival, Connection, Forward, Interrupt, Taken, HadBoot, first_starts, nothing_yet}
use Rattle.world.specs.WorldRun.{AreFresh}
use Rattle.world.specs.Facts.{Facts, AreInRange}
use Rattle.world.proofs.Lists.{before_end, from_map, map_added, added_cases}
use Rattle.world.proofs.Starting.{one_number, nothing_facts}

-- the first i + 1 of a list
first_more : (group : List NodeSettings) (i : ℕ) (s : NodeSettings) → slice_get group i ≡ Some s
    → take (i + 1) group ≡ take i group ++ s ∷ []
first_more group i s at =
    rw (add-one, take-suc group i s (before_end group i s at), get_or_from_slice_get group i s s at) refl

-- what is among the first i is there before place i
first_there : (group : List NodeSettings) (i j : ℕ) (s : NodeSettings) → slice_get (take i group) j ≡ Some s
    → (j < i) × (slice_get group j ≡ Some s)
first_there group zero j s at = absurd (none-some s at)
first_there [] (suc i) j s at = absurd (none-some s at)
first_there (x ∷ xs) (suc i) zero s at = (omega arith, at)
first_there (x ∷ xs) (suc i) (suc j) s at =
    let is = first_there xs i j s at in
    let below = is.0 in (omega (arith, below), is.1)

-- the next node never had its first boot
pub never_had : (group : List NodeSettings) (i : ℕ) (starts : List Start) (s : NodeSettings) → PeersDiffer group
    → slice_get group i ≡ Some s → starts ≡ first_starts (take i group) → HadBoot starts s.peer_id 0 → ⊥
never_had group i starts s differ at are had =
    let x = from_map (λ (t : NodeSettings). record { node = t.peer_id; boot = 0 }) (take i group) had.place
    record { node = s.peer_id; boot = 0 } (ap (λ (l : List Start). slice_get l had.place) (sym are) ∙ had.there) in
    let is = first_there group i had.place x.0 x.1 in
    let same = one_number group differ had.place i x.0 s is.1 at (ap (λ (t : Start). t.node) x.2) in
    let below = is.0 in
    absurd (omega (arith, below, same))

-- its first start comes to those before it
pub start_more : (group : List NodeSettings) (i : ℕ) (starts : List Start) (s : NodeSettings) (new : Start)
    → slice_get group i ≡ Some s → new ≡ record { node = s.peer_id; boot = 0 } → starts ≡ first_starts (take i group)
    → starts ++ new ∷ [] ≡ first_starts (take (i + 1) group)
start_more group i starts s new at is are =
    ap (λ (l : List Start). l ++ new ∷ []) are
    ∙ ap (λ (x : Start). first_starts (take i group) ++ x ∷ []) is
    ∙ sym (map_added (λ (t : NodeSettings). record { node = t.peer_id; boot = 0 }) (take i group) s)
    ∙ sym (ap first_starts (first_more group i s at))

-- all nodes were started
pub start_all : (group : List NodeSettings) (i : ℕ) (starts : List Start) → length group ≤ i
    → starts ≡ first_starts (take i group) → starts ≡ first_starts group
start_all group i starts past are = are ∙ ap first_starts (take_all i group past)

-- no node's numbers are out of range before the first
pub range_none : (group : List NodeSettings) → AreInRange (take 0 group)
range_none group j s at = absurd (none-some s at)

-- the next node's numbers are in range
pub range_more : (group : List NodeSettings) (i : ℕ) (s : NodeSettings) → slice_get group i ≡ Some s
    → s.peer_id < 2 ^ 14 → s.max_client_conn ≤ 2 ^ 16 → AreInRange (take i group) → AreInRange (take (i + 1) group)
range_more group i s at number slots are = rw (first_more group i s at) (λ j t there. ⊎_elim
    (λ was. are j t was)
    (λ last. subst (λ (x : NodeSettings). (x.peer_id < 2 ^ 14) × (x.max_client_conn ≤ 2 ^ 16)) (sym last.1) (number, slots))
    (added_cases (take i group) s j t there))

-- the numbers of all are
pub range_all : (group : List NodeSettings) (i : ℕ) → length group ≤ i → AreInRange (take i group) → AreInRange group
range_all group i past are = subst AreInRange (take_all i group past) are

-- a world in which nothing has happened is known by its parts
is_nothing : (w : World) → w.starts ≡ first_starts w.group → w.issues ≡ [] → w.sessions ≡ [] → w.backends ≡ []
    → w.flights ≡ [] → w.arrivals ≡ [] → w.connections ≡ [] → w.forwards ≡ [] → w.interrupts ≡ [] → w.taken ≡ []
    → w ≡ nothing_yet w.group w.nodes
is_nothing w starts issues sessions backends flights arrivals connections forwards interrupts taken =
    ap (λ (l : List Start). record w { starts = l }) starts
    ∙ ap (λ (l : List Issue). record w { starts = first_starts w.group; issues = l }) issues
    ∙ ap (λ (l : List Session). record (nothing_yet w.group w.nodes) {
      sessions = l;
      backends = w.backends;
      flights = w.flights;
      arrivals = w.arrivals;
      connections = w.connections;
      forwards = w.forwards;
      interrupts = w.interrupts;
      taken = w.taken;
    }) sessions
    ∙ ap (λ (l : List Backend). record (nothing_yet w.group w.nodes) {
      backends = l;
      flights = w.flights;
      arrivals = w.arrivals;
      connections = w.connections;
      forwards = w.forwards;
      interrupts = w.interrupts;
      taken = w.taken;
    }) backends
    ∙ ap (λ (l : List (List ℕ)). record (nothing_yet w.group w.nodes) {
      flights = l;
      arrivals = w.arrivals;
      connections = w.connections;
      forwards = w.forwards;
      interrupts = w.interrupts;
      taken = w.taken;
    }) flights
    ∙ ap (λ (l : List Arrival). record (nothing_yet w.group w.nodes) {
      arrivals = l;
      connections = w.connections;
      forwards = w.forwards;
      interrupts = w.interrupts;
      taken = w.taken;
    }) arrivals
    ∙ ap (λ (l : List Connection). record (nothing_yet w.group w.nodes) {
      connections = l;
      forwards = w.forwards;
      interrupts = w.interrupts;
      taken = w.taken;
    }) connections
    ∙ ap (λ (l : List Forward). record (nothing_yet w.group w.nodes) {
      forwards = l;
      interrupts = w.interrupts;
      taken = w.taken;
    }) forwards
    ∙ ap (λ (l : List Interrupt). record (nothing_yet w.group w.nodes) { interrupts = l; taken = w.taken }) interrupts
    ∙ ap (λ (l : List Taken). record (nothing_yet w.group w.nodes) { taken = l }) taken

-- so what is true of every world is true of it
pub new_facts : (w : World) → IsGroup w.group → AreInRange w.group → AreFresh w.group w.nodes
    → w.starts ≡ first_starts w.group → w.issues ≡ [] → w.sessions ≡ [] → w.backends ≡ [] → w.flights ≡ []
    → w.arrivals ≡ [] → w.connections ≡ [] → w.forwards ≡ [] → w.interrupts ≡ [] → w.taken ≡ [] → Facts w
new_facts w is ranges fresh starts issues sessions backends flights arrivals connections forwards interrupts taken =
    subst Facts
    (sym (is_nothing w starts issues sessions backends flights arrivals connections forwards interrupts taken))
    (nothing_facts w.group w.nodes is ranges fresh)
