-- A world in which nothing has happened.
use Rattle.std.proofs.Common.{◌≡◌, ◌≢◌, ℕ, zero, suc, ◌<◌, ◌≤◌, ◌^◌, ⊎_elim, List, [], ◌∷◌, Some, None, length, position, refl, ap, sym, subst, ◌∙◌, arith}
use Rattle.std.specs.List.{slice_get}
use Rattle.std.proofs.lemmas.List.{length-replicate}
use Rattle.std.proofs.lemmas.Option.{same_Some, none-some, get_or_from_slice_get}
use Rattle.std.proofs.lemmas.Slice.Zip.{AllZip-long}
use Rattle.std.proofs.lemmas.Bool.{cases_eq, cases_lt}
use Rattle.lease.specs.declared.link_place.LinkPlace.{LinkPlace}
use Rattle.link_pool.specs.declared.place.{Place.Place, Link.Link}
use Rattle.link_pool.specs.Pool.{place_at}
use Rattle.ini_config.specs.Node.{NodeSettings, DatabaseSettings}
use Rattle.ini_config.specs.Group.{IsGroup, PeersDiffer}
use Rattle.node_core.specs.View.{NodeView, IsFresh, pool_sizes}
use Rattle.world.specs.World.{is_on_server, all_databases, Start, HadBoot, first_starts, nothing_yet}
use Rattle.world.specs.WorldRun.{AreFresh}
use Rattle.world.specs.Facts.{OneServer, Facts, AreApart, AreInRange}
use Rattle.world.proofs.Lists.{before_end, read_map}
use Rattle.world.proofs.Restarting.{nobody_there, made_places}

-- each node of a group that was just made has its settings
fresh_at : (group : List NodeSettings) (nodes : List NodeView) → AreFresh group nodes → (i : ℕ) (v : NodeView)
    → slice_get nodes i ≡ Some v
    → (s : NodeSettings) × (slice_get group i ≡ Some s) × IsFresh s 0 v
fresh_at [] [] fresh i v at = absurd (none-some v at)
fresh_at [] (x ∷ xs) fresh i v at = absurd fresh
fresh_at (s ∷ ss) [] fresh i v at = absurd fresh
fresh_at (s ∷ ss) (x ∷ xs) fresh zero v at =
    (s, refl, subst (IsFresh s 0) (same_Some x v at) fresh.0)
fresh_at (s ∷ ss) (x ∷ xs) fresh (suc i) v at = fresh_at ss xs fresh.1 i v at

-- two nodes have two numbers
differ_below : (group : List NodeSettings) → PeersDiffer group → (i j : ℕ) (s t : NodeSettings) → i < j
    → slice_get group i ≡ Some s → slice_get group j ≡ Some t → s.peer_id ≢ t.peer_id
differ_below group differ i j s t below at_i at_j e =
    differ i j s below (before_end group j t at_j)
    (ap (λ (x : NodeSettings). x.peer_id) (get_or_from_slice_get group i s s at_i) ∙ e
    ∙ ap (λ (x : NodeSettings). x.peer_id) (sym (get_or_from_slice_get group j t s at_j)))

pub one_number : (group : List NodeSettings) → PeersDiffer group → (i j : ℕ) (s t : NodeSettings)
    → slice_get group i ≡ Some s → slice_get group j ≡ Some t → s.peer_id ≡ t.peer_id → i ≡ j
one_number group differ i j s t at_i at_j e = ⊎_elim (λ same. same)
    (λ apart. ⊎_elim (λ below. absurd (differ_below group differ i j s t below at_i at_j e))
    (λ above. absurd (differ_below group differ j i t s (omega (arith, above, apart)) at_j at_i (sym e)))
    (cases_lt i j))
    (cases_eq i j)

pub fresh_apart : (group : List NodeSettings) (nodes : List NodeView) → PeersDiffer group → AreFresh group nodes
    → AreApart nodes
fresh_apart group nodes differ fresh i j a b at_i at_j same =
    let x = fresh_at group nodes fresh i a at_i in
    let y = fresh_at group nodes fresh j b at_j in
    one_number group differ i j x.0 y.0 x.1 y.1
    (sym (ap (λ (v : NodeView). v.me) x.2.fields) ∙ same ∙ ap (λ (v : NodeView). v.me) y.2.fields)

-- a database of a node has one server
pub one_server : (group : List NodeSettings) → PeersDiffer group → OneServer group
one_server group differ node database a b x y =
    let place = one_number group differ x.place y.place x.settings y.settings x.there y.there (x.number ∙ sym y.number) in
    let settings : x.settings ≡ y.settings = same_Some x.settings y.settings
    (sym x.there ∙ ap (slice_get group) place ∙ y.there) in
    let entry : x.entry ≡ y.entry = same_Some x.entry y.entry
    (sym x.at ∙ ap (λ (s : NodeSettings). slice_get s.databases database) settings ∙ y.at) in
    same_Some a b (sym x.is ∙ ap (λ (d : DatabaseSettings). position (is_on_server d) (all_databases group)) entry ∙ y.is)

-- what is true of a world in which nothing has happened
pub nothing_facts : (group : List NodeSettings) (nodes : List NodeView) → IsGroup group
    → AreInRange group
    → AreFresh group nodes → Facts (nothing_yet group nodes)
nothing_facts group nodes is ranges fresh = record {
  servers = record {
    one = one_server group is.distinct;
    clients = λ i face at. absurd (none-some face at);
    asked = λ i connection at. absurd (none-some connection at);
  };
  nodes = record {
    once = fresh_apart group nodes is.distinct fresh;
    ranges = λ i v at.
        let x = fresh_at group nodes fresh i v at in
        let r = ranges i x.0 x.1 in (
          subst (λ (n : ℕ). n < 2 ^ 14) (sym (ap (λ (z : NodeView). z.me) x.2.fields)) r.0,
          subst (λ (n : ℕ). n ≤ 2 ^ 16) (sym (ap (λ (z : NodeView). length z.clients) x.2.fields
              ∙ length-replicate x.0.max_client_conn None)) r.1,
        );
    long = AllZip-long (λ (settings : NodeSettings). IsFresh settings 0) group nodes fresh;
    settings = λ i v at.
        let x = fresh_at group nodes fresh i v at in (
          x.0,
          x.1,
          sym (ap (λ (z : NodeView). z.me) x.2.fields),
          sym (ap (λ (z : NodeView). z.pools) x.2.fields),
        );
  };
  issues = record {
    booted = λ i v at.
        let x = fresh_at group nodes fresh i v at in
        subst (λ (b : ℕ). HadBoot (first_starts group) v.me b) (sym (ap (λ (z : NodeView). z.boot) x.2.fields))
        (subst (λ (m : ℕ). HadBoot (first_starts group) m 0) (sym (ap (λ (z : NodeView). z.me) x.2.fields))
        (record { place = i; there = read_map {Y = Start} (λ (s : NodeSettings). record { node = s.peer_id; boot = 0 }) group i x.0 x.1 }));
    each = λ i issue at. absurd (none-some issue at);
    once = λ i j a b at_i at_j same. absurd (none-some a at_i);
  };
  clients = record {
    each = λ i face at. absurd (none-some face at);
    labels = λ i j a b at_i at_j same. absurd (none-some a at_i);
    passes = λ i j a b at_i at_j node number. absurd (none-some a at_i);
  };
  slots = λ i view at. record {
    fits = λ j face at_j is_in. absurd (none-some face at_j);
    filled = λ slot client live.
        let x = fresh_at group nodes fresh i view at in
        absurd (nobody_there x.0.max_client_conn slot client
        (ap (λ (z : NodeView). slice_get z.clients slot) (sym x.2.fields) ∙ live));
  };
  processes = record {
    keys = λ i j a b at_i at_j server key. absurd (none-some a at_i);
    links = λ i j a b link at_i at_j of_a of_b. absurd (none-some a at_i);
  };
  numbers = record {
    passes = λ i place face view at node. absurd (none-some face at);
    incarnations = λ i place face view at node. absurd (none-some face at);
    links = λ i place process link view at of node. absurd (none-some process at);
    tickets = λ i place connection view at node. absurd (none-some connection at);
  };
  links = λ i view at_i at link at_link. absurd (no_link i view at_i at link at_link);
  connections = record {
    each = λ i connection at. absurd (none-some connection at);
    tickets = λ i j a b at_i at_j peer number. absurd (none-some a at_i);
    apart = λ i j a b at_i at_j same. absurd (none-some a at_i);
  };
  loads = record {
    own = λ i backend at. absurd (none-some backend at);
    outstanding = λ i place n session lease backend at hand at_b. absurd (none-some session at);
    rest = λ i view at_i at link j backend at_link free at_j of. absurd (none-some backend at_j);
  };
  forwards = record {
    each = λ i forward at. absurd (none-some forward at);
    one_flight = λ i j a b at_i at_j same. absurd (none-some a at_i);
    one_origin = λ i j a b at_i at_j same. absurd (none-some a at_i);
    one_onward = λ i j n a b at_i at_j of_a of_b. absurd (none-some a at_i);
  };
  safe = record {
    struck = λ i struck at. absurd (none-some struck at);
    taken = (
      λ i taken at. absurd (none-some taken at),
      λ i j a b at_i at_j same. absurd (none-some a at_i),
    );
    earned = λ i connection at. absurd (none-some connection at);
  };
}
  where
    no_link : (i : ℕ) (view : NodeView) → slice_get nodes i ≡ Some view → (at : LinkPlace) (link : Link)
        → place_at view.links at ≢ Some (Place.Link link)
    no_link i view at_i at link e =
        let x = fresh_at group nodes fresh i view at_i in
        made_places (pool_sizes x.0) at.database at.index link
        (ap (λ (z : NodeView). place_at z.links at) (sym x.2.fields) ∙ e)
