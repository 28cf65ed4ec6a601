-- The server of a database: how its number is found.
use Rattle.std.proofs.Common.{◌≡◌, ℕ, ◌==◌, ◌&&◌, List, Option, Some, None, position, refl, ap, sym, subst, ◌∙◌}
use Rattle.std.proofs.Math.ListN.{get_or}
use Rattle.std.specs.List.{slice_get}
use Rattle.std.specs.Option.{IfSome, IfNone}
use Rattle.std.specs.Str.{bytes_eq}
use Rattle.std.proofs.lemmas.Bool.{eqb-true, eq-eqb}
use Rattle.std.proofs.lemmas.List.Quantifiers.{position-Some}
use Rattle.std.proofs.lemmas.Option.{same_Some, none-some, slice_get_read}
use Rattle.ini_config.specs.Node.{DatabaseSettings, NodeSettings}
use Rattle.ini_config.specs.Group.{IsGroup}
use Rattle.world.specs.World.{all_databases, IsServer}
use Rattle.world.proofs.ServerNumbers.{first_there, its_server}
use Rattle.world.proofs.Starting.{one_number}

-- the settings of a node were found at a place
pub record AreSettings (group : List NodeSettings) (node place : ℕ) (s : NodeSettings) : Type 0 where
  pub there : slice_get group place ≡ Some s
  pub number : s.peer_id ≡ node

pub settings_found : (group : List NodeSettings) (node place : ℕ) (s : NodeSettings)
    → Some place ≡ position (λ (x : NodeSettings). x.peer_id == node) group → s ≡ get_or group place s
    → AreSettings group node place s
settings_found group node place s found is =
    let at = position-Some (λ (x : NodeSettings). x.peer_id == node) group place s (sym found) in record {
      there = slice_get_read group _ place s refl at.0 is;
      number = eqb-true s.peer_id node (ap (λ (x : NodeSettings). x.peer_id == node) is ∙ at.1);
    }

-- where no node has the number, there is no server
pub no_settings : (group nodes : List NodeSettings) (node database : ℕ) → nodes ≡ group
    → None ≡ position (λ (x : NodeSettings). x.peer_id == node) nodes
    → (server : ℕ) → IsServer group node database server → ⊥
no_settings group nodes node database same none server is =
    let n = first_there (λ (x : NodeSettings). x.peer_id == node) group is.place is.settings is.there
    (eq-eqb is.settings.peer_id node is.number) in
    none-some n.0 (none ∙ ap (position (λ (x : NodeSettings). x.peer_id == node)) same ∙ n.1)

-- nor where the node has no such database
pub no_database : (group nodes : List NodeSettings) (node database place : ℕ) (s : NodeSettings) → nodes ≡ group
    → IsGroup group → AreSettings nodes node place s → None ≡ slice_get s.databases database
    → (server : ℕ) → IsServer group node database server → ⊥
no_database group nodes node database place s same are its none server is =
    let mine = subst (λ (g : List NodeSettings). AreSettings g node place s) same its in
    let at = one_number group are.distinct is.place place is.settings s is.there mine.there (is.number ∙ sym mine.number) in
    let settings = same_Some is.settings s (sym is.there ∙ ap (slice_get group) at ∙ mine.there) in
    none-some is.entry (none ∙ ap (λ (x : NodeSettings). slice_get x.databases database) (sym settings) ∙ is.at)

-- the number that a search found is the server's
pub server_found : (group nodes : List NodeSettings) (node database place : ℕ) (s : NodeSettings) (e : DatabaseSettings) (found : Option ℕ)
    → nodes ≡ group → AreSettings nodes node place s → Some e ≡ slice_get s.databases database
    → found ≡ position (λ (d : DatabaseSettings). bytes_eq e.host d.host && (e.port == d.port)) (all_databases nodes)
    → IfSome found (λ server. IsServer group node database server)
server_found group nodes node database place s e None same its at is = tt
server_found group nodes node database place s e (Some server) same its at is =
    subst (λ (g : List NodeSettings). IsServer g node database server) same (record {
      place = place;
      settings = s;
      entry = e;
      there = its.there;
      number = its.number;
      at = sym at;
      is = sym is;
    })

-- and it finds one
pub server_there : (P : Type 0) (nodes : List NodeSettings) (node database place : ℕ) (s : NodeSettings) (e : DatabaseSettings) (found : Option ℕ)
    → AreSettings nodes node place s → Some e ≡ slice_get s.databases database
    → found ≡ position (λ (d : DatabaseSettings). bytes_eq e.host d.host && (e.port == d.port)) (all_databases nodes)
    → IfNone found P
server_there P nodes node database place s e (Some server) its at is = tt
server_there P nodes node database place s e None its at is =
    let server = its_server nodes place database s e its.there (sym at) in
    absurd (none-some server.0 (is ∙ server.1))

-- whatever was returned
pub if_none : {X P : Type 0} (found : Option X) → P → IfNone found P
if_none None p = p
if_none (Some x) p = tt
