-- What the events of clients need of the facts: the node of each session, that a client with
-- nothing in hand never gets the reply `Holding`, and the server process of a link that it gets.
use Rattle.std.proofs.Common.{◌≡◌, ℕ, ◌+◌, ⊎_elim, true, false, List, [], ◌∷◌, Some, length, refl, ap, sym, subst, ◌∙◌, arith}
use Rattle.std.proofs.Math.ListN.{set}
use Rattle.std.specs.List.{slice_get}
use Rattle.lease.specs.declared.{link_record.LinkRecord.LinkRecord, pass.PassRecord.PassRecord}
use Rattle.link_pool.specs.declared.place.{Place.Place, Link.Link, LinkState.LinkState}
use Rattle.link_pool.specs.declared.replies.AcquireReply.{AcquireReply}
use Rattle.link_pool.specs.Pool.{PoolView, place_at, in_state, lend, unqueued}
use Rattle.link_pool.proofs.Changes.{place_here}
use Rattle.node_core.specs.declared.exchange.{LeaveReply.LeaveReply, Exchange.Exchange}
use Rattle.node_core.specs.View.{NodeView}
use Rattle.pg_ids.specs.AnyKey.{slot_of}
use Rattle.lease.specs.declared.permit.PermitRecord.{PermitRecord}
use Rattle.world.specs.declared.event.Event.{Event}
use Rattle.world.specs.declared.reply.{Reply.Reply, Took.Took}
use Rattle.world.specs.World.{World, Backend, Hand, Session, IsBackend, IsNode, IsServer, IsSession}
use Rattle.world.specs.Admissible.{MayGoUp}
use Rattle.world.specs.WorldRun.{WorldStep}
use Rattle.world.specs.Changes.{and_then, Steps, holding, with_nodes, with_session}
use Rattle.world.specs.LinkEvents.{IsLeased, Opened, GoesUp, with_new}
use Rattle.world.specs.Leased.{HasProcess}
use Rattle.world.specs.Facts.{Process, process_of, face_of, IsIn, running_count, is_with_client, load_of, Facts, AreApart, AreWhole}
use Rattle.world.proofs.Lists.{from_map, set_here}
use Rattle.world.proofs.Holding.{link_fits}
use Rattle.world.proofs.LinkSteps.{unqueued_places}
use Rattle.world.proofs.Asking.{at_rest}
use Rattle.world.proofs.Possible.{holds_nothing}
use Rattle.world.proofs.Cores.{one_node}

differ : true ≡ false → ⊥
differ h = cc

-- a client with nothing in hand leaves
pub never_stays : (w : World) → Facts w → (p : ℕ) (s : Session) (nodes : List NodeView) (again : PassRecord)
    → slice_get w.sessions p ≡ Some s → s.stays ≡ true → s.hand ≡ Hand.Empty
    → Steps s.node (Exchange.Leave s.pass (LeaveReply.Holding again)) w.nodes nodes → ⊥
never_stays w f p s nodes again there stays empty steps =
    let leaving = steps.step.0 in
    let is_in : IsIn steps.view (face_of s) = record {
      stays = stays;
      node = sym steps.is.named;
      incarnation = leaving.1.own.1;
    } in
    differ (sym leaving.2 ∙ holds_nothing w f p steps.place s steps.view there empty steps.is.there is_in)

-- it gets an answer when it asks for a link
pub never_holds : (w : World) → Facts w → (p : ℕ) (s : Session) (nodes : List NodeView)
    → slice_get w.sessions p ≡ Some s → s.stays ≡ true → s.hand ≡ Hand.Empty
    → Steps s.node (Exchange.Acquire s.pass AcquireReply.Holding) w.nodes nodes → ⊥
never_holds w f p s nodes there stays empty steps =
    let is_in : IsIn steps.view (face_of s) = record {
      stays = stays;
      node = sym steps.is.named;
      incarnation = steps.step.is.own.1;
    } in
    differ (sym steps.step.step.0.0
    ∙ holds_nothing w f p steps.place s steps.view there empty steps.is.there is_in)

-- a link that stood in a pool, and was lent
lent_process : (w : World) → Facts w → AreWhole w.nodes → (node slot : ℕ) (lease : LinkRecord) (nodes : List NodeView)
    (q : ℕ) (v n : NodeView) (link : Link) (x : PoolView) → IsNode w.nodes node q v → nodes ≡ set w.nodes q n
    → n.me ≡ v.me → place_at v.links lease.at ≡ Some (Place.Link link) → link.details ≡ lease
    → place_at x lease.at ≡ Some (Place.Link link) → n.links ≡ lend x lease.at slot link
    → HasProcess (with_nodes nodes w) lease
lent_process w f whole node slot lease nodes q v n link x is all same was says here after =
    let h = f.links q v is.there lease.at link was in
    let b = from_map process_of w.backends h.0 h.1.process h.1.there in
    let fits = link_fits v.links lease.at link (whole q v is.there).places was in
    let peer : v.me ≡ lease.peer = sym (whole q v is.there).node.own.1
    ∙ sym (ap (λ (l : LinkRecord). l.peer) fits.says) ∙ ap (λ (l : LinkRecord). l.peer) says in
    record {
      place = q;
      view = n;
      is = record {
        there = ap (λ (ns : List NodeView). slice_get ns q) all ∙ set_here w.nodes q v n is.there;
        named = same ∙ peer;
      };
      link = in_state (LinkState.Held slot) link;
      there = ap (λ (u : PoolView). place_at u lease.at) after
          ∙ place_here x lease.at (Place.Link link) (Place.Link (in_state (LinkState.Held slot) link)) _ here;
      at = h.0;
      backend = b.0;
      leased = record {
        there = b.1;
        link = ap (λ (z : Process). z.link) b.2 ∙ h.1.of ∙ ap Some says;
      };
      key = ap (λ (z : Process). z.key) b.2 ∙ h.1.key;
      server = subst (λ (m : ℕ). IsServer w.group m lease.at.database b.0.server) peer
          (subst (λ (l : LinkRecord). IsServer w.group v.me l.at.database b.0.server) says
          (subst (λ (z : Process). IsServer w.group v.me link.details.at.database z.server) (sym b.2)
          h.1.server));
    }

-- the server process of a link that a client gets
pub got_process : (w : World) → Facts w → AreWhole w.nodes → (s : Session) (lease : LinkRecord) (nodes : List NodeView)
    → Steps s.node (Exchange.Acquire s.pass (AcquireReply.Got lease)) w.nodes nodes
    → HasProcess (with_nodes nodes w) lease
got_process w f whole s lease nodes steps =
    let slot = slot_of s.pass.key in
    let v = steps.view in
    let same = ap (λ (z : NodeView). z.me) steps.step.step.1 in
    ⊎_elim
    (λ back. lent_process w f whole s.node slot lease nodes steps.place v steps.next back.link v.links
    steps.is steps.after same back.was back.says back.was back.after)
    (λ idle. lent_process w f whole s.node slot lease nodes steps.place v steps.next idle.1.link
    (unqueued v.links slot) steps.is steps.after same idle.1.was idle.1.says
    (unqueued_places v.links slot lease.at ∙ idle.1.was) idle.1.after)
    steps.step.step.0

-- which has nothing to do
pub got_rest : (w : World) → Facts w → (s : Session) (lease : LinkRecord) (nodes : List NodeView) (at : ℕ) (b : Backend)
    → Steps s.node (Exchange.Acquire s.pass (AcquireReply.Got lease)) w.nodes nodes
    → IsLeased w.backends lease at b → b.wire ≡ []
got_rest w f s lease nodes at b steps leased = no_wire b.wire (running_count b.running) b.readies none
  where
    none : load_of b ≡ 0
    none = ⊎_elim
        (λ back. at_rest w steps.place at steps.view lease back.link b f steps.is.there back.was
        (ap is_with_client back.quarantined) back.says leased.there leased.link)
        (λ idle. at_rest w steps.place at steps.view lease idle.1.link b f steps.is.there idle.1.was
        (ap is_with_client idle.1.idle) idle.1.says leased.there leased.link)
        steps.step.step.0

    no_wire : (wire : List ℕ) (n m : ℕ) → length wire + n + m ≡ 0 → wire ≡ []
    no_wire [] n m h = refl
    no_wire (x ∷ xs) n m h = absurd (omega (arith, h))

-- the link at a lease's place has the key of its server process
pub key_there : (w : World) (lease : LinkRecord) (has : HasProcess w lease) (p : ℕ) (v : NodeView) → AreApart w.nodes
    → IsNode w.nodes lease.peer p v → place_at v.links lease.at ≡ Some (Place.Link has.link)
key_there w lease has p v apart is =
    let one : has.view ≡ v = one_node w.nodes lease.peer has.place p has.view v apart has.is is in
    subst (λ (z : NodeView). place_at z.links lease.at ≡ Some (Place.Link has.link)) one has.there

-- so a search for server and key finds it
pub process_there : (w : World) (lease : LinkRecord) (has : HasProcess w lease) (server : ℕ) (key : List ℕ)
    → key ≡ has.link.key → has.backend.server ≡ server
    → IsBackend w.backends server key has.at has.backend
process_there w lease has server key same of = record {
  there = has.leased.there;
  of = of;
  by = has.key ∙ sym same;
}

-- a client has opened a link: what the node said of it
pub opens : (w new : World) (label : ℕ) (key : List ℕ) (said : Reply) (p : ℕ) (s : Session) (permit : PermitRecord)
    (server : ℕ) (nodes : List NodeView) (given : Opened) → IsSession w.sessions label p s → s.stays ≡ true
    → s.hand ≡ Hand.Permit permit → IsServer w.group s.node s.database server
    → ((at : ℕ) (b : Backend) → IsBackend w.backends server key at b → ⊥)
    → Steps s.node (Exchange.Up permit key given) w.nodes nodes
    → GoesUp p s server key given said (with_nodes nodes w) new
    → WorldStep (Event.Up label key) (Took.Done said) w new
opens w new label key said p s permit server nodes given is stays hand at fresh step after = (
  record {
    place = p;
    session = s;
    is = is;
    stays = stays;
    permit = permit;
    hand = hand;
    server = server;
    at = at;
    new = fresh;
  },
  record {
    place = p;
    session = s;
    permit = permit;
    server = server;
    nodes = nodes;
    given = given;
    hand = hand;
    at = at;
    step = record { is = is; step = step };
    after = after;
  },
)

-- a client has no other server than the one of its database
pub same_server : (w : World) (label : ℕ) (key : List ℕ) (p : ℕ) (s : Session) (may : MayGoUp w label key)
    → (s ≡ may.session) → IsServer w.group s.node s.database may.server
same_server w label key p s may same =
    subst (λ (z : Session). IsServer w.group z.node z.database may.server) (sym same) may.at

-- the world with one more server process, and something else in a client's hand
pub one_more : (w : World) (nodes : List NodeView) (p : ℕ) (s : Session) (hand : Hand) (bs : List Backend) (x : Backend)
    → bs ≡ and_then w.backends x
    → with_session p (holding hand s) (record w { nodes = nodes; backends = bs })
    ≡ with_session p (holding hand s) (with_new x (with_nodes nodes w))
one_more w nodes p s hand bs x e =
    ap (λ (ys : List Backend). with_session p (holding hand s) (record w { nodes = nodes; backends = ys })) e
