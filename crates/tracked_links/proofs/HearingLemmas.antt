-- What was heard of the bytes of a server, in whatever pieces they came.
use Rattle.std.proofs.Common.{◌≡◌, ◌≢◌, ◌∙◌, ℕ, ◌+◌, ◌<◌, ◌≤◌, ◌==◌, Bool, true, false, if◌then◌else◌, Option, Some, None, Result, Ok, Err, OnOk, OnErr, List, [], ◌∷◌, ◌++◌, length, take, drop, get_or, refl, sym, ap, subst, inl, inr, arith, append_assoc, append-nil}
use Rattle.std.proofs.lemmas.Bool.{eq-eqb}
use Rattle.std.proofs.lemmas.List.{get_or_append_left}
use Rattle.pg_frames.specs.declared.frame.Frame.{Frame}
use Rattle.link_state.specs.declared.incoming.Incoming.{Incoming}
use Rattle.link_state.specs.HeadLength.{AreBytes}
use Rattle.link_state.specs.Watch.{Awaits, IsComing, IsBroken}
use Rattle.link_state.specs.Watched.{Comes, IsWhole, IsOther}
use Rattle.link_state.proofs.MessageLemmas.{none_empty, none_awaits, none_broken, begins_more, begins_frame, broken_more, frame_of, kind_kept, body_kept}
use Rattle.link_state.proofs.WatchLemmas.{none_left, other_kind, front_whole}
use Rattle.tracked_parameters.specs.Values.{place_of}
use Rattle.tracked_parameters.specs.Server.{ServerState, new_server, reported_at, after_login}
use Rattle.tracked_links.specs.Heard.{HearingState, HearsStatus, HearsMessage, Hears, HearsAll, Stands, HasHeard}
use Rattle.tracked_links.specs.HeardInside.{IsKept, state_of}

-- all but the rest was heard
pub record HasHeardBefore (hearing : HearingState) (all rest : List ℕ) : Type 0 where
  pub so_far : List ℕ
  pub joined : all ≡ so_far ++ rest
  pub heard : HasHeard hearing so_far

-- a message leaves a login where it is
reported_keeps : (place : Option ℕ) (value : Option (List ℕ)) (server : ServerState) → (reported_at place value server).logged_in ≡ server.logged_in
reported_keeps None value server = refl
reported_keeps (Some place) value server = refl

status_keeps : (names : List (List ℕ)) (body : List ℕ) (old new : ServerState) → HearsStatus names body old new → new.logged_in ≡ old.logged_in
status_keeps names body old new (inl h) = ap (λ (s : ServerState). s.logged_in) h.same
status_keeps names body old new (inr (inl h)) =
    ap (λ (s : ServerState). s.logged_in) h.kept ∙ reported_keeps (place_of names h.report.name) (Some h.report.value) old
status_keeps names body old new (inr (inr h)) =
    ap (λ (s : ServerState). s.logged_in) h.lost ∙ reported_keeps (place_of names h.name) None old

message_keeps : (b : Bool) (names : List (List ℕ)) (body : List ℕ) (old new : ServerState) → HearsMessage b names body old new → new.logged_in ≡ old.logged_in
message_keeps true names body old new h = status_keeps names body old new h
message_keeps false names body old new h = ap (λ (s : ServerState). s.logged_in) h

-- a message more
hears_more : (names : List (List ℕ)) (frames : List Frame) (f : Frame) (a b c : ServerState) → Hears names frames a b → HearsMessage (f.kind == 83) names f.body b c → Hears names (frames ++ f ∷ []) a c
hears_more names [] f a b c first one =
    (c, subst (λ (s : ServerState). HearsMessage (f.kind == 83) names f.body s c) first one, refl)
hears_more names (g ∷ gs) f a b c first one = (first.0, first.1, hears_more names gs f first.0 b c first.2 one)

all_more : (names : List (List ℕ)) (frames : List Frame) (f : Frame) (old new : ServerState) → HearsAll names frames old → HearsMessage (f.kind == 83) names f.body old new → HearsAll names (frames ++ f ∷ []) new
all_more names frames f old new (inl h) one = inl (record {
  going = message_keeps (f.kind == 83) names f.body old new one ∙ h.going;
  hears = hears_more names frames f (new_server names) old new h.hears one;
})
all_more names frames f old new (inr h) one = inr (record {
  before = h.before;
  since = h.since ++ f ∷ [];
  frames_are = ap (λ (fs : List Frame). fs ++ f ∷ []) h.frames_are ∙ append_assoc h.before h.since (f ∷ []);
  at_end = h.at_end;
  hears = h.hears;
  ended = message_keeps (f.kind == 83) names f.body old new one ∙ h.ended;
  hears_since = hears_more names h.since f (after_login h.at_end) old new h.hears_since one;
})

-- the login ends
if_true : {X : Type 0} (b : Bool) (x y : X) → b ≡ true → (if b then x else y) ≡ x
if_true true x y is = refl
if_true false x y is = absurd (cc)

if_false : {X : Type 0} (b : Bool) (x y : X) → b ≡ false → (if b then x else y) ≡ y
if_false true x y is = absurd (cc)
if_false false x y is = refl

ends_all : (names : List (List ℕ)) (frames : List Frame) (old new : ServerState) → new ≡ after_login old → HearsAll names frames old → HearsAll names frames new
ends_all names frames old new is (inl h) = inr (record {
  before = frames;
  since = [];
  frames_are = sym (append-nil frames);
  at_end = old;
  hears = h.hears;
  ended = ap (λ (s : ServerState). s.logged_in) (is ∙ if_false old.logged_in old _ h.going);
  hears_since = is;
})
ends_all names frames old new is (inr h) =
    subst (HearsAll names frames) (sym (is ∙ if_true old.logged_in old _ h.ended)) (inr h)

pub login_ends : (names : List (List ℕ)) (old new : ServerState) (incoming : Incoming) (stopped : Bool) (bytes : List ℕ) → new ≡ after_login old → HasHeard (state_of names old incoming stopped) bytes → HasHeard (state_of names new incoming stopped) bytes
login_ends names old new incoming stopped bytes is h = record {
  frames = h.frames;
  rest = h.rest;
  begins = h.begins;
  heard = ends_all names h.frames old new is h.heard;
  stands = stands_still stopped h.stands;
}
  where
    stands_still : (b : Bool) → Stands b (state_of names old incoming stopped) h.rest → Stands b (state_of names new incoming stopped) h.rest
    stands_still true stands = stands
    stands_still false stands = stands

pub login_done_hears : {E : Type 0} (result : Result Unit E) (names : List (List ℕ)) (old new : ServerState) (incoming : Incoming) (stopped : Bool) (bytes : List ℕ) → OnOk result (new ≡ after_login old) → OnErr result (new ≡ old) → HasHeard (state_of names old incoming stopped) bytes → HasHeard (state_of names new incoming stopped) bytes
login_done_hears (Ok x) names old new incoming stopped bytes ok err h =
    login_ends names old new incoming stopped bytes ok h
login_done_hears (Err e) names old new incoming stopped bytes ok err h =
    subst (λ (s : ServerState). HasHeard (state_of names s incoming stopped) bytes) (sym err) h

-- a message by its type
pub message_status : (kind : ℕ) (names : List (List ℕ)) (body : List ℕ) (old new : ServerState) → kind ≡ 83 → HearsStatus names body old new → HearsMessage (kind == 83) names body old new
message_status kind names body old new is h =
    subst (λ (b : Bool). HearsMessage b names body old new) (sym (eq-eqb kind 83 is)) h

pub message_other : (kind : ℕ) (names : List (List ℕ)) (body : List ℕ) (server : ServerState) → kind ≢ 83 → HearsMessage (kind == 83) names body server server
message_other kind names body server other =
    subst (λ (b : Bool). HearsMessage b names body server server) (sym (other_kind kind other)) refl

-- more of a message has come, and it isn't whole
more_heard : (names : List (List ℕ)) (server : ServerState) (old new : Incoming) (before piece : List ℕ) → HasHeard (state_of names server old false) before → ((rest : List ℕ) → Comes old rest → Comes new (rest ++ piece)) → 0 < new.left → HasHeard (state_of names server new false) (before ++ piece)
more_heard names server old new before piece h comes some =
    let there = comes h.rest h.stands in
    record {
      frames = h.frames;
      rest = h.rest ++ piece;
      begins = begins_more before piece h.rest h.frames h.begins (none_awaits new.in_body new.left (h.rest ++ piece) some there.awaits);
      heard = h.heard;
      stands = there;
    }

pub heard_more : (names : List (List ℕ)) (server : ServerState) (old new : Incoming) (stopped : Bool) (before piece : List ℕ) → stopped ≡ false → HasHeard (state_of names server old stopped) before → ((rest : List ℕ) → Comes old rest → Comes new (rest ++ piece)) → 0 < new.left → HasHeard (state_of names server new stopped) (before ++ piece)
heard_more names server old new false before piece going h comes some = more_heard names server old new before piece h comes some
heard_more names server old new true before piece going h comes some = absurd (cc)

-- its length field is below 4
broken_heard : (names : List (List ℕ)) (server : ServerState) (old new : Incoming) (before piece : List ℕ) → HasHeard (state_of names server old false) before → ((rest : List ℕ) → Comes old rest → IsBroken (rest ++ piece)) → HasHeard (state_of names server new true) (before ++ piece)
broken_heard names server old new before piece h breaks =
    let there = breaks h.rest h.stands in
    record {
      frames = h.frames;
      rest = h.rest ++ piece;
      begins = begins_more before piece h.rest h.frames h.begins (none_broken (h.rest ++ piece) there);
      heard = h.heard;
      stands = there;
    }

pub heard_broken : (names : List (List ℕ)) (server : ServerState) (old new : Incoming) (stopped : Bool) (before piece : List ℕ) → stopped ≡ false → HasHeard (state_of names server old stopped) before → ((rest : List ℕ) → Comes old rest → IsBroken (rest ++ piece)) → HasHeard (state_of names server new true) (before ++ piece)
heard_broken names server old new false before piece going h breaks = broken_heard names server old new before piece h breaks
heard_broken names server old new true before piece going h breaks = absurd (cc)

-- it is whole
whole_heard : (names : List (List ℕ)) (server now : ServerState) (old new next : Incoming) (most : ℕ) (before piece : List ℕ) → HasHeard (state_of names server old false) before → ((rest : List ℕ) → Comes old rest → IsWhole new.limit new.front.items (rest ++ piece)) → 5 ≤ length new.front.items → new.limit ≡ 5 + most → ((kind : ℕ) (whole : List ℕ) → IsKept new.front.items most kind whole → HearsMessage (kind == 83) names whole server now) → Comes next [] → HasHeard (state_of names now next false) (before ++ piece)
whole_heard names server now old new next most before piece h comes five e hears starts =
    let rest = h.rest ++ piece in
    let whole = comes h.rest h.stands in
    let frame = frame_of new.limit new.front.items rest whole in
    let f = frame.0 in
    let kind : f.kind ≡ get_or new.front.items 0 0 = frame.3 ∙ sym (kind_kept new.limit new.front.items rest five whole.front_is) in
    let body : drop 5 new.front.items ≡ take most f.body =
    body_kept new.limit most new.front.items rest e whole.front_is ∙ ap (take most) (sym frame.4) in
    record {
      frames = h.frames ++ f ∷ [];
      rest = [];
      begins = begins_frame before piece h.rest h.frames f h.begins frame.1 frame.2;
      heard = all_more names h.frames f server now h.heard (hears f.kind f.body (record { kind_is = kind; body_is = body }));
      stands = starts;
    }

pub heard_whole : (names given : List (List ℕ)) (server now : ServerState) (old new next : Incoming) (most : ℕ) (stopped : Bool) (before piece : List ℕ) → stopped ≡ false → given ≡ names → HasHeard (state_of names server old stopped) before → ((rest : List ℕ) → Comes old rest → IsWhole new.limit new.front.items (rest ++ piece)) → 5 ≤ length new.front.items → new.limit ≡ 5 + most → ((kind : ℕ) (whole : List ℕ) → IsKept new.front.items most kind whole → HearsMessage (kind == 83) given whole server now) → Comes next [] → HasHeard (state_of names now next stopped) (before ++ piece)
heard_whole names given server now old new next most false before piece going is h comes five e hears starts =
    whole_heard names server now old new next most before piece h comes five e
    (λ kind whole kept. subst (λ (ns : List (List ℕ)). HearsMessage (kind == 83) ns whole server now) is (hears kind whole kept)) starts
heard_whole names given server now old new next most true before piece going is h comes five e hears starts = absurd (cc)

-- a whole message that is no ParameterStatus was passed over
pub heard_other : (hearing : HearingState) (count : ℕ) (before bytes piece after : List ℕ) → hearing.stopped ≡ false → AreBytes bytes → IsOther hearing.left hearing.in_body count bytes → bytes ≡ piece ++ after → length piece ≡ count → HasHeard hearing before → HasHeard hearing (before ++ piece)
heard_other hearing count before bytes piece after going each is parts long h =
    let there : IsComing hearing.limit hearing.left hearing.in_body hearing.front h.rest =
    subst (λ (b : Bool). Stands b hearing h.rest) going h.stands in
    let awaits : Awaits false hearing.left h.rest =
    subst (λ (b : Bool). Awaits b hearing.left h.rest) is.outside there.awaits in
    let none : h.rest ≡ [] = none_left h.rest hearing.left is.begins awaits in
    let whole = front_whole hearing.limit count bytes piece after each parts long is.low is.measured in
    let frame = frame_of hearing.limit (take hearing.limit piece) piece whole in
    let f = frame.0 in
    let some : 0 < length piece = omega (arith, whole.head) in
    let first : get_or bytes 0 0 ≡ f.kind =
    ap (λ (xs : List ℕ). get_or xs 0 0) parts ∙ get_or_append_left piece after 0 0 some ∙ sym frame.3 in
    record {
      frames = h.frames ++ f ∷ [];
      rest = [];
      begins = begins_frame before piece h.rest h.frames f h.begins frame.1 (ap (λ (xs : List ℕ). xs ++ piece) none ∙ frame.2);
      heard = all_more hearing.names h.frames f hearing.server hearing.server h.heard
          (message_other f.kind hearing.names f.body hearing.server (λ e. is.kind (first ∙ e)));
      stands = subst (λ (xs : List ℕ). Stands hearing.stopped hearing xs) none h.stands;
    }

-- it has stopped, and hears nothing of what follows
heard_stopped : (hearing : HearingState) (before rest : List ℕ) → hearing.stopped ≡ true → HasHeard hearing before → HasHeard hearing (before ++ rest)
heard_stopped hearing before rest stopped h =
    let broken : IsBroken h.rest = subst (λ (b : Bool). Stands b hearing h.rest) stopped h.stands in
    let more = broken_more h.rest rest broken in
    record {
      frames = h.frames;
      rest = h.rest ++ rest;
      begins = begins_more before rest h.rest h.frames h.begins (none_broken (h.rest ++ rest) more);
      heard = h.heard;
      stands = subst (λ (b : Bool). Stands b hearing (h.rest ++ rest)) (sym stopped) more;
    }

-- all was heard
pub heard_all : (hearing : HearingState) (all rest : List ℕ) → rest ≡ [] → HasHeardBefore hearing all rest → HasHeard hearing all
heard_all hearing all rest none h =
    subst (HasHeard hearing) (sym (append-nil h.so_far) ∙ ap (λ (xs : List ℕ). h.so_far ++ xs) (sym none) ∙ sym h.joined) h.heard

pub heard_until_stopped : (hearing : HearingState) (all rest : List ℕ) → hearing.stopped ≡ true → HasHeardBefore hearing all rest → HasHeard hearing all
heard_until_stopped hearing all rest stopped h =
    subst (HasHeard hearing) (sym h.joined) (heard_stopped hearing h.so_far rest stopped h.heard)

-- a piece more was heard
pub heard_piece : (old new : HearingState) (all rest piece after : List ℕ) → rest ≡ piece ++ after → ((before : List ℕ) → HasHeard old before → HasHeard new (before ++ piece)) → HasHeardBefore old all rest → HasHeardBefore new all after
heard_piece old new all rest piece after parts hears h = record {
  so_far = h.so_far ++ piece;
  joined = h.joined ∙ ap (λ (xs : List ℕ). h.so_far ++ xs) parts ∙ sym (append_assoc h.so_far piece after);
  heard = hears h.so_far h.heard;
}

pub heard_nothing : (hearing : HearingState) (bytes : List ℕ) → (before : List ℕ) → HasHeard hearing before → HasHeardBefore hearing (before ++ bytes) bytes
heard_nothing hearing bytes before h = record { so_far = before; joined = refl; heard = h }

-- nothing was heard yet
pub new_heard : (names : List (List ℕ)) (server : ServerState) (incoming : Incoming) → server ≡ new_server names → Comes incoming [] → HasHeard (state_of names server incoming false) []
new_heard names server incoming is comes = record {
  frames = [];
  rest = [];
  begins = record { whole = refl; each = tt; longest = none_empty };
  heard = inl (record { going = ap (λ (s : ServerState). s.logged_in) is; hears = is });
  stands = comes;
}
