-- What a watch has seen, and what it says of it.
use Rattle.std.proofs.Common.{◌≡◌, ◌≢◌, ℕ, ◌+◌, ◌-◌, ◌<◌, ◌≤◌, ◌==◌, Bool, true, false, if◌then◌else◌, Option, Some, None, IfSome, IfNone, List, [], ◌∷◌, ◌++◌, length, take, drop, map, get_or, set, slice_get, filter_map, zero, suc, inl, inr, refl, sym, ap, ◌∙◌, subst, arith, add-one, append_assoc, append-nil}
use Rattle.std.specs.List.{AllByRecursion, last_or, cons_option}
use Rattle.std.specs.Option.{option_map, option_or, option_to_list}
use Rattle.std.proofs.lemmas.Bool.Decides.{eqb_tells}
use Rattle.std.proofs.lemmas.List.{take_all, take_more, length-take-le, drop_more, map-append, map-set, length-map, set_at, get_or_at, get_or_append_left}
use Rattle.startup.specs.Replies.{Report}
use Rattle.pg_frames.specs.declared.frame.Frame.{Frame}
use Rattle.link_state.specs.declared.difference.Difference.{Difference}
use Rattle.link_state.specs.declared.watched.Watched.{Watched}
use Rattle.link_state.specs.declared.incoming.Incoming.{Incoming}
use Rattle.link_state.specs.HeadLength.{length_in, AreBytes}
use Rattle.link_state.specs.Watch.{Begins, Awaits, IsComing, value_in, value_of, reported, AreAsTold, shown, IsChange, WatchedValue, WatchState, told_one, told_of, IsBroken, Stands, Follows, HasSeen}
use Rattle.link_state.specs.Watched.{seen, all_seen, fresh, judged, noted, Suffices, IsSame, IsChangeOf, Comes, IsWhole, IsOther, state_of}
use Rattle.link_state.proofs.ValueLemmas.{value_cut, whole_by_front}
use Rattle.link_state.proofs.MessageLemmas.{none_empty, none_awaits, none_broken, begins_once, begins_more, begins_frame, length_stays, broken_more, bytes_left, frame_of, kind_kept, body_kept}

-- all but the rest was read
pub record HasSeenBefore (watch : WatchState) (all rest : List ℕ) : Type 0 where
  pub so_far : List ℕ
  pub joined : all ≡ so_far ++ rest
  pub seen : HasSeen watch so_far

-- the last value among messages and one more
cons_last : {X : Type 0} (o m : Option X) (xs : List X) → last_or o (cons_option m xs) ≡ last_or (option_or m o) xs
cons_last o None xs = refl
cons_last o (Some x) xs = refl

last_more : {X Y : Type 0} (o : Option Y) (h : X → Option Y) (xs : List X) (x : X) → last_or o (filter_map h (xs ++ x ∷ [])) ≡ option_or (h x) (last_or o (filter_map h xs))
last_more o h [] x = cons_last o (h x) []
last_more o h (y ∷ ys) x =
    cons_last o (h y) (filter_map h (ys ++ x ∷ []))
    ∙ last_more (option_or (h y) o) h ys x
    ∙ ap (option_or (h x)) (sym (cons_last o (h y) (filter_map h ys)))

reported_more : (name : List ℕ) (frames : List Frame) (f : Frame) → reported name (frames ++ f ∷ []) ≡ option_or (value_of name f) (reported name frames)
reported_more name frames f = last_more None (λ (frame : Frame). value_of name frame) frames f

map_or : {X Y : Type 0} (g : X → Y) (m o : Option X) → option_map g (option_or m o) ≡ option_or (option_map g m) (option_map g o)
map_or g None o = refl
map_or g (Some x) o = refl

-- what is kept of one after a message of another type, and after a ParameterStatus
unchanged : (frames : List Frame) (f : Frame) (one : WatchedValue) → f.kind == 83 ≡ false → Follows frames one → Follows (frames ++ f ∷ []) one
unchanged frames f one other follows =
    let none : value_of one.name f ≡ None =
    ap (λ (b : Bool). if b then value_in one.name f.body else None) other in
    follows ∙ ap (option_map (take (shown one.told)))
    (sym (reported_more one.name frames f ∙ ap (λ (o : Option (List ℕ)). option_or o (reported one.name frames)) none))

changed : (frames : List Frame) (f : Frame) (body : List ℕ) (more : ℕ) (one : WatchedValue) → f.kind == 83 ≡ true → body ≡ take more f.body → length one.name + 1 + shown one.told ≤ more → Follows frames one → Follows (frames ++ f ∷ []) (judged body one)
changed frames f body more one status kept enough follows =
    let few = shown one.told in
    let value : value_of one.name f ≡ value_in one.name f.body =
    ap (λ (b : Bool). if b then value_in one.name f.body else None) status in
    let first : option_map (take few) (value_in one.name body) ≡ option_map (take few) (value_of one.name f) =
    ap (λ (xs : List ℕ). option_map (take few) (value_in one.name xs)) kept
    ∙ value_cut one.name f.body more few enough
    ∙ ap (option_map (take few)) (sym value) in
    ap (λ (o : Option (List ℕ)). option_or o one.last) first
    ∙ ap (option_or (option_map (take few) (value_of one.name f))) follows
    ∙ sym (map_or (take few) (value_of one.name f) (reported one.name frames))
    ∙ ap (option_map (take few)) (sym (reported_more one.name frames f))

all_unchanged : (frames : List Frame) (f : Frame) (all : List WatchedValue) → f.kind == 83 ≡ false → AllByRecursion (Follows frames) all → AllByRecursion (Follows (frames ++ f ∷ [])) all
all_unchanged frames f [] other each = tt
all_unchanged frames f (one ∷ more) other each = (unchanged frames f one other each.0, all_unchanged frames f more other each.1)

all_changed : (frames : List Frame) (f : Frame) (body : List ℕ) (limit more : ℕ) (all : List WatchedValue) → limit ≡ 5 + more → f.kind == 83 ≡ true → body ≡ take more f.body → AllByRecursion (Suffices limit) all → AllByRecursion (Follows frames) all → AllByRecursion (Follows (frames ++ f ∷ [])) (map (judged body) all)
all_changed frames f body limit more [] e status kept enough each = tt
all_changed frames f body limit more (one ∷ others) e status kept enough each =
    (changed frames f body more one status kept (omega (arith, e, enough.0)) each.0, all_changed frames f body limit more others e status kept enough.1 each.1)

all_noted : (frames : List Frame) (f : Frame) (front : List ℕ) (limit more : ℕ) (all : List WatchedValue) (b : Bool) → limit ≡ 5 + more → f.kind == 83 ≡ b → drop 5 front ≡ take more f.body → AllByRecursion (Suffices limit) all → AllByRecursion (Follows frames) all → AllByRecursion (Follows (frames ++ f ∷ [])) (if b then map (judged (drop 5 front)) all else all)
all_noted frames f front limit more all true e status kept enough each = all_changed frames f (drop 5 front) limit more all e status kept enough each
all_noted frames f front limit more all false e status kept enough each = all_unchanged frames f all status each

-- the parameters stay the same ones
judged_told : (body : List ℕ) (all : List WatchedValue) → map told_one (map (judged body) all) ≡ map told_one all
judged_told body [] = refl
judged_told body (one ∷ more) = ap (λ (rs : List Report). told_one one ∷ rs) (judged_told body more)

noted_told_by : (body : List ℕ) (all : List WatchedValue) (b : Bool) → map told_one (if b then map (judged body) all else all) ≡ map told_one all
noted_told_by body all true = judged_told body all
noted_told_by body all false = refl

pub noted_told : (front : List ℕ) (all : List WatchedValue) → map told_one (noted front all) ≡ map told_one all
noted_told front all = noted_told_by (drop 5 front) all (get_or front 0 0 == 83)

judged_enough : (limit : ℕ) (body : List ℕ) (all : List WatchedValue) → AllByRecursion (Suffices limit) all → AllByRecursion (Suffices limit) (map (judged body) all)
judged_enough limit body [] each = tt
judged_enough limit body (one ∷ more) each = (each.0, judged_enough limit body more each.1)

noted_enough_by : (limit : ℕ) (body : List ℕ) (all : List WatchedValue) (b : Bool) → AllByRecursion (Suffices limit) all → AllByRecursion (Suffices limit) (if b then map (judged body) all else all)
noted_enough_by limit body all true each = judged_enough limit body all each
noted_enough_by limit body all false each = each

pub noted_enough : (limit : ℕ) (front : List ℕ) (all : List WatchedValue) → AllByRecursion (Suffices limit) all → AllByRecursion (Suffices limit) (noted front all)
noted_enough limit front all each = noted_enough_by limit (drop 5 front) all (get_or front 0 0 == 83) each

-- more of a message has come, and it isn't whole
more_seen : (all : List WatchedValue) (old new : Incoming) (before piece : List ℕ) → HasSeen (state_of all old false) before → ((rest : List ℕ) → Comes old rest → Comes new (rest ++ piece)) → 0 < new.left → HasSeen (state_of all new false) (before ++ piece)
more_seen all old new before piece h comes some =
    let there = comes h.rest h.stands in
    record {
      frames = h.frames;
      rest = h.rest ++ piece;
      begins = begins_more before piece h.rest h.frames h.begins (none_awaits new.in_body new.left (h.rest ++ piece) some there.awaits);
      each = h.each;
      stands = there;
    }

pub seen_more : (all : List WatchedValue) (old new : Incoming) (stopped : Bool) (before piece : List ℕ) → stopped ≡ false → HasSeen (state_of all old stopped) before → ((rest : List ℕ) → Comes old rest → Comes new (rest ++ piece)) → 0 < new.left → HasSeen (state_of all new stopped) (before ++ piece)
seen_more all old new false before piece going h comes some = more_seen all old new before piece h comes some
seen_more all old new true before piece going h comes some = absurd (cc)

-- its length field is below 4
broken_seen : (all : List WatchedValue) (old new : Incoming) (before piece : List ℕ) → HasSeen (state_of all old false) before → ((rest : List ℕ) → Comes old rest → IsBroken (rest ++ piece)) → HasSeen (state_of all new true) (before ++ piece)
broken_seen all old new before piece h breaks =
    let there = breaks h.rest h.stands in
    record {
      frames = h.frames;
      rest = h.rest ++ piece;
      begins = begins_more before piece h.rest h.frames h.begins (none_broken (h.rest ++ piece) there);
      each = h.each;
      stands = there;
    }

pub seen_broken : (all : List WatchedValue) (old new : Incoming) (stopped : Bool) (before piece : List ℕ) → stopped ≡ false → HasSeen (state_of all old stopped) before → ((rest : List ℕ) → Comes old rest → IsBroken (rest ++ piece)) → HasSeen (state_of all new true) (before ++ piece)
seen_broken all old new false before piece going h breaks = broken_seen all old new before piece h breaks
seen_broken all old new true before piece going h breaks = absurd (cc)

-- it is whole
whole_seen : (all : List WatchedValue) (old new next : Incoming) (before piece : List ℕ) → HasSeen (state_of all old false) before → ((rest : List ℕ) → Comes old rest → IsWhole new.limit new.front.items (rest ++ piece)) → 5 ≤ length new.front.items → AllByRecursion (Suffices new.limit) all → 5 ≤ new.limit → Comes next [] → HasSeen (state_of (noted new.front.items all) next false) (before ++ piece)
whole_seen all old new next before piece h comes five enough least starts =
    let rest = h.rest ++ piece in
    let whole = comes h.rest h.stands in
    let frame = frame_of new.limit new.front.items rest whole in
    let f = frame.0 in
    let more = new.limit - 5 in
    let e : new.limit ≡ 5 + more = omega (arith, least) in
    let kind : f.kind ≡ get_or new.front.items 0 0 = frame.3 ∙ sym (kind_kept new.limit new.front.items rest five whole.front_is) in
    let body : drop 5 new.front.items ≡ take more f.body =
    body_kept new.limit more new.front.items rest e whole.front_is ∙ ap (take more) (sym frame.4) in
    record {
      frames = h.frames ++ f ∷ [];
      rest = [];
      begins = begins_frame before piece h.rest h.frames f h.begins frame.1 frame.2;
      each = all_noted h.frames f new.front.items new.limit more all (get_or new.front.items 0 0 == 83) e (ap (λ (k : ℕ). k == 83) kind) body enough h.each;
      stands = starts;
    }

pub seen_whole : (all now : List WatchedValue) (old new next : Incoming) (stopped : Bool) (before piece : List ℕ) → stopped ≡ false → now ≡ noted new.front.items all → HasSeen (state_of all old stopped) before → ((rest : List ℕ) → Comes old rest → IsWhole new.limit new.front.items (rest ++ piece)) → 5 ≤ length new.front.items → AllByRecursion (Suffices new.limit) all → 5 ≤ new.limit → Comes next [] → HasSeen (state_of now next stopped) (before ++ piece)
seen_whole all now old new next false before piece going is h comes five enough least starts =
    subst (λ (l : List WatchedValue). HasSeen (state_of l next false) (before ++ piece)) (sym is)
    (whole_seen all old new next before piece h comes five enough least starts)
seen_whole all now old new next true before piece going is h comes five enough least starts = absurd (cc)

pub none_left : (rest : List ℕ) (left : ℕ) → left ≡ 5 → left + length rest ≡ 5 → rest ≡ []
none_left [] left is awaits = refl
none_left (x ∷ xs) left is awaits = absurd (omega (arith, is, awaits))

pub other_kind : (kind : ℕ) → kind ≢ 83 → kind == 83 ≡ false
other_kind kind other =
    elim (eqb_tells kind 83) [
      | inl same ↦ absurd (other same.1)
      | inr apart ↦ apart.0
    ]

-- a whole message at the front of bytes
pub front_whole : (limit count : ℕ) (bytes piece after : List ℕ) → AreBytes bytes → bytes ≡ piece ++ after → length piece ≡ count → 4 ≤ length_in bytes → count ≡ 1 + length_in bytes → IsWhole limit (take limit piece) piece
front_whole limit count bytes piece after each parts long low measured =
    let head : 5 ≤ length piece = omega (arith, long, low, measured) in
    let same : length_in bytes ≡ length_in piece = ap length_in parts ∙ length_stays piece after head in
    record {
      front_is = refl;
      bytes = bytes_left piece after (subst AreBytes parts each);
      head = head;
      low = omega (arith, low, same);
      measured = omega (arith, long, measured, same);
    }

-- a whole message that is no ParameterStatus was passed over
pub seen_other : (watch : WatchState) (count : ℕ) (before bytes piece after : List ℕ) → watch.stopped ≡ false → AreBytes bytes → IsOther watch.left watch.in_body count bytes → bytes ≡ piece ++ after → length piece ≡ count → HasSeen watch before → HasSeen watch (before ++ piece)
seen_other watch count before bytes piece after going each is parts long h =
    let there : IsComing watch.limit watch.left watch.in_body watch.front h.rest =
    subst (λ (b : Bool). Stands b watch h.rest) going h.stands in
    let awaits : Awaits false watch.left h.rest =
    subst (λ (b : Bool). Awaits b watch.left h.rest) is.outside there.awaits in
    let none : h.rest ≡ [] = none_left h.rest watch.left is.begins awaits in
    let whole = front_whole watch.limit count bytes piece after each parts long is.low is.measured in
    let frame = frame_of watch.limit (take watch.limit piece) piece whole in
    let f = frame.0 in
    let some : 0 < length piece = omega (arith, whole.head) in
    let first : get_or bytes 0 0 ≡ f.kind =
    ap (λ (xs : List ℕ). get_or xs 0 0) parts ∙ get_or_append_left piece after 0 0 some ∙ sym frame.3 in
    let kind : f.kind == 83 ≡ false = other_kind f.kind (λ e. is.kind (first ∙ e)) in
    record {
      frames = h.frames ++ f ∷ [];
      rest = [];
      begins = begins_frame before piece h.rest h.frames f h.begins frame.1 (ap (λ (xs : List ℕ). xs ++ piece) none ∙ frame.2);
      each = all_unchanged h.frames f watch.watched kind h.each;
      stands = subst (λ (xs : List ℕ). Stands watch.stopped watch xs) none h.stands;
    }

-- it has stopped, and sees nothing of what follows
seen_stopped : (watch : WatchState) (before rest : List ℕ) → watch.stopped ≡ true → HasSeen watch before → HasSeen watch (before ++ rest)
seen_stopped watch before rest stopped h =
    let broken : IsBroken h.rest = subst (λ (b : Bool). Stands b watch h.rest) stopped h.stands in
    let more = broken_more h.rest rest broken in
    record {
      frames = h.frames;
      rest = h.rest ++ rest;
      begins = begins_more before rest h.rest h.frames h.begins (none_broken (h.rest ++ rest) more);
      each = h.each;
      stands = subst (λ (b : Bool). Stands b watch (h.rest ++ rest)) (sym stopped) more;
    }

-- all was read
pub seen_all : (watch : WatchState) (all rest : List ℕ) → rest ≡ [] → HasSeenBefore watch all rest → HasSeen watch all
seen_all watch all rest none h =
    subst (HasSeen watch) (sym (append-nil h.so_far) ∙ ap (λ (xs : List ℕ). h.so_far ++ xs) (sym none) ∙ sym h.joined) h.seen

pub seen_until_stopped : (watch : WatchState) (all rest : List ℕ) → watch.stopped ≡ true → HasSeenBefore watch all rest → HasSeen watch all
seen_until_stopped watch all rest stopped h =
    subst (HasSeen watch) (sym h.joined) (seen_stopped watch h.so_far rest stopped h.seen)

-- a piece more was read
pub seen_piece : (old new : WatchState) (all rest piece after : List ℕ) → rest ≡ piece ++ after → ((before : List ℕ) → HasSeen old before → HasSeen new (before ++ piece)) → HasSeenBefore old all rest → HasSeenBefore new all after
seen_piece old new all rest piece after parts reads h = record {
  so_far = h.so_far ++ piece;
  joined = h.joined ∙ ap (λ (xs : List ℕ). h.so_far ++ xs) parts ∙ sym (append_assoc h.so_far piece after);
  seen = reads h.so_far h.seen;
}

pub seen_nothing : (watch : WatchState) (bytes : List ℕ) → (before : List ℕ) → HasSeen watch before → HasSeenBefore watch (before ++ bytes) bytes
seen_nothing watch bytes before h = record { so_far = before; joined = refl; seen = h }

-- a new watch
all_fresh : (reports : List Report) → AllByRecursion (Follows []) (map fresh reports)
all_fresh [] = tt
all_fresh (r ∷ rs) = (refl, all_fresh rs)

-- nothing was reported of it yet
pub fresh_same : (all : List WatchedValue) (reports : List Report) → all ≡ map fresh reports → AllByRecursion IsSame all
fresh_same all reports is = subst (AllByRecursion IsSame) (sym is) (each_same reports)
  where
    each_same : (reports : List Report) → AllByRecursion IsSame (map fresh reports)
    each_same [] = tt
    each_same (r ∷ rs) = (tt, each_same rs)

fresh_told : (reports : List Report) → map told_one (map fresh reports) ≡ reports
fresh_told [] = refl
fresh_told (r ∷ rs) = ap (λ (xs : List Report). r ∷ xs) (fresh_told rs)

pub new_told : (all : List WatchedValue) (reports : List Report) → all ≡ map fresh reports → map told_one all ≡ reports
new_told all reports is = ap (map told_one) is ∙ fresh_told reports

pub new_seen : (all : List WatchedValue) (reports : List Report) (incoming : Incoming) → all ≡ map fresh reports → Comes incoming [] → HasSeen (state_of all incoming false) []
new_seen all reports incoming is comes = record {
  frames = [];
  rest = [];
  begins = record { whole = refl; each = tt; longest = none_empty };
  each = subst (AllByRecursion (Follows [])) (sym is) (all_fresh reports);
  stands = comes;
}

-- one whose first bytes are those that clients get
told_by_front : (told : List ℕ) (o : Option (List ℕ)) → IfSome (option_map (take (shown told)) o) (λ last. last ≡ told) → IfSome o (λ value. value ≡ told)
told_by_front told None h = tt
told_by_front told (Some value) h = whole_by_front (shown told) value told h (omega arith)

pub same_told : (all : List WatchedValue) (frames : List Frame) → AllByRecursion (Follows frames) all → AllByRecursion IsSame all → AreAsTold (map told_one all) frames
same_told [] frames each same = tt
same_told (one ∷ more) frames each same =
    (told_by_front one.told (reported one.name frames) (subst (λ (o : Option (List ℕ)). IfSome o (λ last. last ≡ one.told)) each.0 same.0), same_told more frames each.1 same.1)

all_at : {X : Type 0} (P : X → Type 0) (xs : List X) (k : ℕ) (x : X) → AllByRecursion P xs → k < length xs → get_or xs k x ≡ x → P x
all_at P [] k x all within is = absurd (omega arith)
all_at P (y ∷ ys) zero x all within is = subst P is all.0
all_at P (y ∷ ys) (suc k) x all within is = all_at P ys k x all.1 (omega arith) is

told_at : (all : List WatchedValue) (k : ℕ) (one : WatchedValue) → get_or all k one ≡ one → get_or (map told_one all) k (told_one one) ≡ told_one one
told_at [] k one is = refl
told_at (x ∷ xs) zero one is = ap told_one is
told_at (x ∷ xs) (suc k) one is = told_at xs k one is

some_value : (k : ℕ) (o : Option (List ℕ)) (first : List ℕ) → Some first ≡ option_map (take k) o → (value : List ℕ) × (o ≡ Some value) × (first ≡ take k value)
some_value k None first e = absurd (cc)
some_value k (Some value) first e = (value, refl, cc)

pub change_told : (all : List WatchedValue) (frames : List Frame) (change : Difference) → AllByRecursion (Follows frames) all → IsChangeOf all change → IsChange (map told_one all) frames change
change_told all frames change each is =
    let one = is.one in
    let follows : Follows frames one = all_at (Follows frames) all is.among.0 one each is.among.1 is.among.2 in
    let value = some_value (shown one.told) (reported one.name frames) change.reported.now (sym is.last ∙ follows) in
    record {
      one = told_one one;
      among = (is.among.0, omega (arith, is.among.1, length-map all told_one), told_at all is.among.0 one is.among.2);
      name_is = is.name_is;
      told_is = is.told_is;
      value = value.0;
      last = value.1;
      other = λ same. is.other (value.2 ∙ ap (take (shown one.told)) same ∙ take_all (shown one.told) one.told (omega arith) ∙ sym is.told_is);
      first = value.2;
    }

-- what a watch says of the messages so far
pub says_same : (watch : WatchState) (bytes : List ℕ) (frames : List Frame) (rest : List ℕ) → HasSeen watch bytes → Begins bytes frames rest → AllByRecursion IsSame watch.watched → AreAsTold (told_of watch) frames
says_same watch bytes frames rest h begins same =
    let once = begins_once bytes h.frames frames h.rest rest h.begins begins in
    same_told watch.watched frames (subst (λ (fs : List Frame). AllByRecursion (Follows fs) watch.watched) once h.each) same

pub says_change : (watch : WatchState) (bytes : List ℕ) (frames : List Frame) (rest : List ℕ) (change : Difference) → HasSeen watch bytes → Begins bytes frames rest → IsChangeOf watch.watched change → IsChange (told_of watch) frames change
says_change watch bytes frames rest change h begins is =
    let once = begins_once bytes h.frames frames h.rest rest h.begins begins in
    change_told watch.watched frames change (subst (λ (fs : List Frame). AllByRecursion (Follows fs) watch.watched) once h.each) is

-- the first of these changes, or a later one does
pub change_here : (one : WatchedValue) (more : List WatchedValue) (change : Difference) → change.name.now ≡ one.name → change.told.now ≡ one.told → one.last ≡ Some change.reported.now → change.reported.now ≢ change.told.now → IsChangeOf (one ∷ more) change
change_here one more change name told last other = record {
  one = one;
  among = (zero, omega arith, refl);
  name_is = name;
  told_is = told;
  last = last;
  other = other;
}

pub change_later : (one : WatchedValue) (more : List WatchedValue) (change : Difference) → IsChangeOf more change → IsChangeOf (one ∷ more) change
change_later one more change is = record {
  one = is.one;
  among = (suc is.among.0, omega (arith, is.among.1), is.among.2);
  name_is = is.name_is;
  told_is = is.told_is;
  last = is.last;
  other = is.other;
}

-- a higher limit is enough, too
pub enough_by : (less more : ℕ) (all : List WatchedValue) → less ≤ more → AllByRecursion (Suffices less) all → AllByRecursion (Suffices more) all
enough_by less more [] le each = tt
enough_by less more (one ∷ others) le each = (omega (arith, le, each.0), enough_by less more others le each.1)

-- the list so far, with what is at the next place
take_next : {X : Type 0} (xs : List X) (i : ℕ) → take (suc i) xs ≡ take i xs ++ option_to_list (slice_get xs i)
take_next [] zero = refl
take_next [] (suc i) = refl
take_next (x ∷ xs) zero = refl
take_next (x ∷ xs) (suc i) = ap (λ l. x ∷ l) (take_next xs i)

pub watched_next : (old new : List WatchedValue) (reports : List Report) (i : ℕ) → old ≡ map fresh (take i reports) → new ≡ old ++ map fresh (option_to_list (slice_get reports i)) → new ≡ map fresh (take (i + 1) reports)
watched_next old new reports i was is =
    is ∙ ap (λ (l : List WatchedValue). l ++ map fresh (option_to_list (slice_get reports i))) was
    ∙ sym (map-append fresh (take i reports) (option_to_list (slice_get reports i)))
    ∙ ap (map fresh) (sym (take_next reports i) ∙ sym (ap (λ (n : ℕ). take n reports) (add-one i)))

-- what follows from what there is where there is nothing
pub none_then : {X : Type 0} (o : Option X) (P Q : Type 0) → IfNone o P → (P → Q) → IfNone o Q
none_then None P Q h f = f h
none_then (Some x) P Q h f = tt

-- one more is judged
get_or-map : {A B : Type 0} (f : A → B) (xs : List A) (i : ℕ) (d : A) → f (get_or xs i d) ≡ get_or (map f xs) i (f d)
get_or-map f [] i d = refl
get_or-map f (x ∷ xs) zero d = refl
get_or-map f (x ∷ xs) (suc i) d = get_or-map f xs i d

step : {A : Type 0} (g : A → A) (now all : List A) (i : ℕ) (new item : A) → now ≡ map g (take i all) ++ drop i all → i < length all → new ≡ g item → item ≡ get_or now i item → set now i new ≡ map g (take (i + 1) all) ++ drop (i + 1) all
step g now all i new item e within new_is is =
    let front = map g (take i all) in
    let here = get_or all i item in
    let rest = drop (i + 1) all in
    let len : length front ≡ i = length-map (take i all) g ∙ length-take-le i all (omega arith) in
    let parts : now ≡ front ++ here ∷ rest = e ∙ ap (λ l. front ++ l) (drop_more all i item within) in
    let same : item ≡ here = is ∙ ap (λ l. get_or l i item) parts ∙ get_or_at front here rest item i len in
    ap (λ l. set l i new) parts ∙ set_at front here rest new i len
    ∙ ap (λ v. front ++ v ∷ rest) (new_is ∙ ap g same)
    ∙ sym (append_assoc front (g here ∷ []) rest)
    ∙ ap (λ l. l ++ rest) (sym (ap (map g) (take_more all i item within) ∙ map-append g (take i all) (here ∷ [])))

pub judged_next : (body : List ℕ) (now all : List Watched) (i : ℕ) (new item : Watched) → all_seen now ≡ map (judged body) (take i (all_seen all)) ++ drop i (all_seen all) → i < length all → seen new ≡ judged body (seen item) → item ≡ get_or now i item → all_seen (set now i new) ≡ map (judged body) (take (i + 1) (all_seen all)) ++ drop (i + 1) (all_seen all)
judged_next body now all i new item e within new_is is =
    map-set seen now i new
    ∙ step (judged body) (all_seen now) (all_seen all) i (seen new) (seen item) e (omega (arith, within, length-map all seen)) new_is (ap seen is ∙ get_or-map seen now i item)
