-- The lines of a script, as a loop over them reads them.
use Rattle.std.proofs.Common.{◌≡◌, ℕ, ◌+◌, ◌<◌, ◌≤◌, true, false, List, [], ◌∷◌, ◌++◌, length, get_or, map, take, Option, Some, Result, Err, Bor, refl, sym, ap, ◌∙◌, arith, ⊎_elim}
use Rattle.std.specs.Prelude.{IfOk}
use Rattle.std.specs.List.{flat_map}
use Rattle.std.specs.Str.Lines.{lines}
use Rattle.std.proofs.lemmas.Bool.{cases_lt, false≢true}
use Rattle.std.proofs.lemmas.List.{take_more, take_all, get_or-map, get_or_past, length-map, append-nil}
use Rattle.std.proofs.lemmas.List.Concat.{flat_map-append}
use Rattle.ini_config.specs.Node.{NodeSettings}
use Rattle.ini_config.specs.Text.{trimmed}
use Rattle.world.specs.declared.event.Event.{Event}
use Rattle.world_script.specs.Peers.{NodeLine, settings_among}
use Rattle.world_script.specs.Script.{statement_of, statements, node_in, event_in, nodes_in, events_in, is_fault, fault_at, IsScript, IsFirstFault}
use Rattle.world_script.specs.Reads.{ReadsOnly, Refuses, RefusesOnly, Takes, in_line}
use Rattle.world_script.specs.declared.draft.Draft.{Draft}
use Rattle.world_script.specs.declared.fault.LineFault.{LineFault}
use Rattle.world_script.specs.declared.fault.LineFault.TheVariants.{Form, Memory}
use Rattle.world_script.specs.declared.fault.ScriptError.{ScriptError}
use Rattle.world_script.specs.declared.fault.ScriptError.TheVariants as script
use Rattle.world_script.specs.declared.script.Script.{Script}
use Rattle.world_script.specs.declared.statement.Statement.{Statement}
use Rattle.world_script.specs.declared.statement.Statement.TheVariants as says

-- the lines up to this place gave these nodes and events, and none of them is at fault
pub record ReadTo (said : List (Option Statement)) (place : ℕ) (nodes : List NodeLine) (events : List Event) : Type 0 where
  pub nodes_are : nodes ≡ nodes_in (take place said)
  pub events_are : events ≡ events_in (take place said)
  pub sound : (earlier : ℕ) → earlier < place → fault_at said earlier ≡ false

pub read_none : (said : List (Option Statement)) → ReadTo said 0 [] []
read_none said = record { nodes_are = refl; events_are = refl; sound = λ earlier lt. absurd (omega arith) }

-- what the line at a place says
pub said_at : (text : List ℕ) (ls : List (Bor (List ℕ))) (place : ℕ) (line : Bor (List ℕ)) (bare : List ℕ) → map (λ l. l.now) ls ≡ lines text → place < length ls
    → line ≡ get_or ls place line → bare ≡ trimmed line.now → get_or (statements text) place (Some says.Nothing) ≡ statement_of bare
said_at text ls place line bare are within is without =
    ap (λ l. get_or (map (λ line. statement_of (trimmed line)) l) place (Some says.Nothing)) (sym are)
    ∙ get_or-map (λ line. statement_of (trimmed line)) (map (λ (l : Bor (List ℕ)). l.now) ls) place [] (Some says.Nothing) (omega (arith, length-map ls (λ (l : Bor (List ℕ)). l.now)))
    ∙ ap (λ line. statement_of (trimmed line)) (get_or-map (λ (l : Bor (List ℕ)). l.now) ls place line [] within)
    ∙ ap (λ (l : Bor (List ℕ)). statement_of (trimmed l.now)) (sym is) ∙ ap statement_of (sym without)

pub said_length : (text : List ℕ) (ls : List (Bor (List ℕ))) → map (λ l. l.now) ls ≡ lines text → length (statements text) ≡ length ls
said_length text ls are = length-map (lines text) (λ line. statement_of (trimmed line)) ∙ ap length (sym are) ∙ length-map ls (λ (l : Bor (List ℕ)). l.now)

module _ (text : List ℕ) (place : ℕ) (nodes : List NodeLine) (events : List Event) (read : ReadTo (statements text) place nodes events) where
  -- whether the next line is at fault
  fault_here : (s : Option Statement) → get_or (statements text) place (Some says.Nothing) ≡ s → fault_at (statements text) place ≡ is_fault nodes events s
  fault_here s e = λ i. is_fault (sym read.nodes_are i) (sym read.events_are i) (e i)

  -- one line more
  pub read_more : (s : Option Statement) (new_nodes : List NodeLine) (new_events : List Event) → place < length (statements text) → get_or (statements text) place (Some says.Nothing) ≡ s
      → is_fault nodes events s ≡ false → new_nodes ≡ nodes ++ node_in s → new_events ≡ events ++ event_in s → ReadTo (statements text) (place + 1) new_nodes new_events
  read_more s new_nodes new_events within e sound nodes_is events_is = record {
    nodes_are = nodes_is ∙ (λ i. read.nodes_are i ++ node_in (sym e i)) ∙ sym (more node_in);
    events_are = events_is ∙ (λ i. read.events_are i ++ event_in (sym e i)) ∙ sym (more event_in);
    sound = λ earlier lt. ⊎_elim
        (λ (before : earlier < place). read.sound earlier before)
        (λ last. let same : earlier ≡ place = omega arith in ap (fault_at (statements text)) same ∙ fault_here s e ∙ sound)
        (cases_lt earlier place);
  }
    where
      more : {X : Type 0} (f : Option Statement → List X) → flat_map f (take (place + 1) (statements text)) ≡ flat_map f (take place (statements text)) ++ f (get_or (statements text) place (Some says.Nothing))
      more f =
          ap (flat_map f) (take_more (statements text) place (Some says.Nothing) within)
          ∙ flat_map-append f (take place (statements text)) (get_or (statements text) place (Some says.Nothing) ∷ [])
          ∙ ap (λ l. flat_map f (take place (statements text)) ++ l) (append-nil (f (get_or (statements text) place (Some says.Nothing))))

  -- the next line is at fault
  pub refused : (s : Option Statement) → get_or (statements text) place (Some says.Nothing) ≡ s → is_fault nodes events s ≡ true → IsFirstFault text (place + 1)
  refused s e faulty = record { place = place; line_is = refl; faulty = fault_here s e ∙ faulty; first = read.sound }

  -- no line is left
  pub read_all : length (statements text) ≤ place → IsScript text (map (settings_among nodes) nodes) events
  read_all end = record {
    well_formed = λ any. ⊎_elim
        (λ (before : any < place). read.sound any before)
        (λ beyond. ap (is_fault (nodes_in (take any (statements text))) (events_in (take any (statements text)))) (get_or_past (statements text) any (Some says.Nothing) (omega arith)))
        (cases_lt any place);
    nodes_are = λ i. map (settings_among (nodes_all i)) (nodes_all i);
    events_are = read.events_are ∙ ap events_in all;
  }
    where
      all : take place (statements text) ≡ statements text
      all = take_all place (statements text) end

      nodes_all : nodes ≡ nodes_in (statements text)
      nodes_all = read.nodes_are ∙ ap nodes_in all

-- what a reader of a script returns
pub record ReturnsRight (text : List ℕ) (result : Result Script ScriptError) : Type 0 where
  pub script : IfOk result (λ found. IsScript text found.nodes.items found.events.items)
  pub only_script : (nodes : List NodeSettings) (events : List Event) → IsScript text nodes events → ReadsOnly result nodes events
  pub fault : Refuses result (IsFirstFault text)
  pub only_fault : (line : ℕ) → IsFirstFault text line → RefusesOnly result line

pub one_script : (text : List ℕ) (nodes other_nodes : List NodeSettings) (events other_events : List Event) → IsScript text nodes events → IsScript text other_nodes other_events
    → (nodes ≡ other_nodes) × (events ≡ other_events)
one_script text nodes other_nodes events other_events a b = (a.nodes_are ∙ sym b.nodes_are, a.events_are ∙ sym b.events_are)

pub script_without_fault : (text : List ℕ) (nodes : List NodeSettings) (events : List Event) (line : ℕ) → IsScript text nodes events → IsFirstFault text line → ⊥
script_without_fault text nodes events line script fault = false≢true (sym (script.well_formed fault.place) ∙ fault.faulty)

pub one_fault : (text : List ℕ) (line other : ℕ) → IsFirstFault text line → IsFirstFault text other → line ≡ other
one_fault text line other a b = ⊎_elim
    (λ (before : a.place < b.place). absurd (false≢true (sym (b.first a.place before) ∙ a.faulty)))
    (λ from. ⊎_elim
    (λ (behind : b.place < a.place). absurd (false≢true (sym (a.first b.place behind) ∙ b.faulty)))
    (λ until. omega (arith, a.line_is, b.line_is))
    (cases_lt b.place a.place))
    (cases_lt a.place b.place)

-- ---- what is returned

-- a line that is at fault is the only one that is returned, and the text is no script
pub returns_fault : (text : List ℕ) (line : ℕ) → IsFirstFault text line → ReturnsRight text (Err (script.Bad line))
returns_fault text line is = record {
  script = tt;
  only_script = λ nodes events other. script_without_fault text nodes events line other is;
  fault = is;
  only_fault = λ another fault. one_fault text line another is fault;
}

pub returns_memory : (text : List ℕ) → ReturnsRight text (Err script.Memory)
returns_memory text = record { script = tt; only_script = λ nodes events is. tt; fault = tt; only_fault = λ line is. tt }

-- a line wasn't taken
pub returns_refused : (text : List ℕ) (place : ℕ) (old new : Draft) (s : Option Statement) (fault : LineFault) → ReadTo (statements text) place old.nodes.items old.events.items
    → get_or (statements text) place (Some says.Nothing) ≡ s → Takes old new s (Err fault) → ReturnsRight text (Err (in_line place fault))
returns_refused text place old new s Form read at said = returns_fault text (place + 1) (refused text place old.nodes.items old.events.items read s at said)
returns_refused text place old new s Memory read at said = returns_memory text
