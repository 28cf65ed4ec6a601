-- One file more is read, or the first that is refused; and why nodes are no group.
use Rattle.std.proofs.Common.{◌≡◌, ℕ, suc, ◌+◌, ◌<◌, List, [], ◌∷◌, ◌++◌, ◌⊎◌, length, get_or, map, take, drop, Bor, Option, Result, Ok, Err, inl, inr, refl, sym, ◌∙◌, ap, subst}
use Rattle.std.proofs.lemmas.List.{take-append-drop, map-append}
use Rattle.std.proofs.Math.Seq.{drop-cons}
use Rattle.ini_config.specs.declared.fault.IniError.{IniError}
use Rattle.ini_config.specs.Node.{NodeSettings}
use Rattle.ini_config.specs.Group.{AllPeer, PeersDiffer, AllListed}
use Rattle.ini_config.specs.declared.fault.GroupError.{GroupError}
use Rattle.ini_config.specs.declared.fault.GroupError.TheVariants.{SamePeer, MissingPeer, NoPeering, Memory}
use Rattle.world.specs.declared.event.Event.{Event}
use Rattle.answer.specs.declared.fault.Fault.{Fault}
use Rattle.answer.specs.declared.fault.Fault.TheVariants as fault
use Rattle.answer.proofs.WordList.{AllZip-next}
use Rattle.answer.specs.Files.{Folder, Says, SayInOrder, HasFault, IsFirstFault, IsGroupFault, MakeNoGroup, IsFileFault, IsReached, IsCheckFault}
use Rattle.answer.specs.Scripts.{SaysNoGroup, SaysScript}
use Rattle.std.specs.Result.{IfErr, IsErrAnd}

-- `?` passes a refusal on as it is
pub passed_on : {T E : Type 0} (r : Result T E) (e : E) (P : E → Type 0) → IsErrAnd r (λ y. y ≡ e)
    → P e → IfErr r P
passed_on (Err y) e P is holds = subst P (sym is) holds
passed_on (Ok x) e P never holds = absurd never

-- the file at a place says what one node more is
pub SayInOrder-next : (holds : List ℕ → Option (List ℕ)) (files : List (Bor (List ℕ))) (i : ℕ)
    (d : Bor (List ℕ)) (nodes : List NodeSettings) (node : NodeSettings) → i < length files
    → SayInOrder holds (map (λ w. w.now) (take i files)) nodes
    → Says (holds (get_or files i d).now) node
    → SayInOrder holds (map (λ w. w.now) (take (i + 1) files)) (nodes ++ node ∷ [])
SayInOrder-next holds files i d nodes node within said says =
    AllZip-next (λ file n. Says (holds file) n) files i nodes d node within said says

module _ (folder : Folder) (files : List (Bor (List ℕ))) (i : ℕ) (d : Bor (List ℕ))
    (nodes : List NodeSettings) where
  -- the file at a place stands between the others
  place_at : i < length files → map (λ w. w.now) files ≡ map (λ w. w.now) (take i files)
      ++ (get_or files i d).now ∷ map (λ w. w.now) (drop (suc i) files)
  place_at within =
      ap (map (λ (w : Bor (List ℕ)). w.now))
      (sym (take-append-drop i files)
      ∙ ap (λ rest. take i files ++ rest) (drop-cons files i d within))
      ∙ map-append (λ (w : Bor (List ℕ)). w.now) (take i files)
      (get_or files i d ∷ drop (suc i) files)

  -- the file at a place is the first with a fault
  pub IsFirstFault-at : (error : IniError) → i < length files
      → SayInOrder folder.holds (map (λ w. w.now) (take i files)) nodes
      → HasFault (folder.holds (get_or files i d).now) error
      → IsFirstFault folder (map (λ w. w.now) files) (get_or files i d).now error
  IsFirstFault-at error within said fault = record {
    before = map (λ w. w.now) (take i files);
    after = map (λ w. w.now) (drop (suc i) files);
    place = place_at within;
    nodes = nodes;
    said = said;
    fault = fault;
  }

  -- the file at a place is reached
  pub IsReached-at : i < length files → SayInOrder folder.holds (map (λ w. w.now) (take i files)) nodes
      → IsReached folder (map (λ w. w.now) files) (get_or files i d).now
  IsReached-at within said = record {
    before = map (λ w. w.now) (take i files);
    after = map (λ w. w.now) (drop (suc i) files);
    place = place_at within;
    nodes = nodes;
    said = said;
  }

  -- the fault of the file at a place
  pub IsCheckFault-at : (f : Fault) → i < length files
      → SayInOrder folder.holds (map (λ w. w.now) (take i files)) nodes
      → IsFileFault folder (get_or files i d).now f
      → IsCheckFault folder (map (λ w. w.now) files) f
  IsCheckFault-at (fault.InFile file error) within said (same, inl memory) =
      inl (
        memory,
        subst (IsReached folder (map (λ w. w.now) files)) (sym same)
            (IsReached-at within said),
      )
  IsCheckFault-at (fault.InFile file error) within said (same, inr fault) =
      inr (subst (λ name. IsFirstFault folder (map (λ w. w.now) files) name error) (sym same)
      (IsFirstFault-at error within said fault))
  IsCheckFault-at (fault.Unread file reason) within said (same, unreadable) = (
    subst (IsReached folder (map (λ w. w.now) files)) (sym same) (IsReached-at within said),
    subst folder.unreadable (sym same) unreadable,
  )
  IsCheckFault-at fault.Memory within said _ = tt
  IsCheckFault-at (fault.Usage text) within said never = absurd never
  IsCheckFault-at (fault.InScript file line) within said never = absurd never
  IsCheckFault-at (fault.Explained text) within said never = absurd never
  IsCheckFault-at (fault.OfGroup error) within said never = absurd never
  IsCheckFault-at (fault.Packet number) within said never = absurd never
  IsCheckFault-at fault.NotACancel within said never = absurd never
  IsCheckFault-at (fault.Unexpected reply) within said never = absurd never

-- why nodes are no group
pub group_fault : (nodes : List NodeSettings) (error : GroupError)
    → (error ≡ NoPeering → ¬ AllPeer nodes)
    → (error ≡ SamePeer → AllPeer nodes × ¬ PeersDiffer nodes)
    → (error ≡ MissingPeer → AllPeer nodes × PeersDiffer nodes × ¬ AllListed nodes)
    → (error ≡ Memory) ⊎ IsGroupFault nodes error
group_fault nodes NoPeering zero same missing = inr (zero refl)
group_fault nodes SamePeer zero same missing = inr (same refl)
group_fault nodes MissingPeer zero same missing = inr (missing refl)
group_fault nodes Memory zero same missing = inl refl

-- nodes of files that are no group
pub MakeNoGroup-of : (folder : Folder) (files : List (List ℕ)) (nodes : List NodeSettings)
    (error : GroupError) → SayInOrder folder.holds files nodes
    → (error ≡ Memory) ⊎ IsGroupFault nodes error
    → (error ≡ Memory) ⊎ MakeNoGroup folder files error
MakeNoGroup-of folder files nodes error said (inl memory) = inl memory
MakeNoGroup-of folder files nodes error said (inr fault) =
    inr record { nodes = nodes; said = said; fault = fault }

-- nodes of a script that are no group
pub SaysNoGroup-of : (known : Option (List ℕ)) (nodes : List NodeSettings) (events : List Event)
    (error : GroupError) → SaysScript known nodes events
    → (error ≡ Memory) ⊎ IsGroupFault nodes error → (error ≡ Memory) ⊎ SaysNoGroup known error
SaysNoGroup-of known nodes events error said (inl memory) = inl memory
SaysNoGroup-of known nodes events error said (inr fault) =
    inr record { nodes = nodes; events = events; said = said; fault = fault }
