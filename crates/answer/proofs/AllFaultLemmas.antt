-- All faults of files are reported.
use Rattle.std.proofs.Common.{◌≡◌, ℕ, ◌+◌, ◌<◌, ◌⊎◌, List, [], ◌∷◌, ◌++◌, codes, length, eqb, true, String, Global, string_bytes, get_or, map, take, Bor, Option, inl, inr, arith, refl, sym, ◌∙◌, ap, subst, append-nil, append_assoc}
use Rattle.std.specs.String.{string_len}
use Rattle.std.proofs.lemmas.Bool.Decides.{nat_tests}
use Rattle.std.proofs.lemmas.List.{nil_from_length, take_more, map_push, length-map, get_or-map}
use Rattle.std.proofs.lemmas.Grind.{flat_map-append}
use Rattle.std.proofs.lemmas.Slice.Zip.{all_zipped_more}
use Rattle.std.specs.List.{AllZip}
use Rattle.std.specs.Str.Lines.{lines}
use Rattle.std.specs.Prelude.{flat_map, Contains}
use Rattle.ini_config.specs.Faults.{AreFaults, LineFault}
use Rattle.ini_config.specs.declared.fault.IniCode.{IniCode}
use Rattle.ini_config.specs.declared.faults.WholeFault.{WholeFault}
use Rattle.ini_config.specs.Node.{NodeSettings}
use Rattle.ini_config.specs.Surveyed.{line_fault_seen, line_faults_seen}
use Rattle.ini_config.specs.declared.faults.LineFault.{LineFault as LineFaultRead}
use Rattle.ini_config.specs.declared.fault.GroupError.{GroupError}
use Rattle.ini_config.specs.declared.fault.GroupError.TheVariants as group
use Rattle.answer.specs.declared.fault.Fault.{Fault}
use Rattle.answer.specs.declared.fault.Fault.TheVariants as fault
use Rattle.answer.specs.Files.{Folder, Holds, IsGroupFault, SayInOrder}
use Rattle.answer.specs.AllFaults.{TellsFaults, TellsAll, IsUnreadFile, IsUnread, TellsNoGroup, IsWholeFault}
use Rattle.answer.specs.Explained.{GrowsBy, IsTold, TellsEach, TellsFile, explained, line_text, note_text, notes_text, told_text, whole_text, sentence, whole_code, whole_sentence, group_fault_text}
use Rattle.answer.proofs.WordList.{AllZip-next}

-- ---- texts that follow each other

-- one text more
flat_push : {B : Type 0} (f : B → List ℕ) (ys : List B) (y : B)
    → flat_map f (ys ++ y ∷ []) ≡ flat_map f ys ++ f y
flat_push f ys y = flat_map-append f ys (y ∷ []) ∙ ap (λ t. flat_map f ys ++ t) (append-nil (f y))

-- one item more is told
pub tells_more : {B : Type 0} (tells : B → List ℕ → Type 0) (items : List B) (item : B)
    (old mid new : List ℕ) → GrowsBy (TellsEach tells items) old mid → GrowsBy (tells item) mid new
    → GrowsBy (TellsEach tells (items ++ item ∷ [])) old new
tells_more tells items item old mid new (told, so_far, mid_is) (part, is, new_is) = (
  told ++ part,
  record {
    parts = so_far.parts ++ part ∷ [];
    each = all_zipped_more tells items so_far.parts item part so_far.each is;
    told_is = ap (λ t. t ++ part) so_far.told_is ∙ sym (flat_push (λ p. p) so_far.parts part);
  },
  new_is ∙ ap (λ t. t ++ part) mid_is ∙ append_assoc old told part,
)

-- the faults of the lines, and then those of the whole
pub tells_both : (file : List ℕ) (faults : List LineFault) (whole : List WholeFault)
    (old mid new : List ℕ)
    → GrowsBy (TellsEach (λ fault. IsTold (line_text file fault)) faults) old mid
    → GrowsBy (TellsEach (λ fault. IsTold (whole_text file fault)) whole) mid new
    → GrowsBy (TellsFile file faults whole) old new
tells_both file faults whole old mid new (in_lines, lines_told, mid_is)
    (in_whole, whole_told, new_is) = (
      in_lines ++ in_whole,
      record {
        in_lines = in_lines;
        lines_told = lines_told;
        in_whole = in_whole;
        whole_told = whole_told;
        told_is = refl;
      },
      new_is ∙ ap (λ t. t ++ in_whole) mid_is ∙ append_assoc old in_lines in_whole,
    )

-- one item of a list more, each seen by view
pub seen_more : {A B : Type 0} (view : A → B) (xs : List A) (i : ℕ) (d : A) → i < length xs
    → map view (take (i + 1) xs) ≡ map view (take i xs) ++ view (get_or xs i d) ∷ []
seen_more view xs i d within = ap (map view) (take_more xs i d within)
    ∙ map_push view (take i xs) (get_or xs i d)

-- one fault of a line more
pub line_more : (file : List ℕ) (faults : List LineFaultRead) (i : ℕ) (d : LineFaultRead)
    (old mid new : List ℕ) → i < length faults
    → GrowsBy (TellsEach (λ fault. IsTold (line_text file fault)) (line_faults_seen (take i faults)))
    old mid
    → GrowsBy (IsTold (line_text file (line_fault_seen (get_or faults i d)))) mid new
    → GrowsBy (TellsEach (λ fault. IsTold (line_text file fault))
    (line_faults_seen (take (i + 1) faults))) old new
line_more file faults i d old mid new within so_far is =
    subst (λ fs. GrowsBy (TellsEach (λ fault. IsTold (line_text file fault)) fs) old new)
    (sym (seen_more line_fault_seen faults i d within))
    (tells_more (λ fault. IsTold (line_text file fault)) (line_faults_seen (take i faults))
    (line_fault_seen (get_or faults i d)) old mid new so_far is)

-- one fault of the whole more
pub whole_more : (file : List ℕ) (faults : List WholeFault) (i : ℕ) (d : WholeFault)
    (old mid new : List ℕ) → i < length faults
    → GrowsBy (TellsEach (λ fault. IsTold (whole_text file fault)) (take i faults)) old mid
    → GrowsBy (IsTold (whole_text file (get_or faults i d))) mid new
    → GrowsBy (TellsEach (λ fault. IsTold (whole_text file fault)) (take (i + 1) faults)) old new
whole_more file faults i d old mid new within so_far is =
    subst (λ fs. GrowsBy (TellsEach (λ fault. IsTold (whole_text file fault)) fs) old new)
    (sym (take_more faults i d within))
    (tells_more (λ fault. IsTold (whole_text file fault)) (take i faults) (get_or faults i d)
    old mid new so_far is)

-- a line and words were appended
pub told_by : (old new text line words : List ℕ) → new ≡ old ++ told_text text words
    → text ≡ line → GrowsBy (IsTold line) old new
told_by old new text line words grown is = (
  told_text line words,
  record { words = words; told_is = refl },
  grown ∙ ap (λ t. old ++ told_text t words) is,
)

-- one line of words more
pub note_more : (xs : List (Bor (List ℕ))) (i : ℕ) (d : Bor (List ℕ)) (old mid new : List ℕ)
    → i < length xs
    → mid ≡ old ++ flat_map note_text (map (λ line. line.now) (take i xs))
    → new ≡ mid ++ note_text (get_or xs i d).now
    → new ≡ old ++ flat_map note_text (map (λ line. line.now) (take (i + 1) xs))
note_more xs i d old mid new within so_far grown =
    let more : flat_map note_text (map (λ (line : Bor (List ℕ)). line.now) (take (i + 1) xs))
    ≡ flat_map note_text (map (λ (line : Bor (List ℕ)). line.now) (take i xs))
    ++ note_text (get_or xs i d).now =
    ap (flat_map note_text) (seen_more (λ (line : Bor (List ℕ)). line.now) xs i d within)
    ∙ flat_push note_text (map (λ line. line.now) (take i xs)) (get_or xs i d).now in
    grown ∙ ap (λ t. t ++ note_text (get_or xs i d).now) so_far
    ∙ append_assoc old _ _ ∙ ap (λ t. old ++ t) (sym more)

-- ---- texts that aren't empty

first_some : (a b : List ℕ) → (a ≡ [] → ⊥) → a ++ b ≡ [] → ⊥
first_some [] b some e = some refl
first_some (x ∷ a) b some e = cc

last_some : (a b : List ℕ) → (b ≡ [] → ⊥) → a ++ b ≡ [] → ⊥
last_some [] b some e = some e
last_some (x ∷ a) b some e = cc

pub nothing_before : (a b : List ℕ) → a ++ b ≡ [] → a ≡ []
nothing_before [] b e = refl
nothing_before (x ∷ a) b e = cc

pub nothing_behind : (a b : List ℕ) → a ++ b ≡ [] → b ≡ []
nothing_behind [] b e = e
nothing_behind (x ∷ a) b e = cc

explained_some : (file : List ℕ) (line : ℕ) (code : IniCode) (words : List ℕ)
    → explained file line code words ≡ [] → ⊥
explained_some file line code words = last_some _ (10 ∷ []) (λ (e : 10 ∷ [] ≡ []). cc)

told_some : (line told : List ℕ) → (line ≡ [] → ⊥) → IsTold line told → told ≡ [] → ⊥
told_some line told some is e =
    first_some line (notes_text is.words) some (sym is.told_is ∙ e)

-- where each item would be told in some words and nothing is told, there is no item
none_told : {B : Type 0} (tells : B → List ℕ → Type 0)
    → ((b : B) (part : List ℕ) → tells b part → part ≡ [] → ⊥)
    → (items : List B) (parts : List (List ℕ)) → AllZip tells items parts
    → flat_map (λ part. part) parts ≡ [] → items ≡ []
none_told tells some [] parts each e = refl
none_told tells some (b ∷ bs) [] each e = absurd each
none_told tells some (b ∷ bs) (p ∷ ps) each e =
    absurd (some b p each.0 (nothing_before p (flat_map (λ part. part) ps) e))

-- a file of which nothing is reported has no faults
pub no_text : (file : List ℕ) (faults : List LineFault) (whole : List WholeFault) (told : List ℕ)
    → TellsFile file faults whole told → told ≡ [] → (faults ≡ []) × (whole ≡ [])
no_text file faults whole told tells e =
    let nothing = sym tells.told_is ∙ e in (
      none_told (λ fault. IsTold (line_text file fault))
          (λ l part is. told_some (line_text file l) part
          (explained_some file l.line l.code (sentence l.code l.subject)) is)
          faults tells.lines_told.parts tells.lines_told.each
          (sym tells.lines_told.told_is ∙ nothing_before tells.in_lines tells.in_whole nothing),
      none_told (λ fault. IsTold (whole_text file fault))
          (λ w part is. told_some (whole_text file w) part
          (explained_some file 0 (whole_code w) (whole_sentence w)) is)
          whole tells.whole_told.parts tells.whole_told.each
          (sym tells.whole_told.told_is ∙ nothing_behind tells.in_lines tells.in_whole nothing),
    )

-- ---- one file more

-- all faults of the text that a file holds were told
pub file_told : (known : Option (List ℕ)) (file text seen : List ℕ) (faults : List LineFault)
    (whole : List WholeFault) (old new : List ℕ) → Holds known text → seen ≡ text
    → AreFaults [] (lines seen) faults whole → GrowsBy (TellsFile file faults whole) old new
    → GrowsBy (TellsFaults known file) old new
file_told known file text seen faults whole old new held is all (part, tells, grown) = (
  part,
  record {
    text = text;
    held = held;
    in_lines = faults;
    whole = whole;
    faults = subst (λ t. AreFaults [] (lines t) faults whole) is all;
    tells = tells;
  },
  grown,
)

pub TellsAll-next : (holds : List ℕ → Option (List ℕ)) (files : List (Bor (List ℕ))) (i : ℕ)
    (d : Bor (List ℕ)) (old new part : List ℕ) → i < length files
    → TellsAll holds (map (λ w. w.now) (take i files)) old
    → TellsFaults (holds (get_or files i d).now) (get_or files i d).now part → new ≡ old ++ part
    → TellsAll holds (map (λ w. w.now) (take (i + 1) files)) new
TellsAll-next holds files i d old new part within so_far tells grown = record {
  parts = so_far.parts ++ part ∷ [];
  each = AllZip-next (λ file told. TellsFaults (holds file) file told) files i so_far.parts d part
      within so_far.each tells;
  told_is = grown ∙ ap (λ t. t ++ part) so_far.told_is
      ∙ sym (flat_push (λ p. p) so_far.parts part);
}

-- ---- a file that can't be read

-- the file at a place is one of them
pub IsUnread-at : (folder : Folder) (files : List (Bor (List ℕ))) (i : ℕ) (d : Bor (List ℕ))
    (why : Fault) → i < length files → IsUnreadFile folder (get_or files i d).now why
    → IsUnread folder (map (λ w. w.now) files) why
IsUnread-at folder files i d why within unread = record {
  name = (get_or files i d).now;
  one = one;
  unread = unread;
}
  where
    one : Contains (map (λ (w : Bor (List ℕ)). w.now) files) (get_or files i d).now
    one = (
      i,
      rw (length-map files (λ (w : Bor (List ℕ)). w.now)) within,
      get_or-map (λ (w : Bor (List ℕ)). w.now) files i d (get_or files i d).now within,
    )

-- ---- texts and lists that are empty

pub empty_text : (s : String Global) → eqb (string_len s) 0 ≡ true → string_bytes s ≡ []
empty_text s e =
    let zero : string_len s ≡ 0 = grind (arith, nat_tests) in
    nil_from_length (string_bytes s) (sym s.bytes.ok.0 ∙ zero)

pub none_seen : (faults : List LineFaultRead) → line_faults_seen faults ≡ [] → faults ≡ []
none_seen [] e = refl
none_seen (f ∷ faults) e = cc

-- ---- why files make no group

pub whole_unread : (folder : Folder) (files : List (List ℕ)) (why : Fault) → IsUnread folder files why
    → IsWholeFault folder files why
whole_unread folder files (fault.Usage text) h = h
whole_unread folder files (fault.InFile file error) h = h
whole_unread folder files (fault.InScript file line) h = h
whole_unread folder files (fault.Explained text) h = absurd h.unread
whole_unread folder files (fault.OfGroup error) h = h
whole_unread folder files (fault.Unread file reason) h = h
whole_unread folder files (fault.Packet number) h = h
whole_unread folder files fault.NotACancel h = h
whole_unread folder files (fault.Unexpected reply) h = h
whole_unread folder files fault.Memory h = tt

pub whole_group : (folder : Folder) (files : List (List ℕ)) (nodes : List NodeSettings) (why : Fault)
    → SayInOrder folder.holds files nodes → (why ≡ fault.Memory) ⊎ TellsNoGroup nodes why
    → IsWholeFault folder files why
whole_group folder files nodes why said (inl memory) =
    subst (IsWholeFault folder files) (sym memory) tt
whole_group folder files nodes why said (inr tells) =
    subst (IsWholeFault folder files) (sym tells.why_is) (inr record {
      error = tells.error;
      fault = record { nodes = nodes; said = said; fault = tells.refused };
      tells = tells.tells;
    })

-- why a group is refused
pub told_group : (nodes : List NodeSettings) (error : GroupError) (why : Fault)
    → (error ≡ group.Memory) ⊎ IsGroupFault nodes error → (error ≡ group.Memory → why ≡ fault.Memory)
    → (why ≡ fault.Memory) ⊎ ((text : String Global)
    × IsTold (group_fault_text error) (string_bytes text) × (why ≡ fault.Explained text))
    → (why ≡ fault.Memory) ⊎ TellsNoGroup nodes why
told_group nodes error why (inl is_memory) memory told = inl (memory is_memory)
told_group nodes error why (inr refused) memory (inl is) = inl is
told_group nodes error why (inr refused) memory (inr (text, tells, why_is)) = inr record {
  error = error;
  refused = refused;
  text = text;
  tells = tells;
  why_is = why_is;
}
