-- Arguments of a text without a zero byte have none.
use Rattle.std.proofs.Common.{◌≡◌, ◌∙◌, ◌≢◌, ℕ, ◌==◌, Bool, true, false, cond, Option, Some, None, IfSome, zero, suc, ◌+◌, ◌<◌, length, drop, get_or, arith, List, [], ◌∷◌, ◌++◌, sym, ap, subst}
use Rattle.std.specs.List.{AllByRecursion}
use Rattle.startup.specs.StartupMessage.{HasNoZero}
use Rattle.tracked_parameters.specs.Options.{is_space, mark, marks, whole, arguments_from, arguments}
use Rattle.std.specs.Prelude.{Vec}
use Rattle.std.specs.declared.alloc.Global.{Global}
use Rattle.std.proofs.lemmas.List.{drop_more}
use Rattle.tracked_parameters.specs.StoredReports.{items, all_items}
use Rattle.tracked_parameters.proofs.ConstantLemmas.{all_append}

abbrev NoZero : Option ℕ → Type 0
NoZero mark = IfSome mark (λ byte. byte ≢ 0)

mark_text : (byte : ℕ) → byte ≢ 0 → NoZero (mark byte)
mark_text byte some = go (is_space byte)
  where
    go : (b : Bool) → NoZero (cond b None (Some byte))
    go true = tt
    go false = some

marks_text : (escaped : Bool) (text : List ℕ) → HasNoZero text → AllByRecursion NoZero (marks escaped text)
marks_text true [] all = tt
marks_text false [] all = tt
marks_text true (byte ∷ text) all = (all.0, marks_text false text all.1)
marks_text false (byte ∷ text) all = go (byte == 92) (marks_text true text all.1) (marks_text false text all.1)
  where
    go : (b : Bool) → AllByRecursion NoZero (marks true text) → AllByRecursion NoZero (marks false text) → AllByRecursion NoZero (cond b (marks true text) (mark byte ∷ marks false text))
    go true escaped plain = escaped
    go false escaped plain = (mark_text byte all.0, plain)

whole_text : (begun : List ℕ) → HasNoZero begun → AllByRecursion HasNoZero (whole begun)
whole_text [] all = tt
whole_text (byte ∷ begun) all = (all, tt)

from_text : (begun : List ℕ) (left : List (Option ℕ)) → HasNoZero begun → AllByRecursion NoZero left → AllByRecursion HasNoZero (arguments_from begun left)
from_text begun [] all more = whole_text begun all
from_text begun (None ∷ left) all more = all_append HasNoZero (whole begun) (arguments_from [] left) (whole_text begun all) (from_text [] left tt more.1)
from_text begun (Some byte ∷ left) all more =
    from_text (begun ++ byte ∷ []) left (all_append (λ (b : ℕ). b ≢ 0) begun (byte ∷ []) all (more.0, tt)) more.1

pub arguments_text : (text : List ℕ) → HasNoZero text → AllByRecursion HasNoZero (arguments text)
arguments_text text all = from_text [] (marks false text) tt (marks_text false text all)

all_at : (all : List (Vec ℕ Global)) (place : ℕ) (one : Vec ℕ Global) → AllByRecursion HasNoZero (all_items all) → place < length all → HasNoZero (get_or all place one).items
all_at [] place one texts within = absurd (omega arith)
all_at (first ∷ all) zero one texts within = texts.0
all_at (first ∷ all) (suc place) one texts within = all_at all place one texts.1 (omega arith)

-- the argument at a place
pub argument_at : (all : List (Vec ℕ Global)) (place : ℕ) (one : Vec ℕ Global) (bytes : List ℕ) → AllByRecursion HasNoZero (all_items all) → place < length all → one ≡ get_or all place one → bytes ≡ one.items → HasNoZero bytes
argument_at all place one bytes texts within is same =
    subst HasNoZero (sym (same ∙ ap items is)) (all_at all place one texts within)

-- it is the first of those from the place on
pub arguments_more : (all : List (Vec ℕ Global)) (place : ℕ) (one : Vec ℕ Global) (bytes : List ℕ) → place < length all → one ≡ get_or all place one → bytes ≡ one.items → bytes ∷ all_items (drop (place + 1) all) ≡ all_items (drop place all)
arguments_more all place one bytes within is same =
    ap (λ (b : List ℕ). b ∷ all_items (drop (place + 1) all)) (same ∙ ap items is) ∙ sym (ap all_items (drop_more all place one within))
