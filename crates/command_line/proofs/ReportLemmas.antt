-- The parameters that texts name are read one after the other.
use Rattle.std.proofs.Common.{◌≡◌, ℕ, ◌+◌, ◌<◌, ◌≤◌, List, get_or, length, map, drop, Bor, Some, None, refl}
use Rattle.std.proofs.lemmas.List.{drop_all}
use Rattle.startup.specs.Replies.{Report}
use Rattle.command_line.specs.ReportTexts.{report_added, reports_behind}
use Rattle.command_line.proofs.ArgumentLemmas.{texts_from}

-- the text at a place names one more
pub reports_more : (reports more : List Report) (texts : List (Bor (List ℕ))) (i : ℕ)
    (d : Bor (List ℕ)) → i < length texts → report_added reports (get_or texts i d).now ≡ Some more
    → reports_behind reports (map (λ t. t.now) (drop i texts))
    ≡ reports_behind more (map (λ t. t.now) (drop (i + 1) texts))
unfolding reports_behind
reports_more reports more texts i d within added = rw (texts_from texts i d within, added) refl

-- the text at a place is refused
pub reports_refused : (reports : List Report) (texts : List (Bor (List ℕ))) (i : ℕ)
    (d : Bor (List ℕ)) → i < length texts → report_added reports (get_or texts i d).now ≡ None
    → reports_behind reports (map (λ t. t.now) (drop i texts)) ≡ None
unfolding reports_behind
reports_refused reports texts i d within none = rw (texts_from texts i d within, none) refl

-- no text is left
pub reports_done : (reports : List Report) (texts : List (Bor (List ℕ))) (i : ℕ)
    → length texts ≤ i → reports_behind reports (map (λ t. t.now) (drop i texts)) ≡ Some reports
unfolding reports_behind
reports_done reports texts i past = rw (drop_all i texts past) refl
