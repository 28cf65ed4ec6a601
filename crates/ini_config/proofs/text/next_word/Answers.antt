use Rattle.std.proofs.Common.{◌≡◌, Some, None, length, ap, sym, ◌∙◌, arith, eqb-true, false-eqb}
use Rattle.std.specs.Prelude.{position}
use Rattle.std.proofs.lemmas.List.{nil_from_length}
use Rattle.ini_config.specs.Text.{is_blank, words}
use Rattle.ini_config.proofs.TextLemmas.{words-trim_front, words_last, blank_boundary, word_cut}
use Rattle.ini_config.proofs.text.next_word.Goals as goal

pub split_at-requires : goal.split_at-requires
split_at-requires c = blank_boundary c.trim_front-text.result.now c.in-Some.place (sym (ap (position is_blank) c.as_bytes.ensures.value) ∙ sym c.blank_place.ensures ∙ c.in-Some.is)

pub returns-then-is_empty-clause-words : goal.returns-then-is_empty-clause-words
unfolding words
returns-then-is_empty-clause-words c = sym (words-trim_front c.args.text.now) ∙ ap words (sym c.trim_front-text.ensures ∙ nil_from_length c.trim_front-text.result.now (eqb-true _ 0 (sym c.if-is_empty.ensures)))

pub returns-in-Some-clause-words : goal.returns-in-Some-clause-words
returns-in-Some-clause-words c =
    let found : position is_blank c.trim_front-text.result.now ≡ Some c.in-Some.place = sym (ap (position is_blank) c.as_bytes.ensures.value) ∙ sym c.blank_place.ensures ∙ c.in-Some.is in
    rw (c.split_at.ensures.front, c.split_at.ensures.back) (word_cut c.args.text.now c.trim_front-text.result.now c.in-Some.place c.trim_front-text.ensures found).0

pub returns-in-Some-clause-shorter : goal.returns-in-Some-clause-shorter
returns-in-Some-clause-shorter c =
    let found : position is_blank c.trim_front-text.result.now ≡ Some c.in-Some.place = sym (ap (position is_blank) c.as_bytes.ensures.value) ∙ sym c.blank_place.ensures ∙ c.in-Some.is in
    rw c.split_at.ensures.back (word_cut c.args.text.now c.trim_front-text.result.now c.in-Some.place c.trim_front-text.ensures found).1

pub returns-in-None-clause-words : goal.returns-in-None-clause-words
returns-in-None-clause-words c =
    let none : position is_blank c.trim_front-text.result.now ≡ None = sym (ap (position is_blank) c.as_bytes.ensures.value) ∙ sym c.blank_place.ensures ∙ c.in-None.is in
    sym (words-trim_front c.args.text.now) ∙ ap words (sym c.trim_front-text.ensures) ∙ words_last c.trim_front-text.result.now none (omega (arith, false-eqb (length c.trim_front-text.result.now) 0 c.if-is_empty.ensures))
