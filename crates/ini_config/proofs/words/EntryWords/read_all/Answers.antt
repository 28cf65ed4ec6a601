use Rattle.std.proofs.Common.{◌∙◌, rules}
use Rattle.std.proofs.lemmas.Result.{err_from_is_err_and}
use Rattle.ini_config.specs.Text.{words}
use Rattle.ini_config.specs.View.{words_seen}
use Rattle.ini_config.proofs.WordLemmas.{words_go, words_stop, words_done}
use Rattle.ini_config.proofs.words.EntryWords.read_all.Goals as goal

pub returns-in_err-take_word : goal.returns-in_err-take_word
returns-in_err-take_word c =
    let p = err_from_is_err_and c.from_residual.result c.from_residual.ensures.1 in
    rw (p.1, p.2, c.loop-word.invariant.1)
    (words_stop c.args.kind (words_seen c.loop-word.words) (words c.loop-word.rest.now) c.in-Some.word.now (words c.in-Some.after.now) c.in_err-take_word.field-0.0 c.in-Some.ensures.words c.in_err-take_word.ensures)

pub loop-word-preserved : goal.loop-word-preserved
loop-word-preserved c = (
  search rules,
  c.loop-word.invariant.1 ∙ words_go c.args.kind (words_seen c.loop-word.words) (words c.loop-word.rest.now) (words_seen c.take_word.new.self) c.in-Some.word.now (words c.in-Some.after.now) c.in-Some.ensures.words c.in_ok-take_word.ensures,
)

pub returns : goal.returns
returns c = c.loop-word.invariant.1 ∙ words_done c.args.kind (words_seen c.loop-word.words) (words c.loop-word.rest.now) c.in_default.ensures.words
