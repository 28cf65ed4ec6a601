use Rattle.std.proofs.Common.{◌≡◌, length}
use denote.Text.{Utf8}
use denote.Shadow.{shadow}
use Rattle.ini_config.specs.Text.{words}
use Rattle.ini_config.specs.Entry.{words_read, no_words}
use Rattle.ini_config.specs.View.{words_seen}
use Rattle.ini_config.proofs.words.EntryWords.read_all.Given as goal

abbrev pub invariant-loop-word : goal.invariant-loop-word
invariant-loop-word l = shadow (Utf8 l.rest) × (words_read l.kind no_words (words l.value) ≡ words_read l.kind (words_seen l.words) (words l.rest))

abbrev pub decreases-loop-word : goal.decreases-loop-word
decreases-loop-word l = length l.rest
