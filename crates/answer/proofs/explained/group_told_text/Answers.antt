use Rattle.std.proofs.Common.{◌∙◌, ap}
use Rattle.answer.specs.Explained.{told_text}
use Rattle.answer.proofs.explained.group_told_text.Goals as goal

pub returns : goal.returns
returns c = record {
  words = c.args.words.now;
  told_is = c.in_ok-append_notes.ensures
      ∙ ap (λ t. told_text t c.args.words.now) c.in_ok-text.ensures;
}
