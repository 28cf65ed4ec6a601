use Rattle.std.proofs.Common.{string_bytes, sym, ap, ◌∙◌}
use Rattle.std.proofs.lemmas.Str.{IsUtf8-string_bytes}
use Rattle.ini_config.specs.Settings.{settings_of}
use Rattle.answer.proofs.check.node_of.Goals as goal

pub returns-in-Ok-clause-said : goal.returns-in-Ok-clause-said
returns-in-Ok-clause-said g c = record {
  text = string_bytes c.in_ok-text.text;
  held = record { same = c.in_ok-text.ensures.held; utf8 = IsUtf8-string_bytes c.in_ok-text.text };
  said = ap settings_of (sym c.as_str.ensures.value) ∙ c.in-Ok.ensures;
}
