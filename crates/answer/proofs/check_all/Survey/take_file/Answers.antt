use Rattle.std.proofs.Common.{◌∙◌, string_bytes, sym, ap}
use Rattle.std.proofs.lemmas.Str.{IsUtf8-string_bytes}
use Rattle.ini_config.specs.Settings.{settings_of}
use Rattle.answer.proofs.AllFaultLemmas.{empty_text, file_told, no_text, none_seen, nothing_behind}
use Rattle.answer.proofs.check_all.Survey.take_file.Goals as goal

-- a file of which nothing is reported says settings
pub right_settings-requires : goal.right_settings-requires
right_settings-requires g c =
    let nothing = empty_text c.append_faults.new.report
    (sym c.is_empty.ensures ∙ c.if-not-is_empty.false) in
    let grew = c.in_ok-append_faults.ensures in
    let none = no_text c.args.file.now _ _ grew.0 grew.1
    (nothing_behind _ _ (sym grew.2 ∙ nothing)) in
    let is = c.in_ok-faults.ensures.accepted (none_seen _ none.0) none.1 in
    (is.0, ap settings_of (c.as_str-3.ensures.value ∙ sym c.as_str.ensures.value) ∙ is.1)

-- its faults are told
pub returns-then-not-is_empty-clause-told : goal.returns-then-not-is_empty-clause-told
returns-then-not-is_empty-clause-told g c =
    file_told (g.O.Opener.text c.args.opener.now c.args.file.now) c.args.file.now
    (string_bytes c.in_ok-text.text) _ _ _ _ _
    (record { same = c.in_ok-text.ensures.held; utf8 = IsUtf8-string_bytes c.in_ok-text.text })
    c.as_str.ensures.value c.in_ok-faults.ensures.faults c.in_ok-append_faults.ensures

pub returns-clause-told : goal.returns-clause-told
returns-clause-told g c =
    file_told (g.O.Opener.text c.args.opener.now c.args.file.now) c.args.file.now
    (string_bytes c.in_ok-text.text) _ _ _ _ _
    (record { same = c.in_ok-text.ensures.held; utf8 = IsUtf8-string_bytes c.in_ok-text.text })
    c.as_str.ensures.value c.in_ok-faults.ensures.faults c.in_ok-append_faults.ensures
