use Rattle.std.proofs.Common.{cond, Some, refl, ap, ◌∙◌}
use Rattle.std.specs.HashMap.{get}
use Rattle.sheets.specs.File.{same_sheet_key}
use Rattle.sheets.specs.Sheet.{Unruled}
use Rattle.sheets.proofs.KeptSheets.{lines_after, versions_after}
use Rattle.sheets.proofs.PostLemmas.{found_after_insert}
use Rattle.sheets.proofs.collecting.Collection.close.Goals as goal

pub returns-in_ok-insert-clause-sheets : goal.returns-in_ok-insert-clause-sheets
returns-in_ok-insert-clause-sheets c = λ sheet_key.
    rw (← c.in-Some.ensures.value)
    (lines_after (get same_sheet_key c.args.self.now.sheets) (get same_sheet_key c.insert.new.self)
    c.in-Some.sheet.sheet_key sheet_key c.of-kept.result
    (found_after_insert c.in-Some.sheet.sheet_key sheet_key c.of-kept.result c.args.self.now.sheets.entries
    c.insert.new.self.entries (c.in_ok-insert.ensures.updates.0 sheet_key))
    ∙ rw (c.of-kept.ensures, c.saturating_sub-length.ensures) refl)

pub returns-in_ok-insert-clause-versions : goal.returns-in_ok-insert-clause-versions
returns-in_ok-insert-clause-versions c =
    let old = get same_sheet_key c.args.self.now.sheets in
    let key = c.in-Some.sheet.sheet_key in
    versions_after c.args.version old (get same_sheet_key c.insert.new.self) key _
    (λ sheet_key.
    found_after_insert key sheet_key c.of-kept.result c.args.self.now.sheets.entries
    c.insert.new.self.entries (c.in_ok-insert.ensures.updates.0 sheet_key)
    ∙ ap (λ (s : Unruled). cond (same_sheet_key key sheet_key) (Some s) (old sheet_key)) c.of-kept.ensures)
