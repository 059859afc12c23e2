use Rattle.std.proofs.Common.{sym}
use Rattle.std.specs.HashMap.{get}
use Rattle.sheets.specs.Collecting.{lines_kept}
use Rattle.sheets.specs.File.{same_sheet_key}
use Rattle.sheets.proofs.ReachLemmas.{reaches_skipped}
use Rattle.sheets.proofs.collecting.Collection.skip_open_sheet.Goals as goal

pub returns-then-is_some-clause-reaches : goal.returns-then-is_some-clause-reaches
returns-then-is_some-clause-reaches c = λ version players body r.
    let kept = c.args.self.now in
    reaches_skipped version players body (lines_kept (get same_sheet_key kept.sheets)) kept.unread.items kept.good
    c.from_sheet_line.result.now c.args.text.now kept.current (sym c.if-is_some.ensures)
    c.from_sheet_line.ensures.skipped r
