use Rattle.std.proofs.Common.{◌∙◌}
use Rattle.sheets.specs.File.{sheet_key_at, sheet_of, version_of}
use Rattle.sheets.proofs.KeptSheets.{copied_missing, copied_there, missing_alike, there_alike}
use Rattle.sheets.proofs.PostLemmas.{found_by_sheet_key}
use Rattle.sheets.proofs.file.Sheets.sheet.Goals as goal

pub returns-clause-sheet : goal.returns-clause-sheet
returns-clause-sheet c =
    let sheet_key = sheet_key_at c.args.seat.0 c.args.round.now in
    rw (← c.self.view_is) (c.get.ensures.value ∙ found_by_sheet_key sheet_key c.self.inside.sheets.entries
    ∙ c.self.invariant.sheets_are sheet_key)

pub returns-clause-sent : goal.returns-clause-sent
returns-clause-sent c =
    let file = c.args.self.now in
    copied_there c.get.result
    ∙ there_alike (version_of file) _ (sheet_of file c.args.seat.0 c.args.round.now) (returns-clause-sheet c)

pub returns-clause-owed : goal.returns-clause-owed
returns-clause-owed c =
    let file = c.args.self.now in
    copied_missing c.get.result
    ∙ missing_alike (version_of file) _ (sheet_of file c.args.seat.0 c.args.round.now) (returns-clause-sheet c)
