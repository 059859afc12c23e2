use Rattle.std.proofs.Common.{ap, ◌∙◌}
use Rattle.sheets.specs.File.{sheet_of, version_of}
use Rattle.sheets.specs.Part.{parts_left}
use Rattle.sheets.proofs.KeptSheets.{parts_absent, parts_there}
use Rattle.sheets.proofs.file.Sheets.parts.Goals as goal

pub returns-in-Some : goal.returns-in-Some
returns-in-Some c =
    let file = c.args.self.now in
    c.of.ensures
    ∙ ap (parts_left c.args.round) c.lines.ensures
    ∙ parts_there (version_of file) c.args.round c.in-Some.sheet.now (sheet_of file c.args.seat.0 c.args.round)
    c.in-Some.ensures.sheet

pub returns-in-None : goal.returns-in-None
returns-in-None c =
    let file = c.args.self.now in
    c.of-in-None.ensures
    ∙ ap (parts_left c.args.round) c.none.ensures
    ∙ parts_absent (version_of file) c.args.round (sheet_of file c.args.seat.0 c.args.round) c.in-None.ensures.sheet
