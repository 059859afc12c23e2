use Rattle.std.proofs.Common.{ap, ◌∙◌}
use Rattle.sheets.proofs.PostLemmas.{found_by_sheet_key}
use Rattle.desk_trials.specs.SheetLines.{is_at}
use Rattle.desk_trials.proofs.check_sheets.Heads.counts.Goals as goal

pub returns-in-Some : goal.returns-in-Some
returns-in-Some c =
    ap (λ line. is_at line c.args.head.now.line.number)
    (c.in-Some.ensures.value ∙ found_by_sheet_key c.args.head.now.sent c.args.self.now.last.entries
    ∙ c.requires.lasts c.args.head.now.sent)

pub returns-in-None : goal.returns-in-None
returns-in-None c =
    ap (λ line. is_at line c.args.head.now.line.number)
    (c.in-None.ensures.value ∙ found_by_sheet_key c.args.head.now.sent c.args.self.now.last.entries
    ∙ c.requires.lasts c.args.head.now.sent)
