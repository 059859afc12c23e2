use Rattle.std.proofs.Common.{◌∙◌}
use Rattle.std.specs.HashMap.{get}
use Rattle.std.proofs.lemmas.Result.{err_from_is_err_and}
use Rattle.sheets.specs.Collecting.{lines_kept}
use Rattle.sheets.specs.File.{same_sheet_key, sheet_in}
use Rattle.sheets.specs.Text.{written_lines}
use Rattle.sheets.proofs.KeptSheets.{kept_exactly}
use Rattle.sheets.proofs.ReachLemmas.{sheets_at_end}
use Rattle.sheets.proofs.collecting.collect_body.Goals as goal

pub returns-in_err-take_line-clause-err : goal.returns-in_err-take_line-clause-err
returns-in_err-take_line-clause-err c =
    let p = err_from_is_err_and c.from_residual.result c.from_residual.ensures.1 in
    rw (p.1, p.2) (c.in_err-take_line.ensures.err (written_lines c.args.body.now) c.loop-piece.invariant.reaches)

pub returns-clause-sheets : goal.returns-clause-sheets
returns-clause-sheets c =
    let done = c.loop-piece.collection in
    kept_exactly c.args.version (get same_sheet_key c.close.new.self.sheets)
    (sheet_in c.args.players.now (written_lines c.args.body.now))
    (c.in_ok-close.ensures.versions c.loop-piece.invariant.versions)
    (λ sheet_key. c.in_ok-close.ensures.sheets sheet_key
    ∙ sheets_at_end c.args.version c.args.players.now (written_lines c.args.body.now)
    (lines_kept (get same_sheet_key done.sheets)) done.unread.items done.good c.loop-piece.rest.now
    done.current c.in_default.ensures.lines c.loop-piece.invariant.reaches sheet_key)
