use Rattle.std.proofs.Common.{◌≡◌, Some, None, sym, ap, ◌∙◌, arith}
use Rattle.std.specs.Prelude.{max}
use Rattle.desk_trials.proofs.HeadLemmas.{complete_next, incomplete}
use Rattle.sheets.proofs.PostLemmas.{found_by_sheet_key}
use Rattle.desk_trials.specs.Heads.{came}
use Rattle.desk_trials.specs.SheetLines.{first_line, later_of}
use Rattle.sheets.specs.declared.sheet_key.SheetKey.{SheetKey}
use Rattle.sheets.specs.File.{sheet_key_at}
use Rattle.tables.specs.declared.seat.Seat.{Seat}
use Rattle.desk_trials.proofs.check_sheets.Heads.complete_by.Goals as goal

pub returns-in_err-first : goal.returns-in_err-first
returns-in_err-first c =
    let heads = came c.args.self.now in
    let number = c.loop-number.number in
    let sent : SheetKey = record { seat = c.at-seat.result; round = c.args.round } in
    let first : None ≡ first_line (sheet_key_at number c.args.round) heads =
    c.in_err-first.ensures.value ∙ found_by_sheet_key sent c.args.self.now.first.entries ∙ c.requires.firsts sent
    ∙ ap (λ (seat : Seat). first_line (record { seat = seat; round = c.args.round }) heads) c.at-seat.ensures in
    c.from_residual.ensures
    ∙ sym (incomplete c.args.self.now.seats number c.args.round heads (omega (arith, c.loop-number-test.true)) (sym first))

pub loop-number-preserved : goal.loop-number-preserved
loop-number-preserved c =
    let heads = came c.args.self.now in
    let number = c.loop-number.number in
    let sent : SheetKey = record { seat = c.at-seat.result; round = c.args.round } in
    let first : Some c.in_ok-first.first.now ≡ first_line (sheet_key_at number c.args.round) heads =
    c.in_ok-first.ensures.value ∙ found_by_sheet_key sent c.args.self.now.first.entries ∙ c.requires.firsts sent
    ∙ ap (λ (seat : Seat). first_line (record { seat = seat; round = c.args.round }) heads) c.at-seat.ensures in
    let most : max c.loop-number.by c.in_ok-first.first.now ≡ c.max-by.result = grind (arith, c.max-by.ensures) in
    sym (complete_next number c.args.round heads)
    ∙ ap (λ by. later_of by (first_line (sheet_key_at number c.args.round) heads)) c.loop-number.invariant
    ∙ ap (later_of (Some c.loop-number.by)) (sym first)
    ∙ ap Some most
