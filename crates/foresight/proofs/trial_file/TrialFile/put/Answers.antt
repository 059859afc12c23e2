use Rattle.std.proofs.Common.{◌++◌, ap, ◌∙◌}
use Rattle.foresight.proofs.TrialFileLemmas.{begun_behind}
use Rattle.foresight.specs.TrialFile.{sheet_if}
use Rattle.tables.specs.declared.seat.Seat.{Seat}
use Rattle.foresight.proofs.trial_file.TrialFile.put.Goals as goal
use Rattle.tables.proofs.OneMore.{seats_step}

pub loop-seat-preserved : goal.loop-seat-preserved
loop-seat-preserved c =
    let before = c.loop-seat.self.bytes.items in
    let file = c.args.sheets.now in (
      c.loop-seat.invariant.0,
      seats_step (sheet_if file c.args.round c.args.whose) c.loop-seat.seat _ _ _ c.loop-seat.invariant.1
          (c.in_ok-push_sheet_if.ensures
          ∙ ap (λ (seat : Seat). before ++ sheet_if file c.args.round c.args.whose seat.0) c.at.ensures),
    )

pub returns-clause-begun : goal.returns-clause-begun
returns-clause-begun c =
    begun_behind c.args.sheets.now c.args.self.now _ _ c.requires c.loop-seat.invariant.0 c.loop-seat.invariant.1
