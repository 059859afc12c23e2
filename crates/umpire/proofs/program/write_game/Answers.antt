use Rattle.std.proofs.Common.{refl}
use Rattle.std.proofs.lemmas.Result.{err_from_is_err_and}
use Rattle.umpire.proofs.Parts.{all_of_start, cut_in_end, cut_in_header, cut_in_rounds, prefix_of_start}
use Rattle.umpire.proofs.Parts.{report_is_written}
use Rattle.umpire.proofs.Parts.{stops_short, whole_prefix}
use Rattle.umpire.proofs.program.write_game.Goals as goal

pub returns-in_err-write_header-clause-err : goal.returns-in_err-write_header-clause-err
returns-in_err-write_header-clause-err g c =
    let fault_is = err_from_is_err_and c.from_residual.result c.from_residual.ensures.1 in
    rw (fault_is.1, fault_is.2)
    (stops_short _ _ _ _ _ c.in_err-write_header.ensures.err
    (cut_in_header c.parts_are_the_report.ensures.prefix c.parts_are_the_report.ensures.whole c.some_report.ensures
    c.args.sheets.now c.requires.accepted _ _ c.in_err-write_header.ensures.prefix))

pub returns-in_err-play-clause-err : goal.returns-in_err-play-clause-err
returns-in_err-play-clause-err g c =
    let fault_is = err_from_is_err_and c.from_residual-in_err-play.result c.from_residual-in_err-play.ensures.1 in
    rw (fault_is.1, fault_is.2) (
      refl,
      c.in_ok-write_header.ensures.unfailed,
      cut_in_header c.parts_are_the_report.ensures.prefix
          c.parts_are_the_report.ensures.whole c.some_report.ensures c.args.sheets.now c.requires.accepted _ _
          (whole_prefix _ _ _ c.in_ok-write_header.ensures.ok),
    )

pub returns-in_err-write_rounds-clause-err : goal.returns-in_err-write_rounds-clause-err
returns-in_err-write_rounds-clause-err g c =
    let fault_is = err_from_is_err_and c.from_residual-in_err-write_rounds.result
    c.from_residual-in_err-write_rounds.ensures.1 in
    rw (fault_is.1, fault_is.2)
    (stops_short _ _ _ _ _ c.in_err-write_rounds.ensures.err
    (cut_in_rounds c.parts_are_the_report.ensures.prefix c.parts_are_the_report.ensures.whole c.some_report.ensures
    c.args.sheets.now c.requires.accepted _ _ _ c.in_ok-write_header.ensures.ok
    (prefix_of_start _ _ _ _ c.in_ok-play.ensures c.in_err-write_rounds.ensures.prefix)))

pub returns-in_err-write_end-clause-err : goal.returns-in_err-write_end-clause-err
returns-in_err-write_end-clause-err g c =
    let fault_is = err_from_is_err_and c.from_residual-in_err-write_end.result
    c.from_residual-in_err-write_end.ensures.1 in
    rw (fault_is.1, fault_is.2)
    (stops_short _ _ _ _ _ c.in_err-write_end.ensures.err
    (cut_in_end c.parts_are_the_report.ensures.prefix c.parts_are_the_report.ensures.whole c.some_report.ensures
    c.args.sheets.now c.requires.accepted _ _ _ _ _ c.in_ok-write_header.ensures.ok
    (all_of_start _ _ _ _ _ c.in_ok-play.ensures c.in_ok-write_rounds.ensures.ok) c.in_err-write_end.ensures.prefix))

pub returns-clause-ok : goal.returns-clause-ok
returns-clause-ok g c =
    report_is_written c.parts_are_the_report.ensures.prefix c.parts_are_the_report.ensures.whole c.some_report.ensures
    c.args.sheets.now c.requires.accepted _ _ _ _ _ c.in_ok-write_header.ensures.ok
    (all_of_start _ _ _ _ _ c.in_ok-play.ensures c.in_ok-write_rounds.ensures.ok) c.in_ok-write_end.ensures.ok
