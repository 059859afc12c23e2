use Rattle.order_grammar.proofs.PrefixLemmas.{at_error}
use Rattle.umpire.proofs.Parts.{cut_in_end, cut_in_header, cut_in_rounds, report_is_written}
use Rattle.umpire.proofs.VerifyLemmas.{prefix_of_rounds, rounds_are_written}
use Rattle.umpire.proofs.verification.write_played.Goals as goal

pub returns-clause-ok : goal.returns-clause-ok
returns-clause-ok g c =
    report_is_written c.parts_are_the_report.ensures.prefix c.parts_are_the_report.ensures.whole c.some_report.ensures
    c.args.sheets.now c.requires.accepted _ _ _ _ _
    c.in_ok-write_header.ensures.ok (rounds_are_written _ _ _ _ _ c.requires.texts c.in_ok-write_text.ensures.ok)
    c.in_ok-write_end.ensures.ok

pub returns-in_err-write_header-clause-prefix : goal.returns-in_err-write_header-clause-prefix
returns-in_err-write_header-clause-prefix g c =
    at_error c.from_residual.result
    (cut_in_header c.parts_are_the_report.ensures.prefix c.parts_are_the_report.ensures.whole c.some_report.ensures
    c.args.sheets.now c.requires.accepted _ _ c.in_err-write_header.ensures.prefix)

pub returns-in_err-write_text-clause-prefix : goal.returns-in_err-write_text-clause-prefix
returns-in_err-write_text-clause-prefix g c =
    at_error c.from_residual-in_err-write_text.result
    (cut_in_rounds c.parts_are_the_report.ensures.prefix c.parts_are_the_report.ensures.whole c.some_report.ensures
    c.args.sheets.now c.requires.accepted _ _ _ c.in_ok-write_header.ensures.ok
    (prefix_of_rounds _ _ _ _ _ c.requires.texts c.in_err-write_text.ensures.prefix))

pub returns-in_err-write_end-clause-prefix : goal.returns-in_err-write_end-clause-prefix
returns-in_err-write_end-clause-prefix g c =
    at_error c.from_residual-in_err-write_end.result
    (cut_in_end c.parts_are_the_report.ensures.prefix c.parts_are_the_report.ensures.whole c.some_report.ensures
    c.args.sheets.now c.requires.accepted _ _ _ _ _ c.in_ok-write_header.ensures.ok
    (rounds_are_written _ _ _ _ _ c.requires.texts c.in_ok-write_text.ensures.ok) c.in_err-write_end.ensures.prefix)
