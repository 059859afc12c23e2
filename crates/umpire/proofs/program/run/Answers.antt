use Rattle.std.proofs.lemmas.Result.{IfErr-weaker, err_from_is_err_and, on_ok_weaker}
use Rattle.umpire.proofs.Files.{read_stops, reported, stops}
use Rattle.umpire.proofs.program.run.Goals as goal

pub returns-in_err-file-clause-err : goal.returns-in_err-file-clause-err
returns-in_err-file-clause-err g c =
    let given = err_from_is_err_and c.from_residual.result c.from_residual.ensures.1 in
    rw (given.1, given.2)
    (read_stops c.some_report.ensures _ _ _ _ _ c.in_err-file.ensures.err c.requires.writer)

pub returns-clause-ok : goal.returns-clause-ok
returns-clause-ok g c =
    let known = rw c.as_slice.ensures.value at c.write_answer.ensures.ok in
    on_ok_weaker c.write_answer.result (reported _ _ _ c.in_ok-file.file.items c.in_ok-file.ensures.file) known

pub returns-clause-err : goal.returns-clause-err
returns-clause-err g c =
    let known = rw c.as_slice.ensures.value at c.write_answer.ensures.err in
    IfErr-weaker c.write_answer.result _ _
    (λ fault held. stops _ _ _ c.in_ok-file.file.items _ _ fault c.in_ok-file.ensures.file c.in_ok-file.ensures.ok
    held) known
