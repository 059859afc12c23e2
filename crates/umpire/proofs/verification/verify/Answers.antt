use Rattle.std.specs.Prelude.{Ok}
use Rattle.std.proofs.lemmas.Result.{IfErr-weaker, err_from_is_err_and, on_ok_weaker}
use Rattle.umpire.proofs.VerifyLemmas.{answered_whole, stops_reading, stops_of_input}
use Rattle.umpire.proofs.verification.verify.Goals as goal

pub returns-in_err-input-clause-err : goal.returns-in_err-input-clause-err
returns-in_err-input-clause-err g c =
    let given = err_from_is_err_and c.from_residual.result c.from_residual.ensures.1 in
    rw (given.1, given.2) (stops_reading _ _ _ _ _ c.in_err-input.ensures.err c.requires.writer)

pub returns-clause-ok : goal.returns-clause-ok
returns-clause-ok g c =
    let known = rw c.as_slice.ensures.value at c.write_answer.ensures.ok in
    on_ok_weaker c.write_answer.result (answered_whole _ _ _ c.in_ok-input.input.items (Ok tt)
    c.in_ok-input.ensures.bytes) known

pub returns-clause-err : goal.returns-clause-err
returns-clause-err g c =
    let known = rw c.as_slice.ensures.value at c.write_answer.ensures.err in
    IfErr-weaker c.write_answer.result _ _
    (λ fault held. stops_of_input _ _ _ c.in_ok-input.input.items _ _ fault c.in_ok-input.ensures.bytes
    c.in_ok-input.ensures.ok held) known
