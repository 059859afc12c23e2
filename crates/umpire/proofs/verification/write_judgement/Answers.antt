use Rattle.std.proofs.Common.{List, ℕ, ap, subst, arith, rules}
use Rattle.std.proofs.lemmas.Grind.{common_steps}
use Rattle.std.specs.Prelude.{Err}
use Rattle.std.proofs.lemmas.Result.{err_from_is_err_and, on_ok_weaker}
use Rattle.rounds.specs.Steps.{Underway}
use Rattle.umpire.proofs.Judged.{refused_lacks}
use Rattle.umpire.proofs.VerifyLemmas.{line_cut, none_cut, played_stops, refusal_answers_game, report_answers}
use Rattle.umpire.proofs.VerifyLemmas.{writing_stops}
use Rattle.umpire.specs.Groups.{groups_of}
use Rattle.umpire.specs.Verify.{HasAllGroups, IsJudged}
use Rattle.umpire.proofs.verification.write_judgement.Goals as goal

pub returns-in-Ok-clause-ok : goal.returns-in-Ok-clause-ok
returns-in-Ok-clause-ok g c =
    let all = subst (λ (file : List ℕ). HasAllGroups file (groups_of c.args.certificates.now))
    (ap (λ (play : Underway). play.file) c.in_ok-play.ensures) c.in-Ok.ensures.judged in
    on_ok_weaker c.write_played.result (report_answers c.args.sheets.now _ _ _ all) c.write_played.ensures.ok

pub returns-in-Ok-clause-err : goal.returns-in-Ok-clause-err
returns-in-Ok-clause-err g c =
    let all = subst (λ (file : List ℕ). HasAllGroups file (groups_of c.args.certificates.now))
    (ap (λ (play : Underway). play.file) c.in_ok-play.ensures) c.in-Ok.ensures.judged in
    played_stops c.write_played.result c.args.sheets.now _ _ _ _ all c.write_played.ensures.err
    c.write_played.ensures.prefix

pub returns-clause-err : goal.returns-clause-err
returns-clause-err g c =
    let here = c.in-Err-Refused in
    let groups = groups_of c.args.certificates.now in
    let judged = subst (λ (file : List ℕ). IsJudged {A = List ℕ} file groups (Err here.field-0))
    (ap (λ (play : Underway). play.file) c.in_ok-play.ensures) here.ensures.judged in
    let written = c.in_ok-write_uncertified-in-Err-Refused.ensures in
    let is = here.field-0-is in
    let of_round = here.round-is in
    let of_company = here.company-is in
    refusal_answers_game c.args.sheets.now _ _ _ _ _ _ written.ok written.unfailed
    (refused_lacks _ _ here.field-0 _ _ (first_of (cc, search rules, grind (arith, common_steps))) judged)

pub returns-in_err-write_uncertified-in-Err-Refused-clause-err :
    goal.returns-in_err-write_uncertified-in-Err-Refused-clause-err
returns-in_err-write_uncertified-in-Err-Refused-clause-err g c =
    let here = c.in-Err-Refused in
    let groups = groups_of c.args.certificates.now in
    let judged = subst (λ (file : List ℕ). IsJudged {A = List ℕ} file groups (Err here.field-0))
    (ap (λ (play : Underway). play.file) c.in_ok-play.ensures) here.ensures.judged in
    let stopped = c.in_err-write_uncertified-in-Err-Refused.ensures in
    let is = here.field-0-is in
    let of_round = here.round-is in
    let of_company = here.company-is in
    let lacks = refused_lacks _ _ here.field-0 _ _ (first_of (cc, search rules, grind (arith, common_steps))) judged in
    let given = err_from_is_err_and c.from_residual-in_err-write_uncertified-in-Err-Refused.result
    c.from_residual-in_err-write_uncertified-in-Err-Refused.ensures.1 in
    rw (given.1, given.2) (writing_stops _ _ _ _ _ _ stopped.err (line_cut _ _ _ _ _ _ lacks stopped.prefix))

pub returns-in_err-play-clause-err : goal.returns-in_err-play-clause-err
returns-in_err-play-clause-err g c =
    let given = err_from_is_err_and c.from_residual.result c.from_residual.ensures.1 in
    rw (given.1, given.2) (c.requires.unfailed, none_cut _ _ _)

pub returns-in-Err-Memory-clause-err : goal.returns-in-Err-Memory-clause-err
returns-in-Err-Memory-clause-err g c = (c.requires.unfailed, none_cut _ _ _)
