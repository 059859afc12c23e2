use Rattle.std.proofs.Common.{◌≡◌, arith, refl, rules}
use Rattle.std.proofs.lemmas.Grind.{common_steps}
use Rattle.std.specs.Prelude.{Err}
use Rattle.sheets.specs.File.{content_of}
use Rattle.umpire.proofs.Files.{nothing_written, refusal_stops}
use Rattle.umpire.proofs.program.write_answer.Goals as goal

pub returns-in-Err-Memory-clause-err : goal.returns-in-Err-Memory-clause-err
returns-in-Err-Memory-clause-err g c = (refl, c.requires, nothing_written c.some_report.ensures _ _)

pub returns-in-Err-clause-err : goal.returns-in-Err-clause-err
returns-in-Err-clause-err g c =
    let is : content_of c.args.file.now ≡ Err c.in-Err.fault = first_of (search rules, grind (arith, common_steps)) in
    refusal_stops c.args.file.now _ _ _ _ _ is c.refuse.ensures
