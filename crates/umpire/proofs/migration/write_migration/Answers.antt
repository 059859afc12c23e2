use Rattle.std.proofs.Common.{◌≡◌, arith, rules, sym, ◌∙◌}
use Rattle.std.proofs.lemmas.Grind.{common_steps}
use Rattle.std.specs.Prelude.{Err}
use Rattle.sheets.specs.File.{content_of}
use Rattle.umpire.proofs.MigrationLemmas.{accepted_goes, cut_by, migrated_by, one_goes, refusal_stops}
use Rattle.umpire.proofs.MigrationLemmas.{two_stays, write_failed}
use Rattle.umpire.proofs.migration.write_migration.Goals as goal

pub returns-in-Err-clause-err : goal.returns-in-Err-clause-err
returns-in-Err-clause-err g c =
    let is : content_of c.args.file.now ≡ Err c.in-Err.fault = first_of (search rules, grind (arith, common_steps)) in
    refusal_stops _ _ _ _ _ _ is c.refuse.ensures

pub returns-in-Ok-One-clause-ok : goal.returns-in-Ok-One-clause-ok
returns-in-Ok-One-clause-ok g c =
    let known = c.in-Ok-One.ensures in
    let version = sym c.in-Ok-One.field-0-is ∙ known.version in
    migrated_by c.write_in_two.result c.args.file.now _ _ _ known.accepted
    (one_goes c.args.file.now known.accepted version) c.write_in_two.ensures.ok

pub returns-in-Ok-One-clause-err : goal.returns-in-Ok-One-clause-err
returns-in-Ok-One-clause-err g c =
    let known = c.in-Ok-One.ensures in
    let version = sym c.in-Ok-One.field-0-is ∙ known.version in
    let file = c.args.file.now in
    cut_by c.write_in_two.result file _ _ _ _ (accepted_goes file known.accepted
    ∙ one_goes file known.accepted version) c.write_in_two.ensures.err c.write_in_two.ensures.prefix

pub returns-in-Ok-Two-clause-ok : goal.returns-in-Ok-Two-clause-ok
returns-in-Ok-Two-clause-ok g c =
    let known = c.in-Ok-Two.ensures in
    let version = sym c.in-Ok-Two.field-0-is ∙ known.version in
    migrated_by c.write_text.result c.args.file.now _ _ _ known.accepted
    (two_stays c.args.file.now known.accepted version) c.write_text.ensures.ok

pub returns-in-Ok-Two-clause-err : goal.returns-in-Ok-Two-clause-err
returns-in-Ok-Two-clause-err g c =
    let known = c.in-Ok-Two.ensures in
    let version = sym c.in-Ok-Two.field-0-is ∙ known.version in
    let file = c.args.file.now in
    cut_by c.write_text.result file _ _ _ _ (accepted_goes file known.accepted ∙ two_stays file known.accepted version)
    (write_failed c.write_text.result _ c.write_text.ensures.fault c.write_text.ensures.failed)
    c.write_text.ensures.prefix
