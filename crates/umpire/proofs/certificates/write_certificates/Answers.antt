use Rattle.std.proofs.Common.{◌≡◌, arith, inl, refl, rules}
use Rattle.std.proofs.KnownBytes.{Keeps-refl}
use Rattle.std.proofs.lemmas.Grind.{common_steps}
use Rattle.std.specs.Prelude.{Err}
use Rattle.sheets.specs.File.{content_of}
use Rattle.umpire.proofs.CertsLemmas.{refusal_stops, result_stops}
use Rattle.umpire.proofs.certificates.write_certificates.Goals as goal

pub returns-in-Ok-clause-err : goal.returns-in-Ok-clause-err
returns-in-Ok-clause-err g c =
    let file = c.in-Ok.ensures.file in
    rw file at (result_stops c.write_game.result c.in-Ok.sheets _ _ _ c.write_game.ensures.err c.write_game.ensures.prefix)

pub returns-in-Err-Memory-clause-err : goal.returns-in-Err-Memory-clause-err
returns-in-Err-Memory-clause-err g c = (refl, c.requires, inl (Keeps-refl _))

pub returns-in-Err-clause-err : goal.returns-in-Err-clause-err
returns-in-Err-clause-err g c =
    let is : content_of c.args.file.now ≡ Err c.in-Err.fault = first_of (search rules, grind (arith, common_steps)) in
    refusal_stops _ _ _ _ _ _ is c.refuse.ensures
