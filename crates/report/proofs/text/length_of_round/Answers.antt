use Rattle.std.proofs.Common.{◌≡◌, false, drop, arith}
use Rattle.std.proofs.lemmas.Grind.{common_steps}
use Rattle.report.specs.Report.{ends_round}
use Rattle.report.proofs.Rounds.{first_of_some, one_more}
use Rattle.report.proofs.text.length_of_round.Goals as goal

pub loop-length-init : goal.loop-length-init
loop-length-init c =
    record { some = omega arith; within = c.requires; first = first_of_some c.args.events.now c.requires }

pub loop-length-preserved : goal.loop-length-preserved
loop-length-preserved c =
    let l = c.loop-length.invariant in
    let goes_on : ends_round (drop c.loop-length.length c.args.events.now) ≡ false = grind (arith, common_steps) in
    let next = one_more c.args.events.now c.loop-length.length l.within goes_on l.first in
    record { some = omega (arith, l.some); within = next.0; first = next.1 }
