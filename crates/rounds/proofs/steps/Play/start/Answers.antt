use Rattle.std.proofs.Common.{rules}
use Rattle.rounds.proofs.InSet.{begins_so}
use Rattle.rounds.proofs.StepByStep.{come_first}
use Rattle.rounds.proofs.steps.Play.start.Goals as goal

pub invariant_of-result : goal.invariant_of-result
invariant_of-result c =
    let first = begins_so c.args.sheets.now c.start-history.result c.seats.result c.rounds_of_new_set-in_set.result
    c.start-history.ensures.empty c.seats.ensures.value c.rounds_of_new_set-in_set.ensures in
    λ none. come_first c.args.sheets.now _ first (search rules) (search rules) (search rules)
