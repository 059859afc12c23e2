use Rattle.std.proofs.Common.{Ok, subst}
use Rattle.desk_base.proofs.PlayedLemmas.{not_played_at_end}
use Rattle.rounds.specs.Steps.{Stays, StepLeads}
use Rattle.rounds.specs.declared.steps.Step.{Step}
use Rattle.desk_base.proofs.between_rounds.play_before.Goals as goal

pub returns-in-Ok-Ended-clause-fault : goal.returns-in-Ok-Ended-clause-fault
returns-in-Ok-Ended-clause-fault c =
    let before = c.loop-asked.invariant in
    let stays : Stays c.loop-asked.play c.in-Ok-Ended.field-0-0 c.step.new.self =
    subst (λ (its : Step). StepLeads c.loop-asked.play (Ok its) c.step.new.self) c.in-Ok-Ended.field-0-is
    c.in-Ok-Ended.ensures.step in
    not_played_at_end c.args.sheets.now c.args.asked c.in-Ok-Ended.field-0-0 c.loop-asked.play c.step.new.self before.1
    before.2 before.3 stays
