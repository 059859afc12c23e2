use Rattle.std.proofs.Common.{◌≡◌, ◌≤◌, ℕ, Ok, Option, true, ap, sym, subst, ◌∙◌}
use Rattle.desk_base.proofs.MomentLemmas.{is_behind, one_step_on}
use Rattle.desk_base.proofs.PlayedLemmas.{not_played_at_end}
use Rattle.desk_base.specs.Moments.{is_last}
use Rattle.rounds.specs.Steps.{PlaysNext, Stays, StepLeads, Underway}
use Rattle.rounds.specs.declared.steps.Step.{Step}
use Rattle.tables.specs.declared.round.Round.{Round}
use Rattle.desk_base.proofs.between_rounds.play_behind.Goals as goal

pub returns-in-Ok-Played-clause-behind : goal.returns-in-Ok-Played-clause-behind
returns-in-Ok-Played-clause-behind c =
    let before = c.loop-play.invariant in
    let step : PlaysNext c.loop-play.play c.in-Ok-Played.field-0-0 c.step.new.self =
    subst (λ (its : Step). StepLeads c.loop-play.play (Ok its) c.step.new.self) c.in-Ok-Played.field-0-is
    c.in-Ok-Played.ensures.step in
    let last : is_last c.step.new.self.last_round c.args.asked ≡ true =
    ap (λ (its : Option Round). is_last its c.args.asked) (sym c.last_round.ensures) ∙ sym c.is_last.ensures
    ∙ c.if-is_last.true in
    is_behind c.sheets_are_numbered.ensures c.rounds_only_add.ensures c.args.sheets.now c.args.asked c.step.new.self
    (subst (λ (count : ℕ). 3 ≤ count) c.seats-players.ensures.value c.seats-players.ensures.least)
    (ap (λ (it : Underway). it.file) step.after ∙ before.1)
    (one_step_on c.args.sheets.now c.in-Ok-Played.field-0-0 c.loop-play.play c.step.new.self before.2 step) last

pub returns-in-Ok-Ended-clause-fault : goal.returns-in-Ok-Ended-clause-fault
returns-in-Ok-Ended-clause-fault c =
    let before = c.loop-play.invariant in
    let stays : Stays c.loop-play.play c.in-Ok-Ended.field-0-0 c.step.new.self =
    subst (λ (its : Step). StepLeads c.loop-play.play (Ok its) c.step.new.self) c.in-Ok-Ended.field-0-is
    c.in-Ok-Ended.ensures.step in
    not_played_at_end c.args.sheets.now c.args.asked c.in-Ok-Ended.field-0-0 c.loop-play.play c.step.new.self before.1
    before.2 before.3 stays
