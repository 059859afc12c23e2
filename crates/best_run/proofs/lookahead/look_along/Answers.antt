-- The segment leads on, or it does not.
use Rattle.std.proofs.Common.{◌≡◌, ℕ, false, get_or, sym, subst, ◌∙◌}
use Rattle.best_run.specs.Ahead.{WidensAt}
use Rattle.best_run.proofs.Ahead.{along_not, along_at, leads_free}
use Rattle.best_run.proofs.lookahead.look_along.Goals as goal

pub look_at-requires-clause-free : goal.look_at-requires-clause-free
look_at-requires-clause-free c =
    let ahead = c.args.outlook.now.ahead in
    let free : get_or ahead c.args.segment.now.to false ≡ false =
    leads_free _ _ (sym c.leads_on.ensures ∙ c.if-leads_on.true) in
    subst (λ (to : ℕ). get_or ahead to false ≡ false) (sym c.number.ensures) free

pub returns-then-leads_on-clause-widens : goal.returns-then-leads_on-clause-widens
returns-then-leads_on-clause-widens c =
    let task = c.args.task.now in
    let assigned = c.args.assigned.now in
    let run = c.args.run.now in
    along_at task assigned run c.args.segment.now _ _
    (subst (λ (to : ℕ). WidensAt task assigned run to c.args.outlook.now.ahead c.look_at.new.outlook.ahead)
    c.number.ensures c.look_at.ensures.widens)

pub returns-else-leads_on-clause-widens : goal.returns-else-leads_on-clause-widens
returns-else-leads_on-clause-widens c =
    along_not c.args.task.now c.args.assigned.now c.args.run.now c.args.segment.now _
    (sym c.leads_on.ensures ∙ c.if-leads_on.false)
