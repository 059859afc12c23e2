-- A purchase is due, or none is.
use Rattle.std.proofs.Common.{◌≡◌, true, false, inl, inr, sym, ◌∙◌}
use Rattle.operating.proofs.company_turn.CompanyTurn.end.Goals as goal

pub buy_by_force-requires-clause-none : goal.buy_by_force-requires-clause-none
buy_by_force-requires-clause-none c = (c.in_ok-due.ensures.due.0 c.if-due.true).0

pub returns-then-due-clause-turn : goal.returns-then-due-clause-turn
returns-then-due-clause-turn c = inl (c.in_ok-due.ensures.due.0 c.if-due.true, c.in_ok-buy_by_force.ensures.after)

pub returns-clause-turn : goal.returns-clause-turn
returns-clause-turn c =
    inr (
      λ due. (let wrong : true ≡ false = sym (c.in_ok-due.ensures.due.1 due) ∙ c.if-due.false in cc),
      c.in_ok-rule_raises.ensures.after,
    )
