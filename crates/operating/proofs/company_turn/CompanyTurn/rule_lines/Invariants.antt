use Rattle.std.proofs.Common.{◌≡◌, ◌++◌, length, Result}
use Rattle.forced_purchase.specs.Raise.{raises_in}
use Rattle.legal_runs.specs.declared.runner.RunnerFault.{RunnerFault}
use Rattle.operating.specs.Calls.{Makes}
use Rattle.operating.specs.CompanyOrders.{LinesLead}
use Rattle.operating.specs.CompanyTurn.{IsInOrder, state}
use Rattle.operating.specs.TurnCalls.{LinesCall}
use Rattle.operating.specs.TurnState.{TurnState}
use Rattle.turns.specs.Small.{AreSmall}
use Rattle.operating.proofs.company_turn.CompanyTurn.rule_lines.Given as goal

-- where the lines that are left lead from here, all lead from the start; with the calls of those
-- the calls of these are all, and with the RAISE lines among those these are all that are held
abbrev pub invariant-loop-line : goal.invariant-loop-line
invariant-loop-line g l = record {
  seats : l.self.history.seats ≡ l.fn.self.history.seats;
  by : l.self.by ≡ l.fn.self.by;
  turn : (new : TurnState) → LinesLead l.fn.self.by (state l.self) l.orders.before new
      → LinesLead l.fn.self.by (state l.fn.self) l.fn.orders.before new;
  calls : (outcome : Result TurnState RunnerFault) (after : _)
      → Makes g.R.Runner.earns l.runner (LinesCall l.fn.self.by l.fn.self.round l.orders.before (state l.self)
      outcome) after → Makes g.R.Runner.earns l.fn.runner
      (LinesCall l.fn.self.by l.fn.self.round l.fn.orders.before (state l.fn.self) outcome) after;
  round : l.self.round ≡ l.fn.self.round;
  small : AreSmall l.orders.before;
  order : IsInOrder l.self;
  raises : l.raises.items ++ raises_in l.orders.before ≡ l.fn.raises.items ++ raises_in l.fn.orders.before;
}

abbrev pub decreases-loop-line : goal.decreases-loop-line
decreases-loop-line g l = length l.orders.before
