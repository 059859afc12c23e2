use Rattle.std.proofs.Common.{◌≡◌, List, Result}
use Rattle.totals.specs.LookBack.{Game}
use Rattle.operating.specs.Calls.{Makes}
use Rattle.operating.specs.GameAndBoard.{IsLaidOut}
use Rattle.operating.proofs.Idle.{idle_of}
use Rattle.rounds.specs.GameCalls.{TurnsCall}
use Rattle.rounds.specs.OperatingRound.{TakeTurns}
use Rattle.rounds.specs.declared.fault.PlayFault.{PlayFault}
use Rattle.tables.specs.declared.roster.Company.{Company}
use Rattle.rounds.proofs.operating_round.take_turns.Given as goal

-- some companies have taken their turns; the calls of the turns from here, after those so far, are
-- those of all turns
abbrev pub invariant-loop-company : goal.invariant-loop-company
invariant-loop-company g l = record {
  companies : List Company;
  turns : TakeTurns l.sheets l.round companies l.fn.history l.game.history;
  calls : (outcome : Result Game PlayFault) (after : _)
      → Makes g.R.Runner.earns l.runner (TurnsCall l.sheets l.round l.game.history outcome) after →
      Makes g.R.Runner.earns l.fn.runner (TurnsCall l.sheets l.round l.fn.history outcome) after;
  seats : l.game.history.seats ≡ l.fn.history.seats;
  laid : IsLaidOut l.game;
}

-- each turn leaves fewer companies that have not operated
abbrev pub decreases-loop-company : goal.decreases-loop-company
decreases-loop-company g l = idle_of l.game.history.events
