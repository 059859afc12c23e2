use Rattle.foresight.specs.Orders.{OthersHaveTurns}
use Rattle.operating.proofs.Idle.{idle_of}
use Rattle.foresight.proofs.round_ahead.RoundAhead.orders_of.Given as goal

-- other companies have had their turns so far
abbrev pub invariant-loop-next : goal.invariant-loop-next
invariant-loop-next l = OthersHaveTurns l.company l.fn.self l.ahead

-- each turn leaves fewer companies that have not operated
abbrev pub decreases-loop-next : goal.decreases-loop-next
decreases-loop-next l = idle_of l.ahead.game.events
