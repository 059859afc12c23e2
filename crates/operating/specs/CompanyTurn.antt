-- A company's turn while its lines are ruled: the company and its president, the round, the game so
-- far, and how far the turn has come. It also has a board with the first of the tiles and tokens
-- that were laid.
use Rattle.std.specs.Prelude.{◌≡◌}
use Rattle.history.specs.Sound.{IsSound}
use Rattle.operating.specs.MapState.{IsPrefix}
use Rattle.operating.specs.TurnState.{TurnState, turn_state}
use Rattle.operating.specs.declared.company_turn.CompanyTurn.{CompanyTurn}

-- the game, and how far the turn has come
abbrev pub state : CompanyTurn → TurnState
state turn = turn_state turn.history turn.progress

-- a turn is in order
pub record IsInOrder (turn : CompanyTurn) : Type 0 where
  pub sound : IsSound turn.history
  pub prefix : IsPrefix turn.board.value turn.history.events

-- A turn has gone on. It is that of the same company in the same round, its list is sound, and its
-- board has the first of what had been laid before.
pub record GoesOn (old new : CompanyTurn) : Type 0 where
  pub by : new.by ≡ old.by
  pub round : new.round ≡ old.round
  pub sound : IsSound new.history
  pub prefix : IsPrefix new.board.value old.history.events
