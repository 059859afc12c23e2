-- A stock round is a round of turns, from a list to a list. First comes the ROUND event, then the
-- standing lines seat by seat, none of which has a place, then the turns until all have passed in
-- succession. Last comes what follows them, and what was left.
use Rattle.std.specs.Prelude.{ℕ, List}
use Rattle.events.specs.declared.event.Event.{Event}
use Rattle.totals.specs.LookBack.{Game}
use Rattle.sheets.specs.Part.{Numbered}
pub use Rattle.stock_round.specs.Standing.{after_stock_standing_line}
use Rattle.stock_round.specs.Turn.{stock_rules}
use Rattle.tables.specs.Turns.{InPlay}
use Rattle.tables.specs.declared.round.Round.{Round}
use Rattle.turns.specs.RoundOfTurns as turns

-- the round before its first turn: that is of the holder of priority
abbrev pub opened : ℕ → List ℕ → Round → List Event → InPlay (List Event) Numbered
opened seats file round events = turns.opened stock_rules seats file round events

-- new is old after a stock round with the sheets of the file
abbrev pub IsStockRound : List ℕ → Round → Game → Game → Type 0
IsStockRound file round old new = turns.IsRoundOfTurns stock_rules file round old new

-- a stock round with the sheets of the file has an outcome, after at most 513 turns for each seat
abbrev pub EndsSoon : List ℕ → Round → Game → Type 0
EndsSoon file round old = turns.EndsSoon stock_rules file round old
