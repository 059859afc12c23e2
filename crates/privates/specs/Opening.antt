-- An opening round is a round of turns, from a list to a list. First comes the ROUND event, then
-- the standing lines seat by seat, then the turns until all privates are sold or all seats have
-- passed in succession. Last comes what follows them, and what was left.
use Rattle.std.specs.Prelude.{ℕ, List}
use Rattle.events.specs.declared.event.Event.{Event}
use Rattle.totals.specs.LookBack.{Game}
use Rattle.privates.specs.Turn.{opening_rules}
use Rattle.sheets.specs.Part.{Numbered}
use Rattle.tables.specs.Turns.{InPlay}
use Rattle.tables.specs.declared.round.Round.{Round}
pub use Rattle.turns.specs.RoundOfTurns.{written_turns_for, in_play}
use Rattle.turns.specs.RoundOfTurns as turns

-- the round before its first turn: that is of the holder of priority
abbrev pub opened : ℕ → List ℕ → Round → List Event → InPlay (List Event) Numbered
opened seats file round events = turns.opened opening_rules seats file round events

-- new is old after an opening round with the sheets of the file
abbrev pub IsOpeningRound : List ℕ → Round → Game → Game → Type 0
IsOpeningRound file round old new = turns.IsRoundOfTurns opening_rules file round old new

-- an opening round with the sheets of the file has an outcome, after at most 513 turns for each
-- seat
abbrev pub EndsSoon : List ℕ → Round → Game → Type 0
EndsSoon file round old = turns.EndsSoon opening_rules file round old
