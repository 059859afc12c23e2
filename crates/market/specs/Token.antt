-- A company's token moves over the chart: MOVES says so if it reaches another square.
use Rattle.std.specs.Prelude.{◌==◌, Bool, ◌&&◌, if◌then◌else◌, List, [], ◌∷◌, ◌++◌, Option, Some, None}
use Rattle.events.specs.declared.event.Event.{Event}
use Rattle.events.specs.declared.event.Event.TheVariants.{Moves}
use Rattle.totals.specs.LookBack.{Game, with_events}
use Rattle.totals.specs.Shares.{square_of}
use Rattle.tables.specs.declared.roster.Company.{Company}
use Rattle.tables.specs.declared.squares.Square.{Square}

-- two squares are the same
abbrev pub same_square : Square → Square → Bool
same_square a b = a.row == b.row && a.column == b.column

-- with MOVES if a company's token comes from one square to another
abbrev pub moved_to : List Event → Company → Square → Square → List Event
moved_to events company from to = if same_square to from then events else events ++ Moves company to ∷ []

-- with the token of a company moved, if it is on this square, if on any
abbrev pub moved_from : (Square → Square) → List Event → Company → Option Square → List Event
moved_from move events company None = events
moved_from move events company (Some square) = moved_to events company square (move square)

-- with the token of a company moved
abbrev pub with_move : (Square → Square) → List Event → Company → List Event
with_move move events company = moved_from move events company (square_of events company)

-- a game in which the token of a company has moved
abbrev pub token_moved : (Square → Square) → Game → Company → Game
token_moved move game company = with_events game (with_move move game.events company)
