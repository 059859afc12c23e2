-- A seat's first turn of the opening or the stock round that comes, at its head or behind its lines. At its head the round
-- has begun, and each seat before it, from the holder of priority to the left, has passed. It is what play comes to if
-- nobody has orders. Behind its lines the standing lines of the seat's own sheet are ruled as the round begins, and the
-- lines of its first written turn as the turn comes. It is what play comes to if nobody else has orders.
use Rattle.std.specs.Prelude.{◌≡◌, ℕ, Bool, true, false, ◌&&◌, ◌||◌, List, [], ◌∷◌, ◌++◌, Option, Some, None, ⊤, is_none}
use Rattle.events.specs.declared.event.Event.{Event}
use Rattle.events.specs.declared.event.Event.TheVariants as event
use Rattle.foresight.specs.FirstTurn.{IsBehindFirstTurn, IsTheirTurn}
use Rattle.foresight.specs.declared.turn_ahead.TurnAhead.{TurnAhead}
use Rattle.privates.specs.Turn.{opening_rules}
use Rattle.stock_round.specs.Turn.{stock_rules}
use Rattle.stock_round.specs.declared.deals.ShareDeals.{ShareDeals}
use Rattle.tables.specs.declared.roster.Company.{Company}
use Rattle.tables.specs.declared.roster.Company.TheVariants as company
use Rattle.tables.specs.declared.roster.Private.{Private}
use Rattle.tables.specs.declared.roster.Private.TheVariants.{BaltimoreOhio, CamdenAmboy}
use Rattle.tables.specs.declared.round.Round.{Round}
use Rattle.tables.specs.declared.seat.Seat.{Seat}
use Rattle.totals.specs.LookBack.{Game, is_sold, priority_of}
use Rattle.totals.specs.Shares.{square_of}

-- a seat is at the start of its first turn, in which it has done nothing yet
pub record IsAtHead (round : Round) (seat : Seat) (old : Game) (turn : TurnAhead) : Type 0 where
  pub seats : turn.history.seats ≡ old.seats
  pub there : IsTheirTurn old.seats (priority_of old.seats old.events) seat (old.events ++ event.Round round ∷ [])
      turn.history.events
  pub unused : turn.used ≡ false
  pub nothing : turn.bought ≡ None

-- a seat is behind the lines of its first turn of an opening
pub record IsBehindOpening (file : List ℕ) (round : Round) (seat : Seat) (old : Game) (turn : TurnAhead) : Type 0 where
  pub there : IsBehindFirstTurn opening_rules file round seat old turn.history turn.used
  pub nothing : turn.bought ≡ None

-- a seat is behind the lines of its first turn of a stock round
pub record IsBehindStock (file : List ℕ) (round : Round) (seat : Seat) (old : Game) (turn : TurnAhead) : Type 0 where
  pub deals : ShareDeals
  pub there : IsBehindFirstTurn stock_rules file round seat old turn.history deals
  pub bought : turn.bought ≡ deals.bought
  pub unused : turn.used ≡ false

-- a company waits for a private: it has no square unless the private is sold
abbrev pub waits : List Event → Private → Company → Bool
waits events private company = is_sold events private || is_none (square_of events company)

-- an opening can begin: PRR waits for CA, and BO for BOP
abbrev pub may_begin : List Event → Bool
may_begin events =
    waits events CamdenAmboy company.Pennsylvania && waits events BaltimoreOhio company.BaltimoreOhio

-- a seat is behind the lines of its first turn of an opening, if one can begin
abbrev pub IsBehindOpeningIf : Bool → List ℕ → Round → Seat → Game → Option TurnAhead → Type 0
IsBehindOpeningIf true file round seat old (Some turn) = IsBehindOpening file round seat old turn
IsBehindOpeningIf false file round seat old None = ⊤
IsBehindOpeningIf can file round seat old other = ⊥
