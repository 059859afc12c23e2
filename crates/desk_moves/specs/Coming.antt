-- A company's turn in the round that comes.
use Rattle.std.specs.Prelude.{◌≡◌, Option}
use Rattle.desk_base.specs.declared.positions.Position.{Position}
use Rattle.foresight.specs.Ahead.{OrdersState, opened_state}
use Rattle.foresight.specs.Orders.{IsAhead}
use Rattle.foresight.specs.declared.round_ahead.Ahead.TheVariants.{AtOrders}
use Rattle.rounds.specs.declared.game.End.TheVariants.{Awaiting}
use Rattle.tables.specs.declared.roster.Company.{Company}
use Rattle.tables.specs.declared.round.Round.{Round}
use Rattle.tables.specs.declared.seat.Seat.{Seat}

-- the orders of a company in the operating round that comes: at their head, or behind those of the sheet that is looked at
pub record AreOrdersIn (coming : Position) (company : Company) (drafter : Option Seat) (orders : OrdersState) : Type 0 where
  pub round : Round
  pub awaited : coming.end ≡ Awaiting round
  pub ahead : IsAhead company (opened_state coming.sheets.now drafter round coming.history) (AtOrders orders)
