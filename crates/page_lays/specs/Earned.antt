-- What decides what the best runs of a company bring, where its turn has come to: whether it has a train, as RUN BEST needs;
-- the shares of its president and those in the pool, for which PAY pays; and the price of its share, which PAY moves to the
-- right and WITHHOLD to the left.
use Rattle.std.specs.Prelude.{List, Option, option_map}
use Rattle.events.specs.declared.event.Event.{Event}
use Rattle.events.specs.declared.event.Shareholder.TheVariants.{BankPool, Seat as OfSeat}
use Rattle.forced_purchase.specs.declared.operator.Operator.{Operator}
use Rattle.market.specs.Moves.{right_of, square_left_of}
use Rattle.page_lays.specs.declared.earned.Earned.{Earned}
use Rattle.page_lays.specs.declared.earned.Prices.{Prices}
use Rattle.purchases.specs.Train.{has_trains}
use Rattle.tables.specs.Chart.{price_of}
use Rattle.tables.specs.declared.squares.Square.{Square}
use Rattle.tables.specs.declared.roster.Company.{Company}
use Rattle.totals.specs.LookBack.{Game}
use Rattle.totals.specs.Shares.{shares_of, square_of}

-- the price of a share now, after PAY and after WITHHOLD, where the company's token is on this square
abbrev pub prices_at : Square → Prices
prices_at square = record {
  now = price_of square;
  paid = price_of (right_of square);
  kept = price_of (square_left_of square);
}

-- those of a company, if its token is on the chart
abbrev pub prices_of : List Event → Company → Option Prices
prices_of events company = option_map prices_at (square_of events company)

-- what decides what the runs of a company bring it and its president
abbrev pub earned_by : Game → Operator → Earned
earned_by game by = record {
  has_trains = has_trains game.events by.company;
  led = shares_of game.events by.company (OfSeat by.president);
  pooled = shares_of game.events by.company BankPool;
  prices = prices_of game.events by.company;
}
