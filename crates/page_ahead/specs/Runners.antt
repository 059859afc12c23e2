-- What is listed before a round: the companies that operate, in operating order, before an operating
-- round; the privates before an opening round; all companies before a stock round. And what a company
-- has to pay that must buy a train.
use Rattle.std.specs.Prelude.{Bool, true, false, if◌then◌else◌, int_lt, pos, List}
use Rattle.std.specs.List.{fold}
use Rattle.desk_cells.specs.Before.{game_before}
use Rattle.desk_dues.specs.Raised.{raised_at_most_by}
use Rattle.desk_cells.specs.TableRows.{company_rows, private_rows}
use Rattle.desk_cells.specs.declared.field.TableRow.{TableRow}
use Rattle.desk_cells.specs.declared.rows.PlayerRow.{PlayerRow}
use Rattle.events.specs.declared.event.Event.{Event}
use Rattle.events.specs.declared.event.Event.TheVariants.{Runs, Withheld}
use Rattle.forced_purchase.specs.Shortfall.{cheapest, lack_of}
use Rattle.forced_purchase.specs.declared.operator.Operator.{Operator}
use Rattle.market.specs.OperatingOrder.{operating_order_of}
use Rattle.page_ahead.specs.declared.runner_rows.Must.{Must}
use Rattle.purchases.specs.Train.{train_purchase_cost}
use Rattle.tables.specs.Roster.{companies, same_company}
use Rattle.tables.specs.declared.roster.Company.{Company}
use Rattle.tables.specs.declared.round.Round.{Round}
use Rattle.tables.specs.declared.round.Round.TheVariants.{Opening, Operating, Stock}
use Rattle.totals.specs.Bids.{free_cash_of}
use Rattle.totals.specs.LookBack.{Game}

-- a player may hold one more certificate
abbrev pub has_room : PlayerRow → Bool
has_room row = int_lt row.certificates (pos row.limit)

-- whether a company kept what it last earned, after one more event: it has not where it runs, and it
-- has where it withholds
abbrev pub kept_then : Company → Bool → Event → Bool
kept_then company kept (Runs its revenue) = if same_company its company then false else kept
kept_then company kept (Withheld its amount) = if same_company its company then true else kept
kept_then company kept other = kept

-- whether a company kept what it last earned
abbrev pub is_kept : Company → List Event → Bool
is_kept company events = fold (kept_then company) false events

-- the rows of all companies, in roster order
unfoldable pub rows_of_all : Game → Game → List TableRow
rows_of_all game before = company_rows game before companies

-- what is listed before a round
abbrev pub rows_ahead : Game → Round → List TableRow
rows_ahead game (Operating set number) = company_rows game (game_before game) (operating_order_of game.events)
rows_ahead game (Opening number) = private_rows game.events
rows_ahead game (Stock number) = rows_of_all game (game_before game)

-- what a company pays that must buy a train now: the cheapest that is for sale, what it lacks for
-- that, the cash of its president free of bids, and what the president can raise
abbrev pub must_of : Game → Operator → Must
must_of game by = record {
  kind = (cheapest game.events).kind;
  from = (cheapest game.events).from;
  price = train_purchase_cost (cheapest game.events);
  lacking = lack_of game by.company;
  free = free_cash_of game.seats game.events by.president;
  raised = raised_at_most_by game by;
}
