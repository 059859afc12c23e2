-- A seat's turn: the lines of its written turn are ruled in order, each on the list that the one
-- before left. In a turn a seat buys once, but may buy several certificates of a company whose
-- square is brown, and sells any number of times, before and after. A seat that neither bought nor
-- sold passes, even if it gave up MH.
use Rattle.std.specs.Prelude.{ℕ, false}
use Rattle.events.specs.declared.ruling.Ruling.{Ruling}
use Rattle.order_grammar.specs.declared.order.Order.{Order}
use Rattle.sheets.specs.Part.{Numbered}
use Rattle.stock_round.specs.Closing.{stock_round_closed}
use Rattle.stock_round.specs.Deals.{has_acted, no_deals, with_deal}
use Rattle.stock_round.specs.Orders.{after_stock_order, stock_refusal}
use Rattle.stock_round.specs.Standing.{after_stock_standing_line}
use Rattle.stock_round.specs.declared.deals.ShareDeals.{ShareDeals}
use Rattle.tables.specs.declared.seat.Seat.{Seat}
use Rattle.totals.specs.LookBack.{Game}
use Rattle.turns.specs.RoundOfTurns.{RoundRules, in_turn}
use Rattle.turns.specs.RoundOfTurns as turns
use Rattle.turns.specs.Ruling.{after_ruling, has_place_in_turn, line_ruling}

-- in a turn: the list so far, and what the seat has done
abbrev pub InStockTurn : Type 0
InStockTurn = turns.InTurn ShareDeals

-- the game in a turn
abbrev pub game_in : ℕ → InStockTurn → Game
game_in seats turn = record { seats = seats; events = turn.events }

-- in a turn, after what follows from an order that is done
abbrev pub turn_after_stock_order : ℕ → Seat → InStockTurn → Order → InStockTurn
turn_after_stock_order seats seat turn order =
    in_turn (after_stock_order (game_in seats turn) seat order).events (with_deal turn.actions order)

-- in a turn, after a line with this number and this ruling
abbrev pub after_stock_ruling : ℕ → Seat → InStockTurn → ℕ → Ruling → InStockTurn
after_stock_ruling seats seat turn number ruling =
    after_ruling (turn_after_stock_order seats seat) seat turn number ruling

-- what becomes of a line of a written turn
abbrev pub stock_line_ruling : ℕ → Seat → InStockTurn → Numbered → Ruling
stock_line_ruling seats seat turn line =
    line_ruling has_place_in_turn (stock_refusal (game_in seats turn) seat turn.actions.bought) turn.events line

-- in a turn, after a line of a written turn
abbrev pub after_stock_line : ℕ → Seat → InStockTurn → Numbered → InStockTurn
after_stock_line seats seat turn line =
    after_stock_ruling seats seat turn line.number (stock_line_ruling seats seat turn line)

-- the rules of a stock round: a seat that bought or sold has acted, and the turns are over once all
-- seats have passed in succession
abbrev pub stock_rules : RoundRules ShareDeals
stock_rules = record {
  standing = after_stock_standing_line;
  nothing = no_deals;
  line = after_stock_line;
  has_acted = has_acted;
  over = λ events. false;
  closed = λ seats events. stock_round_closed events;
}
