-- The rows of the tables: of the game, a player, a private, a company and a kind of train.
use Rattle.std.specs.Prelude.{ℕ, ℤ, List, Option, Some, None, option_map, pos, take}
use Rattle.certs.specs.Counted.{counted_of}
use Rattle.desk_base.specs.StockLeft.{tokens_left, trains_left}
use Rattle.desk_cells.specs.Earnings.{earnings_of}
use Rattle.desk_cells.specs.Stack.{before_in_stack}
use Rattle.desk_cells.specs.Standing.{rank_of, worths_of}
use Rattle.desk_cells.specs.declared.rows.CompanyRow.{CompanyRow}
use Rattle.desk_cells.specs.declared.rows.GameRow.{GameRow}
use Rattle.desk_cells.specs.declared.rows.PlayerRow.{PlayerRow}
use Rattle.desk_cells.specs.declared.rows.PrivateRow.{PrivateRow}
use Rattle.desk_cells.specs.declared.rows.TrainRow.{TrainRow}
use Rattle.events.specs.Event.{party_at, party_of_company}
use Rattle.events.specs.declared.event.Event.{Event}
use Rattle.events.specs.declared.event.Shareholder.TheVariants.{BankPool, InitialOffering}
use Rattle.market.specs.OperatingOrder.{operates}
use Rattle.privates.specs.Bank.{price_of_private}
use Rattle.report.specs.EndWorth.{worth_of}
use Rattle.tables.specs.Roster.{certificate_limit_of, face_of, revenue_of}
use Rattle.tables.specs.Train.{limit_of, rusting_of, stops_of, trains_of}
use Rattle.tables.specs.declared.roster.Company.{Company}
use Rattle.tables.specs.declared.roster.Private.{Private}
use Rattle.tables.specs.declared.rolling_stock.Kind.{Kind}
use Rattle.tables.specs.declared.seat.Seat.{Seat}
use Rattle.tables.specs.declared.squares.Square.{Square}
use Rattle.totals.specs.Bids.{free_cash_of}
use Rattle.totals.specs.LookBack.{cash_of, is_sold, owner_of, priority_of, Game}
use Rattle.totals.specs.Shares.{is_started, par_of, president_of, shares_of, square_of}
use Rattle.totals.specs.Trains.{phase_of, trains_held}

-- of the game: the phase, who has priority, and the limits of certificates and of trains
abbrev pub game_row : Game → GameRow
game_row game =
    record {
      phase = phase_of game.events;
      priority = priority_of game.seats game.events;
      certificates = certificate_limit_of game.seats;
      trains = limit_of (phase_of game.events);
    }

-- the cash of the player of a seat
abbrev pub cash_of_player : Game → Seat → ℤ
cash_of_player game seat = cash_of game.seats game.events (party_at seat)

-- the rank of a player who is worth this, among so many
abbrev pub rank_of_player : Game → ℕ → ℤ → ℕ
rank_of_player game players worth = rank_of (take players (worths_of game players)) worth

-- of a player: cash now and before the last round, free cash, certificates that count with their limit, worth and
-- rank
abbrev pub player_row : Game → Game → ℕ → Seat → PlayerRow
player_row game before players seat =
    record {
      seat = seat;
      cash = cash_of_player game seat;
      cash_before = cash_of_player before seat;
      free = free_cash_of game.seats game.events seat;
      certificates = counted_of game.events seat;
      limit = certificate_limit_of game.seats;
      worth = worth_of game seat;
      rank = rank_of_player game players (worth_of game seat);
    }

-- of a private: its face value, its price, what it pays, whether it is sold, and who owns it
abbrev pub private_row : List Event → Private → PrivateRow
private_row events private =
    record {
      private = private;
      face = face_of private;
      price = price_of_private events private;
      revenue = revenue_of private;
      is_sold = is_sold events private;
      owner = owner_of events private;
    }

-- how many tokens lie above its own, if it has a square
abbrev pub above_on : List Event → Company → Option Square → ℕ
above_on events company None = 0
above_on events company (Some square) = before_in_stack events square company

-- of a company: its president, its token now and before the last round, whether it is started and operates, its cash,
-- what it last earned, its par value, the shares that no player has, and the tokens that it has left
abbrev pub company_row : Game → Game → Company → CompanyRow
company_row game before company =
    record {
      company = company;
      president = president_of game.events company;
      square = square_of game.events company;
      square_before = square_of before.events company;
      above = above_on game.events company (square_of game.events company);
      is_started = is_started game.events company;
      operates = operates game.events company;
      cash = cash_of game.seats game.events (party_of_company company);
      revenue = pos (earnings_of company game.events).dollars;
      revenue_round = (earnings_of company game.events).round;
      par = option_map pos (par_of game.events company);
      offering = shares_of game.events company InitialOffering;
      pool = shares_of game.events company BankPool;
      tokens_left = tokens_left game.events company;
    }

-- of a kind of train: how many the bank has left, how many are in the pool, the price, how many stops it visits, and with
-- which kind it rusts
abbrev pub train_row : List Event → Kind → TrainRow
train_row events kind =
    record {
      kind = kind;
      left = trains_left events kind;
      pool = trains_held events None kind;
      price = (trains_of kind).price;
      stops = stops_of kind;
      rusts = rusting_of kind;
    }
