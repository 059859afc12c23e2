-- An operating round, from a list to a list: the ROUND event, the standing lines seat by seat, and
-- the revenues of the privates in roster order. Then the companies take their turns, and at the end
-- it says how many lines of each sheet were not reached. The next company is the first in
-- operating order, as that is at the time, of those that have not operated in the round. The round
-- is over once there is none, or a president is bankrupt.
use Rattle.std.specs.Prelude.{◌≡◌, ℕ, ◌-◌, ◌≤◌, true, false, List, [], ◌∷◌, ◌++◌, length, Some, None}
use Rattle.std.specs.List.{range_with_len}
use Rattle.events.specs.declared.event.Event.{Event}
use Rattle.events.specs.declared.event.Event.TheVariants as event
use Rattle.totals.specs.LookBack.{Game, bankrupt_in}
use Rattle.totals.specs.Operating.{rulings_in_round}
use Rattle.history.specs.Record.{revenues_recorded, with_left}
use Rattle.market.specs.OperatingOrder.{next_company, operates, times}
use Rattle.purchases.specs.Standing.{after_all_standing_lines}
use Rattle.operating.specs.Turn.{IsCompanyTurn}
use Rattle.sheets.specs.Part.{lines_in, parts_for}
use Rattle.tables.specs.Seat.{seat_at}
use Rattle.tables.specs.declared.roster.Company.{Company}
use Rattle.tables.specs.declared.round.Round.{Round}
use Rattle.tables.specs.declared.seat.Seat.{Seat}

-- the round before its first company: its standing lines are ruled, and the privates have paid
abbrev pub operating_round_opened : List ℕ → Round → Game → Game
operating_round_opened file round old =
    revenues_recorded (record {
      seats = old.seats;
      events =
          after_all_standing_lines old.seats file round (old.events ++ event.Round round ∷ []);
    })

-- a company takes its turn as the next
pub record TakesTurn (file : List ℕ) (round : Round) (company : Company) (old new : Game) : Type 0 where
  pub is_next : next_company old.events ≡ Some company
  pub turn : IsCompanyTurn file round company old new

-- these companies take their turns, one after another
abbrev pub TakeTurns : List ℕ → Round → List Company → Game → Game → Type 0
TakeTurns file round [] old new = old ≡ new
TakeTurns file round (company ∷ others) old new =
    (mid : Game) × TakesTurn file round company old mid × TakeTurns file round others mid new

-- companies take turns between them, until there is no next
pub record TurnsLead (file : List ℕ) (round : Round) (old new : Game) : Type 0 where
  pub companies : List Company
  pub turns : TakeTurns file round companies old new
  pub over_then : next_company new.events ≡ None

-- the lines of a seat's sheet that were not reached; heads of companies' orders do not count
abbrev pub lines_left : List ℕ → Round → List Event → Seat → ℕ
lines_left file round events seat = lines_in (parts_for file round seat.0) - rulings_in_round events seat

-- what is recorded of those of these seats, in order
abbrev pub left_events : List ℕ → Round → List Event → List ℕ → List Event
left_events file round events [] = []
left_events file round events (seat ∷ seats) =
    with_left (seat_at seat) (lines_left file round events (seat_at seat)) (left_events file round events seats)

-- the list at the end of the round, if the turns have led to these events
abbrev pub operating_round_finished : List ℕ → Round → ℕ → List Event → List Event
operating_round_finished file round seats events = events ++ left_events file round events (range_with_len 0 seats)

-- new is old after an operating round with the sheets of the file
pub record IsOperatingRound (file : List ℕ) (round : Round) (old new : Game) : Type 0 where
  pub turned : Game
  pub turns : TurnsLead file round (operating_round_opened file round old) turned
  pub after : new ≡ record { seats = old.seats; events = operating_round_finished file round old.seats turned.events }

-- an operating round has at most one outcome
abbrev pub OneOperatingRound : Type 0
OneOperatingRound =
    (file : List ℕ) (round : Round) (old a b : Game) → IsOperatingRound file round old a
    → IsOperatingRound file round old b → a ≡ b

-- an operating round with the sheets of the file has an outcome
pub record EndsSoon (file : List ℕ) (round : Round) (old : Game) : Type 0 where
  pub new : Game
  pub played : IsOperatingRound file round old new

-- In an operating round at most eight companies take turns, none of them twice. All take one that
-- have floated by its end and whose tokens have a square, unless a president is bankrupt.
pub record OperateOnceEach (companies : List Company) (turned : List Event) : Type 0 where
  pub at_most_eight : length companies ≤ 8
  pub no_second : (company : Company) → times company companies ≤ 1
  pub no_one_missed : bankrupt_in turned ≡ false → (company : Company) → operates turned company ≡ true
      → times company companies ≡ 1

-- in each operating round companies operate once each
abbrev pub CompaniesOperateOnce : Type 0
CompaniesOperateOnce =
    (file : List ℕ) (round : Round) (old new : Game) (played : IsOperatingRound file round old new)
    → OperateOnceEach played.turns.companies played.turned.events
