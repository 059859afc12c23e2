-- Play comes to what is told ahead, if nobody else has orders. If no other seat has a line for a round of turns, play
-- comes to the seat's first turn once the seats before it have passed. The list is the one that is told, and the seat's
-- written turns are still to come. If no sheet but the one that is looked at has a line for an operating round, the round
-- begins as it is told, and each turn of a company that is told is its turn in play.
use Rattle.std.specs.Prelude.{◌≡◌, ℕ, ◌<◌, ◌≤◌, false, List, [], ◌∷◌, ◌++◌, Option, IfSome}
use Rattle.events.specs.declared.event.Event.{Event}
use Rattle.events.specs.declared.event.Event.TheVariants as event
use Rattle.forced_purchase.specs.declared.operator.Operator.{Operator}
use Rattle.foresight.specs.Ahead.{AheadState, HasTurn}
use Rattle.foresight.specs.Draft.{opened_ahead, orders_of}
use Rattle.foresight.specs.FirstTurn.{IsTheirTurn, begun_for}
use Rattle.history.specs.Record.{revenues_recorded}
use Rattle.operating.specs.Turn.{IsCompanyTurn}
use Rattle.purchases.specs.Discard.{is_president}
use Rattle.purchases.specs.Standing.{after_all_standing_lines}
use Rattle.sheets.specs.CompanyOrders.{company_orders_for}
use Rattle.sheets.specs.Part.{parts_for}
use Rattle.sheets.specs.Taken.{in_play, written_turns_for}
use Rattle.tables.specs.Seat.{seat_at}
use Rattle.tables.specs.Steps.{LeadsTo}
use Rattle.tables.specs.Turns.{after_turn, turns_over}
use Rattle.tables.specs.declared.roster.Company.{Company}
use Rattle.tables.specs.declared.round.Round.{Round}
use Rattle.tables.specs.declared.seat.Seat.{Seat}
use Rattle.totals.specs.LookBack.{Game, priority_of}
use Rattle.turns.specs.RoundOfTurns.{RoundRules, opened, turns_of}

-- a seat has no line for a round
abbrev pub HasNoLine : List ℕ → Round → ℕ → Type 0
HasNoLine file round seat = parts_for file round seat ≡ record { before = []; opened = [] }

-- no seat but this one has a line for a round
abbrev pub IsAlone : List ℕ → Round → Seat → Type 0
IsAlone file round seat = (other : ℕ) → (other ≡ seat.0 → ⊥) → HasNoLine file round other

-- play comes to a seat's turn with this list, after this many passes, and its written turns are still to come
abbrev pub ComesToTurn : {TurnActions : Type 0} → RoundRules TurnActions → List ℕ → Round → Game → Seat → ℕ → List Event
    → Type 0
ComesToTurn rules file round old seat passes before =
    LeadsTo (after_turn (turns_of rules old.seats)) (turns_over (turns_of rules old.seats))
    (opened rules old.seats file round old.events)
    (in_play before seat.0 passes (written_turns_for old.seats file round))

-- by these rules play comes to the first turn of a seat that alone has lines, unless the round is over as it begins
abbrev pub FirstTurnsAreReached : {TurnActions : Type 0} → RoundRules TurnActions → Type 0
FirstTurnsAreReached rules =
    (file : List ℕ) (round : Round) (seat : Seat) (old : Game) (before : List Event) → old.seats ≤ 6
    → seat.0 < old.seats → IsAlone file round seat
    → rules.over (begun_for rules file round seat old.events) ≡ false
    → (their : IsTheirTurn old.seats (priority_of old.seats old.events) seat
    (begun_for rules file round seat old.events) before)
    → ComesToTurn rules file round old seat their.count before

-- so it does to the head of a turn that is told without any sheet, if the seat has no standing lines either
abbrev pub HeadsAreReached : {TurnActions : Type 0} → RoundRules TurnActions → Type 0
HeadsAreReached rules =
    (file : List ℕ) (round : Round) (seat : Seat) (old : Game) (before : List Event) → old.seats ≤ 6
    → seat.0 < old.seats → IsAlone file round seat → (parts_for file round seat.0).before ≡ []
    → rules.over (begun_for rules file round seat old.events) ≡ false
    → (their : IsTheirTurn old.seats (priority_of old.seats old.events) seat (old.events ++ event.Round round ∷ []) before)
    → ComesToTurn rules file round old seat their.count before

-- no sheet but the one that is looked at has a line for a round
abbrev pub IsAllLookedAt : List ℕ → Round → Option Seat → Type 0
IsAllLookedAt file round drafter =
    (other : ℕ) → is_president drafter (seat_at other) ≡ false → HasNoLine file round other

-- so an operating round begins as it is told
abbrev pub RoundsBeginSo : Type 0
RoundsBeginSo =
    (file : List ℕ) (round : Round) (drafter : Option Seat) (old : Game) → IfSome drafter (λ seat. seat.0 < old.seats)
    → IsAllLookedAt file round drafter
    → opened_ahead file drafter round old
    ≡ revenues_recorded (record {
      seats = old.seats;
      events = after_all_standing_lines old.seats file round (old.events ++ event.Round round ∷ []);
    })

-- a company's turn that is told is its turn in play
abbrev pub TurnsArePlayedSo : Type 0
TurnsArePlayedSo =
    (company : Company) (old new : AheadState) → IsAllLookedAt old.file old.round old.drafter → HasTurn company old new
    → IsCompanyTurn old.file old.round company old.game new.game

-- and the orders of a company that are looked at are those that are played
abbrev pub OrdersArePlayedSo : Type 0
OrdersArePlayedSo =
    (file : List ℕ) (round : Round) (drafter : Option Seat) (by : Operator) → IsAllLookedAt file round drafter
    → orders_of file drafter round by ≡ company_orders_for file round by.president.0 by.company
