-- DISCARD: which trains a company discards if it has too many. A seat's standing line DISCARD is
-- obeyed if the seat is president of the company and the company has such a train. If a company has
-- too many trains, the obeyed lines of its president in this round come first, in order, each once.
-- A line is passed over if the company has no such train, and may be used later in the round. If
-- there is no line to use, the company discards a train of its least kind.
use Rattle.std.specs.Option.{option_map_or}
use Rattle.std.specs.Prelude.{◌==◌, Bool, false, not, ◌||◌, if◌then◌else◌, List, [], ◌∷◌, ◌++◌, Option, Some, None}
use Rattle.std.specs.Prelude.{is_some, pos}
use Rattle.std.specs.Int.Signed.{lt_z}
use Rattle.std.specs.List.{fold}
use Rattle.std.specs.Option.{option_or}
use Rattle.events.specs.Event.{Obeyance, obeyed_of, office_of, round_begun_by}
use Rattle.events.specs.declared.event.Event.{Event}
use Rattle.events.specs.declared.event.Event.TheVariants.{Discarded}
use Rattle.events.specs.declared.ruling.TrainRule.{TrainRule}
use Rattle.events.specs.declared.ruling.TrainRule.TheVariants.{NoDiscard}
use Rattle.totals.specs.LookBack.{Game, with_event}
use Rattle.totals.specs.Shares.{president_of, president_said}
use Rattle.totals.specs.Trains.{trains_held}
use Rattle.order_grammar.specs.declared.order.Order.{Order}
use Rattle.order_grammar.specs.declared.order.Order.TheVariants as order
use Rattle.order_grammar.specs.declared.play.PlayOrder.TheVariants as play
use Rattle.tables.specs.Roster.{same_company}
use Rattle.tables.specs.Rules.{Rule, first_broken}
use Rattle.tables.specs.Train.{kinds, same_kind}
use Rattle.tables.specs.declared.rolling_stock.Kind.{Kind}
use Rattle.tables.specs.declared.roster.Company.{Company}
use Rattle.tables.specs.declared.seat.Seat.{Seat}

-- the company has a train of the kind
abbrev pub has_train : List Event → Company → Kind → Bool
has_train events company kind = lt_z (pos 0) (trains_held events (Some company) kind)

-- the seat presides
abbrev pub is_president : Option Seat → Seat → Bool
is_president None seat = false
is_president (Some president) seat = president.0 == seat.0

-- the seat is not president of the company, or the company has no such train
abbrev pub is_no_discard : List Event → Seat → Company → Kind → Bool
is_no_discard events seat company kind =
    not (is_president (president_of events company) seat) || not (has_train events company kind)

-- the rule of a DISCARD line
abbrev pub discard_rules : List Event → Seat → Company → Kind → List (Rule TrainRule)
discard_rules events seat company kind = record { code = NoDiscard; broken = is_no_discard events seat company kind }
    ∷ []

-- the rule that a DISCARD line of a seat breaks, if it breaks it
abbrev pub discard_judgement : List Event → Seat → Company → Kind → Option TrainRule
discard_judgement events seat company kind = first_broken (discard_rules events seat company kind)

-- the kind that a company is to discard by an order
abbrev pub discard_in : Company → Order → Option Kind
discard_in company (order.Play (play.Discard other kind)) = if same_company other company then Some kind else None
discard_in company other = None

-- a seat's lines for a company that are still to be used, and whether the seat presides
pub record Lines : Type 0 where
  pub presides : Bool
  pub kinds : List Kind

-- the kind that a seat's obeyed order says, if it is one
abbrev pub discard_ordered_by : Seat → Company → Option Obeyance → Option Kind
discard_ordered_by seat company None = None
discard_ordered_by seat company (Some obeyed) =
    if obeyed.seat.0 == seat.0 then discard_in company obeyed.order else None

-- without the first of a kind
abbrev pub without_first : Kind → List Kind → List Kind
without_first kind [] = []
without_first kind (line ∷ lines) = if same_kind line kind then lines else line ∷ without_first kind lines

-- without the first of a kind, if there is one
abbrev pub without : List Kind → Option Kind → List Kind
without lines None = lines
without lines (Some kind) = without_first kind lines

-- the kind that a company discards by an event
abbrev pub discarded_by : Company → Event → Option Kind
discarded_by company (Discarded other kind) = if same_company other company then Some kind else None
discarded_by company other = None

-- The lines that are still to be used after an event. A round begins without any, one that is
-- obeyed is the last, and one is used up if the company discards while the seat presides.
abbrev pub kinds_then : Seat → Company → Lines → Event → List Kind
kinds_then seat company lines event = if is_some (round_begun_by event) then [] else without
    (option_map_or (λ kind. lines.kinds ++ kind ∷ []) (discard_ordered_by seat company (obeyed_of event)) lines.kinds)
    (if lines.presides then discarded_by company event else None)

-- whether the seat presides after an event
abbrev pub presides_then : Seat → Bool → Option Seat → Bool
presides_then seat presides None = presides
presides_then seat presides (Some president) = president.0 == seat.0

-- the lines that are still to be used, and whether the seat presides, after an event
abbrev pub lines_then : Seat → Company → Lines → Event → Lines
lines_then seat company lines event = record {
  presides = presides_then seat lines.presides (president_said company (office_of event));
  kinds = kinds_then seat company lines event;
}

-- the kinds of a seat's lines for a company that are still to be used in this round, in order
abbrev pub discard_lines_left : List Event → Company → Option Seat → List Kind
discard_lines_left events company None = []
discard_lines_left events company (Some seat) =
    (fold (lines_then seat company) (record { presides = false; kinds = [] }) events).kinds

-- the first of these kinds that the company has a train of
abbrev pub first_held : List Event → Company → List Kind → Option Kind
first_held events company [] = None
first_held events company (kind ∷ others) = if has_train events company kind then Some kind else first_held events
    company others

-- the kind that the company discards next: by a line of its president, otherwise the least that it
-- has
abbrev pub next_discard : List Event → Company → Option Kind
next_discard events company =
    option_or (first_held events company (discard_lines_left events company (president_of events company)))
    (first_held events company kinds)

-- with DISCARDED of a train of this kind, if of any
abbrev pub with_discarded : Game → Company → Option Kind → Game
with_discarded game company None = game
with_discarded game company (Some kind) = with_event game (Discarded company kind)

-- with DISCARDED of the train that a company discards next
abbrev pub with_next_discarded : Company → Game → Game
with_next_discarded company game = with_discarded game company (next_discard game.events company)
