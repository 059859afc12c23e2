-- The events of a round in groups, each of one turn.
use Rattle.std.specs.Prelude.{ℕ, ◌+◌, ◌-◌, ◌==◌, Bool, true, false, if◌then◌else◌, List, [], ◌∷◌, ◌++◌, Option, Some, None, slice_get}
use Rattle.std.specs.List.{fold}
use Rattle.desk_round.specs.declared.groups.Group.{Group}
use Rattle.desk_round.specs.declared.groups.Grouped.{Grouped}
use Rattle.desk_round.specs.declared.groups.Grouping.{Grouping}
use Rattle.desk_round.specs.declared.groups.Whose.{Whose}
use Rattle.desk_round.specs.declared.groups.Whose.TheVariants as whose
use Rattle.desk_why.specs.Why.{company_at, line_at}
use Rattle.desk_why.specs.declared.sheet_line.LinePlace.{LinePlace}
use Rattle.desk_why.specs.declared.sheet_line.SheetLine.{SheetLine}
use Rattle.events.specs.Event.{round_begun_by}
use Rattle.events.specs.declared.event.Event.{Event}
use Rattle.events.specs.declared.event.Event.TheVariants.{Forced, Home, Laid, Left, Passes, Price, Revenue, Ruled, Runs, Token, Withheld}
use Rattle.tables.specs.Roster.{same_company}
use Rattle.tables.specs.Round.{same_round}
use Rattle.tables.specs.declared.roster.Company.{Company}
use Rattle.tables.specs.declared.round.Round.{Round}
use Rattle.tables.specs.declared.seat.Seat.{Seat}

-- who passes by an event, if it is a pass
abbrev pub passes_by : Option Event → Option Seat
passes_by (Some (Passes seat)) = Some seat
passes_by other = None

-- who passes in a group, if it is nothing but a pass
abbrev pub pass_of : Group → List Event → Option Seat
pass_of group events = if (group.to - group.from) == 1 then passes_by (slice_get events group.from) else None

-- a group, if there is one
abbrev pub any_group : Option Group → List Group
any_group None = []
any_group (Some group) = group ∷ []

-- an event is a pass
abbrev pub is_pass : Event → Bool
is_pass (Passes seat) = true
is_pass other = false

-- two turns are of the same party
abbrev pub same_whose : Whose → Whose → Bool
same_whose (whose.Company one) (whose.Company other) = same_company one other
same_whose (whose.Seat one) (whose.Seat other) = one.0 == other.0
same_whose whose.Nobody whose.Nobody = true
same_whose one other = false

-- of a party: a company's, or a player's
abbrev pub whose_if : Seat → Option Company → Whose
whose_if seat None = whose.Seat seat
whose_if seat (Some company) = whose.Company company

-- whose turn a line at this place of the sheet of a seat is of
abbrev pub whose_place : Seat → LinePlace → Whose
whose_place seat place = whose_if seat (company_at place)

-- of a line, if it is kept
abbrev pub whose_of : Seat → Option SheetLine → Whose
whose_of seat None = whose.Seat seat
whose_of seat (Some line) = whose_place seat line.place

-- whose turn a line of a sheet is of: the company's among whose orders it is, or otherwise its player's
abbrev pub whose_line : List SheetLine → Seat → ℕ → Whose
whose_line lines seat number = whose_of seat (line_at lines seat number)

-- whose turn an event belongs to that begins no turn: nobody's after a pass, otherwise that of the event before
abbrev pub whose_behind : Whose → Bool → Whose
whose_behind now has_passed = if has_passed then whose.Nobody else now

-- whose turn an event belongs to, behind one of this turn, which is a pass or not
abbrev pub whose_turn : List SheetLine → Whose → Bool → Event → Whose
whose_turn lines now has_passed (Ruled seat line ruling) = whose_line lines seat line
whose_turn lines now has_passed (Passes seat) = whose.Seat seat
whose_turn lines now has_passed (Revenue private owner amount) = whose.Nobody
whose_turn lines now has_passed (Price price) = whose.Nobody
whose_turn lines now has_passed (Left seat count) = whose.Nobody
whose_turn lines now has_passed (Home company place) = whose.Company company
whose_turn lines now has_passed (Laid company lay cost) = whose.Company company
whose_turn lines now has_passed (Token company place cost) = whose.Company company
whose_turn lines now has_passed (Withheld company amount) = whose.Company company
whose_turn lines now has_passed (Runs company revenue) = whose.Company company
whose_turn lines now has_passed (Forced company) = whose.Company company
whose_turn lines now has_passed other = whose_behind now has_passed

-- whose turn a group is of, if there is one
abbrev pub whose_now : Option Group → Whose
whose_now None = whose.Nobody
whose_now (Some group) = group.whose

-- behind an event of the group that goes on, which is a pass or not
abbrev pub going_on : Option Group → Group → Bool → Grouped
going_on ended group is_pass =
    record { ended = ended; now = record { within = true; has_passed = is_pass; group = Some group } }

-- a group with one more event, before which this many passed
abbrev pub with_one : Group → ℕ → Group
with_one group passed = record { whose = group.whose; from = group.from; to = passed + 1 }

-- a group of one event
abbrev pub one_of : Whose → ℕ → Group
one_of whose passed = record { whose = whose; from = passed; to = passed + 1 }

-- an event of this turn belongs to the group that goes on if that is of the same party, and otherwise begins another
abbrev pub joined : Option Group → Whose → ℕ → Bool → Grouped
joined None its passed is_pass = going_on None (one_of its passed) is_pass
joined (Some group) its passed is_pass =
    if same_whose group.whose its
    then going_on None (with_one group passed) is_pass
    else going_on (Some group) (one_of its passed) is_pass

-- behind an event that begins no round; those of other rounds belong to no group
abbrev pub with_event : List SheetLine → Grouping → ℕ → Event → Grouped
with_event lines now passed event =
    if now.within
    then joined now.group (whose_turn lines (whose_now now.group) now.has_passed event) passed (is_pass event)
    else record { ended = None; now = now }

-- behind an event that begins this round, if it begins one
abbrev pub grouped_by : List SheetLine → Round → Grouping → ℕ → Event → Option Round → Grouped
grouped_by lines round now passed event None = with_event lines now passed event
grouped_by lines round now passed event (Some begun) =
    record {
      ended = None;
      now = record { within = same_round begun round; has_passed = now.has_passed; group = now.group };
    }

-- behind one more event
abbrev pub grouped_then : List SheetLine → Round → Grouping → ℕ → Event → Grouped
grouped_then lines round now passed event = grouped_by lines round now passed event (round_begun_by event)

-- how far some events are grouped, how many there are, and the groups that have ended
pub record GroupsSoFar : Type 0 where
  pub now : Grouping
  pub passed : ℕ
  pub groups : List Group

-- after one more event
abbrev pub groups_then : List SheetLine → Round → GroupsSoFar → Event → GroupsSoFar
groups_then lines round so_far event =
    let grouped = grouped_then lines round so_far.now so_far.passed event in
    record {
      now = grouped.now;
      passed = so_far.passed + 1;
      groups = so_far.groups ++ any_group grouped.ended;
    }

-- before the first event
abbrev pub no_groups : GroupsSoFar
no_groups = record { now = record { within = false; has_passed = false; group = None }; passed = 0; groups = [] }

-- those that have ended, and that which goes on
abbrev pub all_groups : GroupsSoFar → List Group
all_groups so_far = so_far.groups ++ any_group so_far.now.group

-- the groups of the events of a round
abbrev pub groups_of : List SheetLine → Round → List Event → List Group
groups_of lines round events = all_groups (fold (groups_then lines round) no_groups events)
