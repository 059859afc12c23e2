-- The kind of train that comes next, whose first sale by the bank begins a phase, and what it
-- brings: the trains that rust, the limit of trains, the tiles that may be laid, the privates that
-- close or may be sold to companies, and the rounds of a set.
use Rattle.std.specs.Prelude.{ℕ, ◌-◌, Bool, ◌&&◌, nat_lt, if◌then◌else◌, List, Option, Some, None}
use Rattle.std.specs.Prelude.{option_map, is_some, pos, ℤ, ◌-ℤ◌}
use Rattle.std.specs.List.{list_any}
use Rattle.desk_dues.specs.declared.coming_kind.NextKind.{NextKind}
use Rattle.events.specs.declared.event.Event.{Event}
use Rattle.map_tables.specs.declared.tiles.Colour.{Colour}
use Rattle.map_tables.specs.declared.tiles.Colour.TheVariants.{Green, Brown}
use Rattle.totals.specs.LookBack.{owner_of}
use Rattle.totals.specs.Trains.{at_least_zero, phase_of, train_count, trains_held, trains_sold}
use Rattle.tables.specs.Roster.{privates}
use Rattle.tables.specs.Train.{index_of_kind, limit_of, rounds_in_set_of, same_kind, trains_of}
use Rattle.tables.specs.declared.rolling_stock.Kind.{Kind}
use Rattle.tables.specs.declared.rolling_stock.Kind.TheVariants.{Two, Three, Four, Five, Six, Diesel}
use Rattle.tables.specs.declared.roster.Company.{Company}

-- the kind that comes after a kind
abbrev pub kind_after : Kind → Option Kind
kind_after Two = Some Three
kind_after Three = Some Four
kind_after Four = Some Five
kind_after Five = Some Six
kind_after Six = Some Diesel
kind_after Diesel = None

-- the kind whose trains rust with the first train of a kind
abbrev pub rusted_with : Kind → Option Kind
rusted_with Two = None
rusted_with Three = None
rusted_with Four = Some Two
rusted_with Five = None
rusted_with Six = Some Three
rusted_with Diesel = Some Four

-- the colour of the tiles that may be laid from the first train of a kind on
abbrev pub colour_opened_by : Kind → Option Colour
colour_opened_by Two = None
colour_opened_by Three = Some Green
colour_opened_by Four = None
colour_opened_by Five = Some Brown
colour_opened_by Six = None
colour_opened_by Diesel = None

-- some private is open
abbrev pub is_one_open : List Event → Bool
is_one_open events = list_any (λ private. is_some (owner_of events private)) privates

-- how many trains of a kind the bank has left; of the D there is any number, and none is counted
abbrev pub number_left : Option ℕ → ℕ → ℕ
number_left None sold = 0
number_left (Some number) sold = number - sold

-- how many trains of a kind the bank sells before it sells the first of a later kind: all that it
-- has left, but of the 6 only the first before a D
abbrev pub left_before : List Event → Kind → Kind → ℕ
left_before events new kind =
    if nat_lt (index_of_kind kind) (index_of_kind new)
    then (if same_kind new Diesel && same_kind kind Six
    then 1 - trains_sold events kind
    else number_left (trains_of kind).number (trains_sold events kind))
    else 0

-- what the first train of a kind brings, in this phase
abbrev pub next_kind_in : List Event → Kind → Kind → NextKind
next_kind_in events phase kind = record {
  kind = kind;
  price = (trains_of kind).price;
  rusts = rusted_with kind;
  limit_before = limit_of phase;
  limit = limit_of kind;
  opens = colour_opened_by kind;
  closes = same_kind kind Five && is_one_open events;
  sells_privates = same_kind kind Three && is_one_open events;
  rounds_before = rounds_in_set_of phase;
  rounds = rounds_in_set_of kind;
}

-- what the first train of the next kind brings; nothing comes after the D
abbrev pub next_kind_of : List Event → Option NextKind
next_kind_of events = option_map (next_kind_in events (phase_of events)) (kind_after (phase_of events))

-- how many trains a company has that rust, if a kind does
abbrev pub rusting_held : List Event → Company → Option Kind → ℤ
rusting_held events company None = pos 0
rusting_held events company (Some kind) = trains_held events (Some company) kind

-- how many trains a company has once those have rusted that rust with the first train of a kind
abbrev pub kept_with : List Event → Company → Kind → ℤ
kept_with events company new =
    train_count events (Some company) -ℤ rusting_held events company (rusted_with new)

-- how many trains a company must give up with the first train of a kind: those above the limit of
-- its phase
abbrev pub discarded_with : List Event → Company → Kind → ℕ
discarded_with events company new = at_least_zero (kept_with events company new -ℤ pos (limit_of new))
