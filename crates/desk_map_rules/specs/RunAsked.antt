-- The rules that a run or a dividend breaks at a moment of a game. The rules of a run are asked by its places, so that each is
-- asked whether there is track or not. A run visits the stops that its places name, and crosses the borders between them. Not
-- asked are the rules of steps, nor what earlier runs of the turn have crossed.
use Rattle.std.specs.Prelude.{◌+◌, ◌-◌, ◌==◌, Bool, true, not, List, [], ◌∷◌, ◌++◌, drop, is_none, length, pos, take}
use Rattle.std.specs.Prelude.{Some}
use Rattle.std.specs.List.{flat_map, list_any}
use Rattle.std.specs.Int.Signed.{le_z}
use Rattle.board_state.specs.MapState.{MapState, position_of}
use Rattle.desk_map_rules.specs.Broken.{broken_of, row_rule}
use Rattle.desk_map_rules.specs.RunTrack.{borders_named}
use Rattle.events.specs.declared.event.Event.{Event}
use Rattle.events.specs.declared.ruling.PayRule.TheVariants as of_pay
use Rattle.events.specs.declared.ruling.Refusal.{Refusal}
use Rattle.events.specs.declared.ruling.Refusal.TheVariants as refusal
use Rattle.legal_runs.specs.Fault.{has_border_twice, has_stop_twice, has_token_at_stop, is_full, is_wrong_number}
use Rattle.legal_runs.specs.Fault.{tested_run_rule}
use Rattle.legal_runs.specs.Legal.{listed}
use Rattle.legal_runs.specs.Named.{walk_named}
use Rattle.map_tables.specs.Place.{stop_of_place}
use Rattle.map_tables.specs.declared.place.Place.{Place}
use Rattle.map_tables.specs.declared.place.Stop.{Stop}
use Rattle.map_tables.specs.declared.rules.RunRule.{RunRule}
use Rattle.map_tables.specs.declared.rules.RunRule.TheVariants as of_run
use Rattle.purchases.specs.Train.{has_trains}
use Rattle.reach.specs.Position.{is_red}
use Rattle.tables.specs.Rules.{Rule}
use Rattle.tables.specs.declared.rolling_stock.Kind.{Kind}
use Rattle.tables.specs.declared.roster.Company.{Company}
use Rattle.totals.specs.Trains.{trains_held}

-- the stops that some places name
abbrev pub stops_named : List Place → List Stop
stops_named places = flat_map (λ place. listed (stop_of_place place)) places

-- the places of a run between its ends
abbrev pub inner_places : List Place → List Place
inner_places places = take (length places - 2) (drop 1 places)

-- both ends of a run name a stop: it names two more than those between
abbrev pub names_ends : List Place → Bool
names_ends places = length (stops_named places) == length (stops_named (inner_places places)) + 2

-- A rule of a run is asked. What the run visits has no meaning unless both its ends are stops.
abbrev pub is_asked_of_run : List Place → RunRule → Bool
is_asked_of_run places of_run.NoTrain = true
is_asked_of_run places of_run.NoTrack = true
is_asked_of_run places of_run.BorderTwice = true
is_asked_of_run places other = names_ends places

-- a company has no train of a kind
abbrev pub has_none_of : List Event → Company → Kind → Bool
has_none_of events company kind = le_z (trains_held events (Some company) kind) (pos 0)

-- the rules of a run that are asked by its places
abbrev pub run_rules_by : List Event → MapState → Company → Kind → List Place → List (Rule RunRule)
run_rules_by events laid company kind places =
    tested_run_rule of_run.NoTrain (has_none_of events company kind)
    ∷ tested_run_rule of_run.NoTrack (is_none (walk_named (position_of laid) places))
    ∷ tested_run_rule of_run.WrongNumber (is_wrong_number kind (length (stops_named places)))
    ∷ tested_run_rule of_run.StopTwice (has_stop_twice (stops_named places))
    ∷ tested_run_rule of_run.BorderTwice (has_border_twice [] (borders_named places))
    ∷ tested_run_rule of_run.PassesFull (list_any (is_full (position_of laid) company) (stops_named (inner_places places)))
    ∷ tested_run_rule of_run.NoToken (not (list_any (has_token_at_stop (position_of laid) company) (stops_named places)))
    ∷ tested_run_rule of_run.RedInside (list_any (is_red (position_of laid)) (stops_named (inner_places places)))
    ∷ []

-- those that it breaks
abbrev pub run_broken : List Event → MapState → Company → Kind → List Place → List Refusal
run_broken events laid company kind places =
    broken_of (is_asked_of_run places) refusal.Run (run_rules_by events laid company kind places)

-- the rule that a company without trains breaks
abbrev pub trainless : Refusal → List Event → Company → List Refusal
trainless rule events company = row_rule (record { rule = rule; is_broken = not (has_trains events company) })

-- A company without trains has no best run.
abbrev pub best_broken : List Event → Company → List Refusal
best_broken events company = trainless (refusal.Run of_run.NoTrain) events company

-- A company without trains has nothing to pay.
abbrev pub pay_broken : List Event → Company → List Refusal
pay_broken events company = trainless (refusal.Pay of_pay.NothingToPay) events company
