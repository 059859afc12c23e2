-- Of which round the runs are told: of that which is asked for; otherwise of the last in which a company ran,
-- or of the last that was played if none ran.
use Rattle.std.specs.Prelude.{ℕ, ◌+◌, Bool, false, if◌then◌else◌, List, [], ◌++◌, Option, Some, None, unwrap_or}
use Rattle.std.specs.List.{cons_option, fold}
use Rattle.desk_round.specs.declared.train_runs.RunRow.{RunRow}
use Rattle.desk_round.specs.declared.train_runs.Seen.{Seen}
use Rattle.desk_why.specs.Refused.{within_then}
use Rattle.events.specs.declared.event.Event.{Event}
use Rattle.events.specs.declared.event.Event.TheVariants.{Round as Begun, Ruled, Runs}
use Rattle.tables.specs.declared.roster.Company.{Company}
use Rattle.tables.specs.declared.round.Round.{Round}

-- after one more event
abbrev pub seen_then : Seen → Event → Seen
seen_then seen (Begun round) = record seen { begun = Some round }
seen_then seen (Runs company revenue) = record seen { ran = seen.begun }
seen_then seen other = seen

-- the last round of a game in which a company ran
abbrev pub last_with_runs : List Event → Option Round
last_with_runs events = (fold seen_then (record { begun = None; ran = None }) events).ran

-- the round of which the runs are told, in a game that played this round last
abbrev pub round_of_runs : List Event → Round → Option Round → Round
round_of_runs events last (Some round) = round
round_of_runs events last None = unwrap_or (last_with_runs events) last

-- how many events precede the last ruling of a line, with one more event
abbrev pub ruled_then : Option ℕ → ℕ → Event → Option ℕ
ruled_then ruled passed (Ruled seat line ruling) = Some passed
ruled_then ruled passed other = ruled

-- what a company earned, if it was in the round, and a line had been ruled
abbrev pub ran : Bool → Option ℕ → ℕ → Company → ℕ → Option RunRow
ran within None passed company revenue = None
ran within (Some ruled) passed company revenue =
    if within
    then Some (record { place = passed; ruled = ruled; company = company; revenue = revenue })
    else None

-- by an event that this many precede
abbrev pub run_by : Bool → Option ℕ → ℕ → Event → Option RunRow
run_by within ruled passed (Runs company revenue) = ran within ruled passed company revenue
run_by within ruled passed other = None

-- as a list
abbrev pub runs_by : Bool → Option ℕ → ℕ → Event → List RunRow
runs_by within ruled passed event = cons_option (run_by within ruled passed event) []

-- whether the round is in hand, how many events there are, how many precede the last ruling, and what companies earned
pub record RunsSoFar : Type 0 where
  pub within : Bool
  pub passed : ℕ
  pub ruled : Option ℕ
  pub rows : List RunRow

-- before the first event
abbrev pub no_runs : RunsSoFar
no_runs = record { within = false; passed = 0; ruled = None; rows = [] }

-- after one more event
abbrev pub runs_then : Round → RunsSoFar → Event → RunsSoFar
runs_then round so_far event =
    record {
      within = within_then round so_far.within event;
      passed = so_far.passed + 1;
      ruled = ruled_then so_far.ruled so_far.passed event;
      rows = so_far.rows ++ runs_by so_far.within so_far.ruled so_far.passed event;
    }

-- what each company earned in a round, in order: each of its runs, and no other
abbrev pub runs_in : Round → List Event → List RunRow
runs_in round events = (fold (runs_then round) no_runs events).rows
