-- RUN: a train of a company runs. It needs the step of runs or one before it. It needs a train of
-- its kind that has not run in the turn; once the best has been run, all have. These are the rules
-- of the turn. The run itself must break no rule of runs (`legal_runs: rules_of_run`), by the map
-- state and by the borders that the runs before it have used. It then earns what its stops are
-- worth; the train has run, its borders are used, and the turn is past its token. What all runs
-- earn is the revenue of the turn.
use Rattle.std.specs.Option.{option_or}
use Rattle.std.specs.Prelude.{Bool, ◌||◌, Some, List, [], ◌∷◌, Option, None, Result, Ok, Err}
use lib.Signed.{le_z}
use Rattle.events.specs.declared.event.Event.TheVariants as event
use Rattle.events.specs.declared.ruling.Refusal.TheVariants as refusal
use Rattle.events.specs.declared.ruling.Ruling.TheVariants.{Obeyed, Refused}
use Rattle.forced_purchase.specs.declared.operator.Operator.{Operator}
use Rattle.legal_runs.specs.Fault.{named_steps, run_fault, tested_run_rule}
use Rattle.legal_runs.specs.Legal.{crossed, earned}
use Rattle.legal_runs.specs.Marks.{borders_used, marked}
use Rattle.map_tables.specs.declared.place.Place.{Place}
use Rattle.map_tables.specs.declared.rules.RunRule.{RunRule}
use Rattle.map_tables.specs.declared.rules.RunRule.TheVariants as run_rule
use Rattle.operating.specs.MapState.{position_now}
use Rattle.operating.specs.Progress.{is_past_runs, run_done}
use Rattle.operating.specs.CompletedRuns.{has_run}
use Rattle.operating.specs.TurnState.{TurnState, turn_state, line_recorded}
use Rattle.operating.specs.declared.progress.Progress.{Progress}
use Rattle.operating.specs.declared.completed_runs.CompletedRun.{CompletedRun}
use Rattle.order_grammar.specs.declared.order.Order.{Order}
use Rattle.reach.specs.Position.{Position}
use Rattle.sheets.specs.Part.{Numbered}
use Rattle.tables.specs.Rules.{Rule, first_broken}
use Rattle.tables.specs.declared.rolling_stock.Kind.{Kind}
use Rattle.tables.specs.declared.roster.Company.{Company}
use Rattle.totals.specs.LookBack.{Game, with_event}
use Rattle.totals.specs.Trains.{trains_held}

-- each train of the kind that the company has, if any, has run
abbrev pub have_all_run : Game → Company → Progress → Kind → Bool
have_all_run game company progress kind =
    progress.best_run || le_z (trains_held game.events (Some company) kind) (has_run progress.runs kind)

-- the rules of the turn
abbrev pub rules_of_turn : Game → Company → Progress → Kind → List (Rule RunRule)
rules_of_turn game company progress kind = tested_run_rule run_rule.StepUsed (is_past_runs progress)
    ∷ tested_run_rule run_rule.NoTrain (have_all_run game company progress kind) ∷ []

-- what a run over a position does, with the borders used that are marked so: what it earns, and the
-- borders that are used once it is run
abbrev pub ran_by : Position → Kind → List Bool → List Place → CompletedRun
ran_by position kind used run = record {
  kind = kind;
  earned = earned position (named_steps position run);
  borders = marked used (crossed (named_steps position run));
}

-- a run that breaks this rule, if it breaks one, and otherwise does this
abbrev pub ran_unless : CompletedRun → Option RunRule → Result CompletedRun RunRule
ran_unless ran None = Ok ran
ran_unless ran (Some rule) = Err rule

-- the first rule of runs that a run breaks
abbrev pub broken_by : Position → Company → Kind → List Bool → List Place → Option RunRule
broken_by position company kind used run = run_fault position company kind (borders_used used) run

-- what a run does, or the first rule of runs that it breaks
abbrev pub ran_unless_fault : Position → Company → Kind → List Bool → List Place → Result CompletedRun RunRule
ran_unless_fault position company kind used run =
    ran_unless (ran_by position kind used run) (broken_by position company kind used run)

-- the first rule that a run of a train of a kind breaks: those of the turn are before those of runs
abbrev pub run_judgement : TurnState → Company → Kind → List Place → Option RunRule
run_judgement turn company kind run = option_or (first_broken (rules_of_turn turn.game company turn.progress kind))
    (broken_by (position_now turn.game.events) company kind turn.progress.runs.borders run)

-- what a run of a train of a kind does, or the first rule that it breaks
abbrev pub judged_run : TurnState → Company → Kind → List Place → Result CompletedRun RunRule
judged_run turn company kind run =
    ran_unless (ran_by (position_now turn.game.events) kind turn.progress.runs.borders run)
    (run_judgement turn company kind run)

-- after the order of this line, by which a train has run or which broke a rule
abbrev pub run_ruled : Operator → TurnState → Numbered → Order → Result CompletedRun RunRule → TurnState
run_ruled by turn line order (Err rule) = line_recorded by turn line (Refused (refusal.Run rule) line.condition order)
run_ruled by turn line order (Ok ran) =
    turn_state (with_event (line_recorded by turn line (Obeyed line.condition order)).game
    (event.Runs by.company ran.earned)) (run_done turn.progress ran)

-- after an order in this line to run a train of a kind
abbrev pub after_run : Operator → TurnState → Numbered → Order → Kind → List Place → TurnState
after_run by turn line order kind run = run_ruled by turn line order (judged_run turn by.company kind run)
