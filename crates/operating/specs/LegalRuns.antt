-- The runs of a company's turn share no border. Line by line the walks of the runs that are obeyed
-- are collected, the latest first. A run that is obeyed is legal over the borders that these walks
-- have left free.
use Rattle.std.specs.Prelude.{◌≡◌, Bool, true, false, List, [], ◌∷◌, ◌++◌, Result, Ok, Err}
use Rattle.legal_runs.specs.Legal.{IsLegalRun, all_crossed}
use Rattle.totals.specs.LookBack.{Game}
use Rattle.map_tables.specs.declared.rules.RunRule.{RunRule}
use Rattle.map_tables.specs.declared.place.Place.{Place}
use Rattle.operating.specs.CompanyOrders.{LineLeads, is_held}
use Rattle.operating.specs.MapState.{position_now, steps_now}
use Rattle.operating.specs.Run.{judged_run}
use Rattle.operating.specs.Turn.{begun}
use Rattle.operating.specs.TurnState.{TurnState}
use Rattle.forced_purchase.specs.declared.operator.Operator.{Operator}
use Rattle.operating.specs.declared.completed_runs.CompletedRun.{CompletedRun}
use Rattle.order_grammar.specs.declared.fault.Fault.{Fault}
use Rattle.order_grammar.specs.declared.order.Order.{Order}
use Rattle.order_grammar.specs.declared.order.Order.TheVariants as order
use Rattle.reach.specs.declared.walk.WalkStep.{WalkStep}
use Rattle.sheets.specs.Part.{Numbered}
use Rattle.tables.specs.declared.rolling_stock.Kind.{Kind}
use Rattle.tables.specs.declared.roster.Company.{Company}

-- the walk of a run, if it is obeyed
abbrev pub walk_if_ran : List WalkStep → Result CompletedRun RunRule → List (List WalkStep)
walk_if_ran steps (Ok ran) = steps ∷ []
walk_if_ran steps (Err rule) = []

-- the walk of the run that is ordered, if one is and it breaks no rule
abbrev pub walk_ordered : Company → TurnState → Order → List (List WalkStep)
walk_ordered company turn (order.Run kind run) =
    walk_if_ran (steps_now turn.game.events run) (judged_run turn company kind run)
walk_ordered company turn other = []

-- there is none if the condition of the order is not met
abbrev pub walk_asked : Company → TurnState → Order → Bool → List (List WalkStep)
walk_asked company turn its true = []
walk_asked company turn its false = walk_ordered company turn its

-- the walk of the run that this line with this reading orders, if it orders one and is obeyed
abbrev pub walk_obeyed : Company → TurnState → Numbered → Result Order Fault → List (List WalkStep)
walk_obeyed company turn line (Ok its) = walk_asked company turn its (is_held turn.game.events line.condition its)
walk_obeyed company turn line (Err fault) = []

-- Lines of a company's orders lead from a turn to new, one after another. The walks of their obeyed
-- runs are added to the walks before them, which makes all.
abbrev pub LinesRun : Operator → TurnState → List (List WalkStep) → List Numbered → TurnState → List (List WalkStep) → Type 0
LinesRun by turn before [] new all = (new ≡ turn) × (all ≡ before)
LinesRun by turn before (line ∷ lines) new all =
    (next : TurnState) × LineLeads by turn line next × LinesRun by next
    (walk_obeyed by.company turn line line.reading ++ before) lines new all

-- Some lines of the company's turn have been ruled. A run that is then obeyed is legal over the
-- borders that the runs obeyed before it in the turn have left free.
abbrev pub ObeyedRunsAreLegal : Type 0
ObeyedRunsAreLegal =
    (by : Operator) (game : Game) (lines : List Numbered) (turn : TurnState) (before : List (List WalkStep)) (kind : Kind)
    (run : List Place) (ran : CompletedRun) →
    LinesRun by (begun game by.company) [] lines turn before →
    judged_run turn by.company kind run ≡ Ok ran →
    IsLegalRun (position_now turn.game.events) by.company kind (all_crossed before) (steps_now turn.game.events run)
