-- The marks of a turn are those of the borders that the walks of its obeyed runs cross. They are
-- none at first, a run that is obeyed adds its own, and no other order touches them.
use Rattle.std.proofs.Common.{◌≡◌, ℕ, Bool, true, false, List, [], ◌∷◌, ◌++◌, Option, Some, None, Result, Ok, Err}
use Rattle.std.proofs.Common.{length, replicate, zero, suc, refl, sym, subst, ap}
use Rattle.legal_runs.proofs.TallyOfWalk.{crossed_used}
use Rattle.legal_runs.proofs.Sharing.{legal_by_marks}
use Rattle.legal_runs.specs.Legal.{all_crossed, crossed}
use Rattle.legal_runs.specs.Marks.{IsUsed, MarksAre}
use Rattle.map_tables.specs.declared.rules.RunRule.{RunRule}
use Rattle.map_tables.specs.declared.place.Place.{Place}
use Rattle.operating.proofs.OtherOrders.{after_other}
use Rattle.operating.proofs.RunLemmas.{judged_borders, judged_legal}
use Rattle.operating.specs.CompanyOrders.{AskedLeads, OrderLeads, ReadingLeads, is_held}
use Rattle.operating.specs.LegalRuns.{LinesRun, ObeyedRunsAreLegal, walk_asked, walk_if_ran, walk_obeyed, walk_ordered}
use Rattle.operating.specs.MapState.{steps_now}
use Rattle.operating.specs.Run.{judged_run, run_ruled}
use Rattle.operating.specs.RunBest.{BestRuled, best_judgement}
use Rattle.operating.specs.CompletedRuns.{no_runs}
use Rattle.operating.specs.Turn.{begun}
use Rattle.operating.specs.TurnState.{TurnState}
use Rattle.forced_purchase.specs.declared.operator.Operator.{Operator}
use Rattle.operating.specs.declared.completed_runs.CompletedRun.{CompletedRun}
use Rattle.operating.specs.declared.completed_runs.Runs.{Runs}
use Rattle.order_grammar.specs.declared.fault.Fault.{Fault}
use Rattle.order_grammar.specs.declared.order.Order.{Order}
use Rattle.order_grammar.specs.declared.order.Order.TheVariants as order
use Rattle.order_grammar.specs.declared.play.PlayOrder.TheVariants as play
use Rattle.reach.specs.declared.walk.WalkStep.{WalkStep}
use Rattle.sheets.specs.Part.{Numbered}
use Rattle.tables.specs.declared.rolling_stock.Kind.{Kind}

-- the borders that are marked in a turn
abbrev marks_in : TurnState → List Bool
marks_in turn = turn.progress.runs.borders

-- the best of a company leaves them
after_best :
    (by : Operator) (turn : TurnState) (line : Numbered) (rule : Option RunRule) (new : TurnState) →
    BestRuled by turn line rule new → marks_in new ≡ marks_in turn
after_best by turn line (Some rule) new leads = ap marks_in leads
after_best by turn line None new leads = ap marks_in leads.2

-- these walks cross the borders that are marked
abbrev AreWalks : List (List WalkStep) → TurnState → Type 0
AreWalks walks turn = MarksAre (all_crossed walks) (marks_in turn)

-- a run that is obeyed marks its own
after_run :
    (by : Operator) (turn : TurnState) (line : Numbered) (its : Order) (kind : Kind) (run : List Place)
    (before : List (List WalkStep)) (judged : Result CompletedRun RunRule) →
    judged_run turn by.company kind run ≡ judged → AreWalks before turn →
    AreWalks (walk_if_ran (steps_now turn.game.events run) judged ++ before) (run_ruled by turn line its judged)
after_run by turn line its kind run before (Err rule) is are = are
after_run by turn line its kind run before (Ok ran) is are =
    subst (λ (marks : List Bool). MarksAre (crossed (steps_now turn.game.events run) ++ all_crossed before) marks)
    (sym (judged_borders turn by.company kind run ran is))
    (crossed_used (all_crossed before) (marks_in turn) (steps_now turn.game.events run) are)

-- the marks that an order leaves
left_as : (before : List (List WalkStep)) (turn new : TurnState) → marks_in new ≡ marks_in turn → AreWalks before turn
    → AreWalks before new
left_as before turn new same are = subst (λ (marks : List Bool). MarksAre (all_crossed before) marks) (sym same) are

-- after an order
after_order :
    (by : Operator) (turn : TurnState) (line : Numbered) (before : List (List WalkStep)) (its : Order) (new : TurnState)
    → OrderLeads by turn line its new →
    AreWalks before turn → AreWalks (walk_ordered by.company turn its ++ before) new
after_order by turn line before (order.Run kind run) new leads are =
    subst (λ (next : TurnState). AreWalks (walk_ordered by.company turn (order.Run kind run) ++ before) next)
    (sym leads)
    (after_run by turn line (order.Run kind run) kind run before (judged_run turn by.company kind run) refl are)
after_order by turn line before (order.Play play.RunBest) new leads are =
    left_as before turn new (after_best by turn line (best_judgement turn by.company) new leads) are
after_order by turn line before other new leads are =
    left_as before turn new (ap (λ (done : Bool × Runs). done.1.borders)
    (after_other by turn line other new tt leads)) are

-- after an order whose condition is checked
after_asked :
    (by : Operator) (turn : TurnState) (line : Numbered) (before : List (List WalkStep)) (its : Order) (held : Bool)
    (new : TurnState) →
    AskedLeads by turn line its held new → AreWalks before turn
    → AreWalks (walk_asked by.company turn its held ++ before) new
after_asked by turn line before its true new leads are = left_as before turn new (ap marks_in leads) are
after_asked by turn line before its false new leads are = after_order by turn line before its new leads are

-- after a line
after_line :
    (by : Operator) (turn : TurnState) (line : Numbered) (before : List (List WalkStep)) (reading : Result Order Fault)
    (new : TurnState) →
    ReadingLeads by turn line reading new → AreWalks before turn
    → AreWalks (walk_obeyed by.company turn line reading ++ before) new
after_line by turn line before (Err fault) new leads are = left_as before turn new (ap marks_in leads) are
after_line by turn line before (Ok its) new leads are =
    after_asked by turn line before its (is_held turn.game.events line.condition its) new leads are

-- after some lines
after_lines :
    (by : Operator) (turn : TurnState) (before : List (List WalkStep)) (lines : List Numbered) (new : TurnState)
    (all : List (List WalkStep)) →
    AreWalks before turn → LinesRun by turn before lines new all → AreWalks all new
after_lines by turn before [] new all are ran =
    subst (λ (walks : List (List WalkStep)). AreWalks walks new) (sym ran.1)
    (left_as before turn new (ap marks_in ran.0) are)
after_lines by turn before (line ∷ lines) new all are ran =
    after_lines by ran.0 (walk_obeyed by.company turn line line.reading ++ before) lines new all
    (after_line by turn line before line.reading ran.0 ran.1 are) ran.2

-- none is marked at first
none_set : (count border : ℕ) → IsUsed (replicate count false) border → ⊥
none_set zero border set = cc
none_set (suc count) zero set = cc
none_set (suc count) (suc border) set = none_set count border set

all_there : length (replicate 279 false) ≡ 279
all_there = refl

-- so nothing is crossed where none is marked
pub at_first : MarksAre [] no_runs.borders
at_first = record { for_each = all_there; exact = λ border. (none_set 279 border, λ among. absurd among) }

pub obeyed_legal : ObeyedRunsAreLegal
obeyed_legal by game lines turn before kind run ran lead is =
    let marks : AreWalks before turn = after_lines by (begun game by.company) [] lines turn before at_first lead in
    (legal_by_marks _ by.company kind (all_crossed before) (marks_in turn) (steps_now turn.game.events run) marks).0
    (judged_legal turn by.company kind run ran is)
