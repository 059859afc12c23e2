-- RUN BEST: a company runs its trains at their best. It needs the step of runs or one before it, a
-- train, and that no train has run in the turn. The company is then credited the greatest revenue
-- that any legal set of runs for its trains earns by the map state. That is the revenue of the
-- turn, which is then past its token, and no train is left to run.
use Rattle.std.specs.List.{fold}
use Rattle.std.specs.Prelude.{List, ◌++◌, Some, replicate, [], Bool, not, ◌||◌, ◌∷◌, Option, ℕ, ◌≡◌, None}
use Rattle.events.specs.declared.event.Event.{Event}
use Rattle.events.specs.declared.event.Event.TheVariants as event
use Rattle.events.specs.declared.ruling.Refusal.TheVariants as refusal
use Rattle.events.specs.declared.ruling.Ruling.TheVariants.{Obeyed, Refused}
use Rattle.forced_purchase.specs.declared.operator.Operator.{Operator}
use Rattle.legal_runs.specs.Fault.{tested_run_rule}
use Rattle.legal_runs.specs.Set.{IsGreatest}
use Rattle.map_tables.specs.declared.rules.RunRule.{RunRule}
use Rattle.map_tables.specs.declared.rules.RunRule.TheVariants as run_rule
use Rattle.operating.specs.MapState.{position_now}
use Rattle.operating.specs.Progress.{best_done, has_any_run, is_past_runs}
use Rattle.operating.specs.TurnState.{TurnState, turn_state, line_recorded}
use Rattle.operating.specs.declared.progress.Progress.{Progress}
use Rattle.order_grammar.specs.declared.order.Order.TheVariants as order
use Rattle.order_grammar.specs.declared.play.PlayOrder.TheVariants as play
use Rattle.purchases.specs.Train.{has_trains}
use Rattle.sheets.specs.Part.{Numbered}
use Rattle.tables.specs.Rules.{Rule, first_broken}
use Rattle.tables.specs.Train.{kinds}
use Rattle.tables.specs.declared.rolling_stock.Kind.{Kind}
use Rattle.tables.specs.declared.roster.Company.{Company}
use Rattle.totals.specs.LookBack.{Game, with_event}
use Rattle.totals.specs.Trains.{at_least_zero, trains_held}

-- some trains, and after them those of a kind that a company has
abbrev pub with_those_held : List Event → Company → List Kind → Kind → List Kind
with_those_held events company trains kind =
    trains ++ replicate (at_least_zero (trains_held events (Some company) kind)) kind

-- the trains that a company has, kind by kind
abbrev pub trains_now : List Event → Company → List Kind
trains_now events company = fold (with_those_held events company) [] kinds

-- a company has no train, or some train of it has run in the turn
abbrev pub has_none_to_run : List Event → Company → Progress → Bool
has_none_to_run events company progress = not (has_trains events company) || has_any_run progress

-- the rules of a RUN BEST
abbrev pub rules_of_best : Game → Company → Progress → List (Rule RunRule)
rules_of_best game company progress = tested_run_rule run_rule.StepUsed (is_past_runs progress)
    ∷ tested_run_rule run_rule.NoTrain (has_none_to_run game.events company progress) ∷ []

-- the first one that is broken
abbrev pub best_judgement : TurnState → Company → Option RunRule
best_judgement turn company = first_broken (rules_of_best turn.game company turn.progress)

-- after a RUN BEST in this line was obeyed, which earned this much
abbrev pub best_earned : Operator → TurnState → Numbered → ℕ → TurnState
best_earned by turn line revenue =
    turn_state (with_event (line_recorded by turn line (Obeyed line.condition (order.Play play.RunBest))).game
    (event.Runs by.company revenue)) (best_done turn.progress revenue)

-- a RUN BEST in this line leads to new, with the rule that refuses it, if one does
abbrev pub BestRuled : Operator → TurnState → Numbered → Option RunRule → TurnState → Type 0
BestRuled by turn line (Some rule) new = new ≡ line_recorded by turn line
    (Refused (refusal.Run rule) line.condition (order.Play play.RunBest))
BestRuled by turn line None new =
    (revenue : ℕ) × IsGreatest (position_now turn.game.events) by.company (trains_now turn.game.events by.company)
    revenue × (new ≡ best_earned by turn line revenue)

-- a RUN BEST in this line leads to new
abbrev pub BestLeads : Operator → TurnState → Numbered → TurnState → Type 0
BestLeads by turn line new = BestRuled by turn line (best_judgement turn by.company) new
