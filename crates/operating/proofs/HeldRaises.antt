-- The RAISE lines of a company's orders, as they are held over to the end of the turn. Allocation
-- may fail there before a line is ruled, and then the runner is not called for it.
use Rattle.std.proofs.Common.{◌≡◌, Bool, true, false, List, [], ◌∷◌, ◌++◌, Option, Some, None, Result, Ok, Err}
use Rattle.std.proofs.Common.{refl, sym, ap, subst, inl, inr, ◌∙◌, append_assoc}
use Rattle.std.proofs.lemmas.List.{append-nil}
use Rattle.std.proofs.lemmas.List.Elements.{filter-append}
use Rattle.forced_purchase.proofs.RaiseLemmas.{forced_alone, raises_alone}
use Rattle.forced_purchase.specs.Raise.{is_raise, raises_in}
use Rattle.forced_purchase.specs.declared.operator.Operator.{Operator}
use Rattle.legal_runs.specs.declared.runner.RunnerFault.{RunnerFault}
use Rattle.legal_runs.specs.declared.runner.RunnerFault.TheVariants.{Memory}
use Rattle.map_tables.specs.declared.rules.RunRule.{RunRule}
use Rattle.operating.specs.Calls.{Earns, Makes}
use Rattle.operating.specs.CompanyOrders.{is_held}
use Rattle.operating.specs.RunBest.{best_judgement}
use Rattle.operating.specs.TurnCalls.{AskedCalls, BestCalls, LineCalls, OrderCalls, ReadingCalls}
use Rattle.operating.specs.TurnEnd.{EndLeads}
use Rattle.operating.specs.TurnState.{TurnState}
use Rattle.order_grammar.specs.declared.fault.Fault.{Fault}
use Rattle.order_grammar.specs.declared.order.Order.{Order}
use Rattle.order_grammar.specs.declared.order.Order.TheVariants as order
use Rattle.order_grammar.specs.declared.play.PlayOrder.TheVariants as play
use Rattle.sheets.specs.Part.{Numbered}
use Rattle.tables.specs.declared.round.Round.{Round}
use Rattle.totals.specs.LookBack.{Game}

-- those that are held and those that are left are all, line by line
pub held_on : (all old new : List Numbered) (line : Numbered) (before lines : List Numbered)
    → before ≡ line ∷ lines → new ≡ old ++ raises_in (line ∷ []) → old ++ raises_in before ≡ all
    → new ++ raises_in lines ≡ all
held_on all old new line before lines are held so_far =
    ap (λ (its : List Numbered). its ++ raises_in lines) held
    ∙ append_assoc old (raises_in (line ∷ [])) (raises_in lines)
    ∙ ap (λ (its : List Numbered). old ++ its)
    (sym (filter-append (λ (its : Numbered). is_raise its.reading) (line ∷ []) lines))
    ∙ ap (λ (its : List Numbered). old ++ raises_in its) (sym are)
    ∙ so_far

-- where no line is left, those that are held are all
pub held_all : (all held before : List Numbered) → before ≡ [] → held ++ raises_in before ≡ all → held ≡ all
held_all all held before none so_far =
    sym (append-nil held) ∙ ap (λ (its : List Numbered). held ++ raises_in its) (sym none) ∙ so_far

-- the end of a turn needs no other line
pub ends_alone : (by : Operator) (lines : List Numbered) (game new : Game)
    → EndLeads by (raises_in lines) game new → EndLeads by lines game new
ends_alone by lines game new ends =
    elim ends [
      | inl due ↦ inl (due.0, due.1 ∙ forced_alone by lines game)
      | inr none ↦ inr (none.0, none.1 ∙ raises_alone false by lines game)
    ]

best_unbegun : (by : Operator) (round : Round) (line : Numbered) (rule : Option RunRule) (turn : TurnState)
    → BestCalls by round line rule turn (Err Memory) []
best_unbegun by round line (Some rule) turn = (refl, refl)
best_unbegun by round line None turn = inl (inr (refl, refl))

order_unbegun : (by : Operator) (round : Round) (line : Numbered) (its : Order) (turn : TurnState)
    → OrderCalls by round line its turn (Err Memory) []
order_unbegun by round line (order.Play play.RunBest) turn =
    inl (refl, best_unbegun by round line (best_judgement turn by.company) turn)
order_unbegun by round line other turn = inr ((λ (best : other ≡ order.Play play.RunBest). cc), (refl, refl))

asked_unbegun : (by : Operator) (round : Round) (line : Numbered) (its : Order) (held : Bool) (turn : TurnState)
    → AskedCalls by round line its held turn (Err Memory) []
asked_unbegun by round line its true turn = (refl, refl)
asked_unbegun by round line its false turn = order_unbegun by round line its turn

reading_unbegun : (by : Operator) (round : Round) (line : Numbered) (reading : Result Order Fault) (turn : TurnState)
    → ReadingCalls by round line reading turn (Err Memory) []
reading_unbegun by round line (Ok its) turn =
    asked_unbegun by round line its (is_held turn.game.events line.condition its) turn
reading_unbegun by round line (Err fault) turn = (refl, refl)

-- a line makes no call if allocation fails before it is ruled
pub line_unbegun :
    {Runner : Type 0} (earns : Earns Runner) (by : Operator) (round : Round) (line : Numbered) (turn : TurnState)
    (outcome : Result TurnState RunnerFault) (runner : Runner) → outcome ≡ Err Memory
    → Makes earns runner (LineCalls by round line turn outcome) runner
line_unbegun earns by round line turn outcome runner is =
    subst (λ (met : Result TurnState RunnerFault). Makes earns runner (LineCalls by round line turn met) runner)
    (sym is) ([], reading_unbegun by round line line.reading turn, refl)
