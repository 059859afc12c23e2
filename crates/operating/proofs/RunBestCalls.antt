-- The call that an order to run the best makes of a runner.
use Rattle.std.proofs.Common.{◌≡◌, ℕ, ℤ, pos, List, [], ◌∷◌, Option, Some, None, Result, Ok, Err, refl, sym, subst, ◌∙◌}
use Rattle.std.proofs.Common.{inl}
use Rattle.events.specs.declared.event.Event.{Event}
use Rattle.forced_purchase.specs.declared.operator.Operator.{Operator}
use Rattle.legal_runs.specs.Set.{IsGreatest}
use Rattle.legal_runs.specs.declared.runner.RunnerFault.{RunnerFault}
use Rattle.legal_runs.specs.declared.runner.RunnerFault.TheVariants.{Memory}
use Rattle.map_tables.specs.declared.rules.RunRule.{RunRule}
use Rattle.operating.proofs.Calls.{broken_off, joined}
use Rattle.operating.specs.Calls.{Earns, Makes, Unasked}
use Rattle.operating.specs.MapState.{position_now}
use Rattle.operating.specs.RunBest.{best_judgement, trains_now}
use Rattle.operating.specs.TurnCalls.{Asks, BestCalls, IsCredited, asked}
use Rattle.operating.specs.TurnState.{TurnState}
use Rattle.reach.specs.Position.{Position}
use Rattle.sheets.specs.Part.{Numbered}
use Rattle.tables.specs.declared.rolling_stock.Kind.{Kind}
use Rattle.tables.specs.declared.roster.Company.{Company}
use Rattle.tables.specs.declared.round.Round.{Round}

module _ {Runner : Type 0} (earns : Earns Runner) where
  -- a runner that was called for the best runs, and returned
  is_asked :
      (events : List Event) (position : Position) (round : Round) (company : Company) (trains : List Kind)
      (answer : Result ℤ RunnerFault)
      (before after : Runner) →
      position ≡ position_now events → trains ≡ trains_now events company
      → earns before position round company trains answer after →
      earns before (position_now events) round company (trains_now events company) answer after
  is_asked events position round company trains answer before after is_position are_trains earned =
      subst (λ (held : List Kind). earns before (position_now events) round company held answer after) are_trains
      (subst (λ (at : Position). earns before at round company trains answer after) is_position earned)

  -- it returned a revenue
  pub answered_revenue :
      (events : List Event) (position : Position) (round : Round) (company : Company) (trains : List Kind)
      (answer : Result ℤ RunnerFault) (revenue : ℕ)
      (before after : Runner) →
      position ≡ position_now events → trains ≡ trains_now events company → answer ≡ Ok (pos revenue) →
      IsGreatest (position_now events) company (trains_now events company) revenue →
      earns before position round company trains answer after
      → Makes earns before (Asks company round events (Ok revenue)) after
  answered_revenue events position round company trains answer revenue before after is_position are_trains is_answer
      greatest earned = (
        asked company round events (Ok (pos revenue)) ∷ [],
        (greatest, refl),
        (
          after,
          subst (λ (said : Result ℤ RunnerFault). earns before (position_now events) round company
              (trains_now events company) said after) is_answer
              (is_asked events position round company trains answer before after is_position are_trains earned),
          refl,
        ),
      )

  -- it returned why it has none
  pub answered_fault :
      (events : List Event) (position : Position) (round : Round) (company : Company) (trains : List Kind)
      (answer : Result ℤ RunnerFault)
      (fault : RunnerFault) (result : Result ℕ RunnerFault) (before after : Runner) →
      position ≡ position_now events → trains ≡ trains_now events company → answer ≡ Err fault → result ≡ Err fault →
      earns before position round company trains answer after
      → Makes earns before (Asks company round events result) after
  answered_fault events position round company trains answer fault result before after is_position are_trains is_answer
      is_result earned =
      subst (λ (met : Result ℕ RunnerFault). Makes earns before (Asks company round events met) after) (sym is_result) (
        asked company round events (Err fault) ∷ [],
        inl refl,
        (
          after,
          subst (λ (said : Result ℤ RunnerFault). earns before (position_now events) round company
              (trains_now events company) said after) is_answer
              (is_asked events position round company trains answer before after is_position are_trains earned),
          refl,
        ),
      )

  -- a RUN BEST that breaks a rule makes no call, even if allocation fails
  pub broken_unasked :
      (by : Operator) (round : Round) (line : Numbered) (turn : TurnState) (found : Option RunRule) (rule : RunRule)
      (outcome : Result TurnState RunnerFault) (runner : Runner) →
      found ≡ best_judgement turn by.company → found ≡ Some rule → outcome ≡ Err Memory →
      Makes earns runner (BestCalls by round line (best_judgement turn by.company) turn outcome) runner
  broken_unasked by round line turn found rule outcome runner judged broken is =
      subst (λ (met : Result TurnState RunnerFault). Makes earns runner
      (BestCalls by round line (best_judgement turn by.company) turn met) runner) (sym is)
      (subst (λ (its : Option RunRule). Makes earns runner (BestCalls by round line its turn (Err Memory)) runner)
      (sym broken ∙ judged)
      ([], (refl, refl), refl))

  -- one that breaks none, if the runner's call fails
  pub best_unanswered :
      (by : Operator) (round : Round) (line : Numbered) (turn : TurnState) (found : Option RunRule)
      (fault : RunnerFault)
      (outcome : Result TurnState RunnerFault) (before after : Runner) →
      found ≡ best_judgement turn by.company → found ≡ None → outcome ≡ Err fault →
      Makes earns before (Asks by.company round turn.game.events (Err fault)) after →
      Makes earns before (BestCalls by round line (best_judgement turn by.company) turn outcome) after
  best_unanswered by round line turn found fault outcome before after judged none is asked_it =
      subst (λ (met : Result TurnState RunnerFault). Makes earns before
      (BestCalls by round line (best_judgement turn by.company) turn met) after) (sym is)
      (subst (λ (its : Option RunRule). Makes earns before (BestCalls by round line its turn (Err fault)) after)
      (sym none ∙ judged)
      (broken_off earns (Asks by.company round) (Unasked Memory (IsCredited by turn line)) turn.game.events fault
      before after asked_it))

  -- and one if it returns a revenue, and allocation fails after that
  pub best_unrecorded :
      (by : Operator) (round : Round) (line : Numbered) (turn : TurnState) (found : Option RunRule) (revenue : ℕ)
      (outcome : Result TurnState RunnerFault) (before after : Runner) →
      found ≡ best_judgement turn by.company → found ≡ None → outcome ≡ Err Memory →
      Makes earns before (Asks by.company round turn.game.events (Ok revenue)) after →
      Makes earns before (BestCalls by round line (best_judgement turn by.company) turn outcome) after
  best_unrecorded by round line turn found revenue outcome before after judged none is asked_it =
      subst (λ (met : Result TurnState RunnerFault). Makes earns before
      (BestCalls by round line (best_judgement turn by.company) turn met) after) (sym is)
      (subst (λ (its : Option RunRule). Makes earns before (BestCalls by round line its turn (Err Memory)) after)
      (sym none ∙ judged)
      (joined earns (Asks by.company round) (Unasked Memory (IsCredited by turn line)) turn.game.events revenue
      (Err Memory) before after after asked_it
      ([], (refl, refl), refl)))
