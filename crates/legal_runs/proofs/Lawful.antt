-- What places name is a legal run exactly if they break no rule.
use Rattle.std.specs.Prelude.{unwrap_or}
use Rattle.std.proofs.Common.{◌≡◌, ◌↔◌, ℕ, true, false, not, cond, Option, Some, None, is_none, List, [], ◌∷◌}
use Rattle.std.proofs.Common.{length, refl, ap, ◌∙◌}
use Rattle.std.proofs.lemmas.Bool.{not-false}
use Rattle.std.specs.List.{list_any}
use Rattle.map_tables.specs.declared.place.Place.{Place}
use Rattle.map_tables.specs.declared.place.Stop.{Stop}
use Rattle.reach.specs.Position.{Position, HasToken, IsFull, is_red}
use Rattle.reach.specs.declared.walk.WalkStep.{WalkStep}
use Rattle.tables.proofs.Rules.{not_broken}
use Rattle.tables.specs.Rules.{AreKept, Rule, first_broken}
use Rattle.tables.specs.declared.rolling_stock.Kind.{Kind}
use Rattle.tables.specs.declared.roster.Company.{Company}
use Rattle.legal_runs.specs.Fault.{has_token_at_stop, is_full, rules_of_walk, run_fault, tested_run_rule}
use Rattle.legal_runs.specs.Law.{LegalWhereNoRuleIsBroken, NameLegalRun}
use Rattle.legal_runs.specs.Legal.{IsLegalRun, crossed, visited}
use Rattle.legal_runs.specs.Named.{walk_named}
use Rattle.map_tables.specs.RuleCodes.{code_of_run_rule}
use Rattle.map_tables.specs.declared.rules.RunRule.{RunRule}
use Rattle.map_tables.specs.declared.rules.RunRule.TheVariants.{NoTrack, WrongNumber, StopTwice, BorderTwice}
use Rattle.map_tables.specs.declared.rules.RunRule.TheVariants.{PassesFull, NoToken, RedInside}
use Rattle.legal_runs.proofs.Joined.{stops_distinct, distinct_stops, borders_distinct, distinct_borders, passes_none}
use Rattle.legal_runs.proofs.Joined.{none_passes, has_such, such_has, number_is, is_number}
use Rattle.legal_runs.proofs.Named.{IsWhole, named_is_whole}
use Rattle.legal_runs.proofs.Tests.{has_token_is, is_full_is}

-- where each rule is kept, none is broken
none_found : (rules : List (Rule RunRule)) → AreKept rules → first_broken rules ≡ None
none_found [] kept = refl
none_found (rule ∷ rules) kept =
    ap (λ b. cond b (Some rule.code) (first_broken rules)) kept.0 ∙ none_found rules kept.1

red_is_red : (position : Position) (stop : Stop) → (is_red position stop ≡ true) ↔ (is_red position stop ≡ true)
red_is_red position stop = (λ h. h, λ h. h)

module _ (position : Position) (company : Company) (kind : Kind) (used : List ℕ) where
  -- a walk from a stop to a stop that breaks no rule is a legal run
  legal : (steps : List WalkStep) → IsWhole position steps
      → first_broken (rules_of_walk position company kind used steps) ≡ None
      → IsLegalRun position company kind used steps
  legal [] whole h = cc
  legal (step ∷ before) whole h =
      let steps : List WalkStep = step ∷ before in
      let kept = not_broken code_of_run_rule (rules_of_walk position company kind used steps) h in
      let number = number_is kind (length (visited steps)) (kept WrongNumber) in
      let borders = borders_distinct used (crossed steps) (kept BorderTwice) in
      record {
        walk = whole.walk;
        begins = whole.begins;
        ends = whole.ends;
        two = number.0;
        most = number.1;
        no_stop_twice = stops_distinct (visited steps) (kept StopTwice);
        own_token = has_such (λ stop. HasToken position stop company) (has_token_at_stop position company)
            (has_token_is position company) (visited steps)
            (not-false (list_any (has_token_at_stop position company) (visited steps)) (kept NoToken));
        no_border_twice = borders.0;
        no_used_border = borders.1;
        no_red_inside = passes_none (λ stop. is_red position stop ≡ true) (is_red position) (red_is_red position)
            steps (kept RedInside);
        no_full_inside = passes_none (λ stop. IsFull position stop company) (is_full position company)
            (is_full_is position company) steps (kept PassesFull);
      }

  -- a legal run breaks no rule
  unbroken : (steps : List WalkStep) → IsLegalRun position company kind used steps
      → first_broken (rules_of_walk position company kind used steps) ≡ None
  unbroken steps run =
      none_found (rules_of_walk position company kind used steps) (
        is_number kind (length (visited steps)) run.two run.most,
        (
          distinct_stops (visited steps) run.no_stop_twice,
          (
            distinct_borders used (crossed steps) run.no_border_twice run.no_used_border,
            (
              none_passes (λ stop. IsFull position stop company) (is_full position company) (is_full_is position company)
                  steps run.no_full_inside,
              (
                ap not (such_has (λ stop. HasToken position stop company) (has_token_at_stop position company)
                    (has_token_is position company) (visited steps) run.own_token),
                (
                  none_passes (λ stop. is_red position stop ≡ true) (is_red position) (red_is_red position) steps
                      run.no_red_inside,
                  tt,
                ),
              ),
            ),
          ),
        ),
      )

  by_walk : (places : List Place) (walk : Option (List WalkStep)) → walk_named position places ≡ walk
      → first_broken (tested_run_rule NoTrack (is_none walk) ∷ rules_of_walk position company kind used (unwrap_or walk [])) ≡ None
      → NameLegalRun position company kind used places
  by_walk places None is h = cc
  by_walk places (Some steps) is h = (steps, is, legal steps (named_is_whole position places steps is) h)

  by_run : (walk : Option (List WalkStep)) (steps : List WalkStep) → walk ≡ Some steps
      → IsLegalRun position company kind used steps → first_broken
      (tested_run_rule NoTrack (is_none walk) ∷ rules_of_walk position company kind used (unwrap_or walk [])) ≡ None
  by_run walk steps is run =
      ap (λ w. first_broken (tested_run_rule NoTrack (is_none w) ∷ rules_of_walk position company kind used (unwrap_or w []))) is
      ∙ unbroken steps run

-- what places name is a legal run exactly if they break no rule
pub legal_where_unbroken : LegalWhereNoRuleIsBroken
legal_where_unbroken position company kind used places = (
  λ h. by_walk position company kind used places (walk_named position places) refl h,
  λ run. by_run position company kind used (walk_named position places) run.0 run.1 run.2,
)

-- what breaks a rule is no legal run
pub none_where_broken : (position : Position) (company : Company) (kind : Kind) (used : List ℕ) (places : List Place)
    (fault : RunRule) → run_fault position company kind used places ≡ Some fault
    → NameLegalRun position company kind used places → false ≡ true
none_where_broken position company kind used places fault broken run =
    let kept : run_fault position company kind used places ≡ None =
    (legal_where_unbroken position company kind used places).1 run in
    cc
