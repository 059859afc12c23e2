-- The outcome of a lay that breaks a rule.
use Rattle.std.proofs.Common.{◌≡◌, ◌∙◌, ap, sym, true, Some, None, Err}
use Rattle.board_state.specs.MapState.{MapState}
use Rattle.board.specs.LayRules.{IsLayAnswer, cost_or, map_rules, lay_cost_of, lay_reach_rules}
use Rattle.board.specs.declared.turn.Asker.{Asker}
use Rattle.board.proofs.RuleTables.{earlier}
use Rattle.map_tables.specs.declared.lay.Lay.{Lay}
use Rattle.map_tables.specs.declared.rules.LayRule.{LayRule}
use Rattle.tables.specs.Rules.{first_broken}

-- a rule that comes before what is reached
pub broken_before : (laid : MapState) (asker : Asker) (lay : Lay) (rule : LayRule)
    → Some rule ≡ first_broken (map_rules laid asker lay) → IsLayAnswer laid asker lay (Err rule)
broken_before laid asker lay rule e =
    record {
      reached = true;
      exact = λ none. absurd (let wrong : Some rule ≡ None = e ∙ none in let no : ⊥ = cc in no);
      given = sym (ap (cost_or (lay_cost_of laid.lays lay.hex))
          (earlier (map_rules laid asker lay) (lay_reach_rules laid asker lay true) rule (sym e)));
    }
