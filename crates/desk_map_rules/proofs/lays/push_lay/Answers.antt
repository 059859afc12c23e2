use Rattle.std.proofs.Common.{Err, subst}
use Rattle.board.specs.LayRules.{IsLayAnswer, IsLayOutcome}
use Rattle.board.specs.declared.fault.LayFault.{LayFault}
use Rattle.moves.proofs.ListedLemmas.{lists_refused}
use Rattle.desk_map_rules.proofs.lays.push_lay.Goals as goal

pub returns-in-Err-Rule : goal.returns-in-Err-Rule
returns-in-Err-Rule c =
    lists_refused (IsLayAnswer c.args.board.now c.args.asker.now) c.args.lay c.in-Err-Rule.field-0-0 _
    (subst (λ (fault : LayFault). IsLayOutcome c.args.board.now c.args.asker.now c.args.lay (Err fault))
    c.in-Err-Rule.field-0-is c.in-Err-Rule.ensures)
