-- The first rule that is broken comes before what is reached.
use Rattle.std.proofs.Common.{sym}
use Rattle.board.specs.LayRules.{map_rules}
use Rattle.map_tables.specs.RuleCodes.{code_of_lay_rule}
use Rattle.map_tables.specs.declared.rules.LayRule.TheVariants.{GreyOrRed}
use Rattle.tables.proofs.Rules.{not_broken}
use Rattle.board.proofs.Connected.{open_own}
use Rattle.board.proofs.LayAnswers.{broken_before}
use Rattle.board.proofs.board.Board.try_lay.Goals as goal

-- a hex on which a tile may lie is no part of another's stop
pub would_reach-reached-requires : goal.would_reach-reached-requires
would_reach-reached-requires c =
    open_own c.args.lay.hex (not_broken code_of_lay_rule (map_rules c.args.self.now c.args.asker.now c.args.lay)
    (sym c.in_default.ensures) GreyOrRed)

pub returns-in-Some : goal.returns-in-Some
returns-in-Some c =
    broken_before c.args.self.now c.args.asker.now c.args.lay c.in-Some.rule c.in-Some.ensures
