use Rattle.tables.proofs.RuleTextLemmas.{among_all}
use Rattle.tables.proofs.rule_table.rule_with_code.Goals as goal

pub returns : goal.returns
returns g c =
    among_all g.R.Printed.code_of c.args.code.now c.args.rows.now c.rule_among.result c.requires c.rule_among.ensures
