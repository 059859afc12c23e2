use Rattle.std.proofs.Common.{ap, sym, ◌∙◌}
use Rattle.desk_base.specs.Belongings.{objection_to_source}
use Rattle.desk_base.proofs.belongings.objection_to_source.Goals as goal

pub returns-in-Company : goal.returns-in-Company
returns-in-Company c =
    c.objection_to_train.ensures
    ∙ ap (objection_to_source c.args.view.now.events c.args.kind) (sym c.in-Company.is)
