use Rattle.std.proofs.Common.{ap, sym, ◌∙◌}
use Rattle.desk_base.specs.Belongings.{objection_to_offer}
use Rattle.desk_base.proofs.belongings.objection_to_offer.Goals as goal

pub returns-in-Train : goal.returns-in-Train
returns-in-Train c =
    c.objection_to_seller.ensures
    ∙ ap (objection_to_offer c.args.view.now.events c.args.seat) (sym c.in-Train.is)
