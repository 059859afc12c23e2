use Rattle.std.proofs.Common.{ap, sym, ◌∙◌}
use Rattle.order_grammar.specs.declared.order.Order.TheVariants.{Play}
use Rattle.order_grammar.specs.declared.play.PlayOrder.{PlayOrder}
use Rattle.desk_base.specs.Belongings.{objection_by_view}
use Rattle.desk_base.proofs.belongings.objection_to_play.Goals as goal

pub returns-in-Discard : goal.returns-in-Discard
returns-in-Discard c =
    c.objection_to_discard.ensures
    ∙ ap (λ (order : PlayOrder). objection_by_view c.args.view.now.events c.args.seat (Play order)) (sym c.in-Discard.is)
