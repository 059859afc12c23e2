use Rattle.std.proofs.Common.{◌∙◌, sym}
use Rattle.purchases.proofs.DiscardLemmas.{held_later}
use Rattle.purchases.proofs.discard.first_held.Goals as goal
use Rattle.tables.specs.declared.rolling_stock.Kind.TheVariants.{Two}

pub loop-kind-preserved : goal.loop-kind-preserved
loop-kind-preserved c =
    c.loop-kind.invariant
    ∙ held_later c.args.view.now.events c.args.company c.args.kinds.now c.loop-kind.kind-index Two
    c.loop-kind-test.true (sym c.has_train.ensures ∙ c.if-has_train.false)
