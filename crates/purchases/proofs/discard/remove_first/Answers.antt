use Rattle.std.proofs.Common.{◌∙◌, ap, arith, sym}
use Rattle.purchases.proofs.DiscardLemmas.{first_goes, first_later, none_goes}
use Rattle.purchases.specs.Discard.{without_first}
use Rattle.purchases.proofs.discard.remove_first.Goals as goal

pub returns-then-same_kind : goal.returns-then-same_kind
returns-then-same_kind c =
    c.remove.ensures.items
    ∙ first_goes c.args.kind c.index.result.now c.loop-place.lines.items c.loop-place.place (omega arith)
    c.index.ensures (sym c.same_kind.ensures ∙ c.if-same_kind.true) c.loop-place.invariant.kept
    ∙ ap (without_first c.args.kind) c.loop-place.invariant.same

pub loop-place-preserved : goal.loop-place-preserved
loop-place-preserved c =
    record {
      same = c.loop-place.invariant.same;
      kept = first_later c.args.kind c.index.result.now c.loop-place.lines.items c.loop-place.place (omega arith)
          c.index.ensures (sym c.same_kind.ensures ∙ c.if-same_kind.false) c.loop-place.invariant.kept;
    }

pub returns : goal.returns
returns c =
    none_goes c.args.kind c.loop-place.lines.items c.loop-place.place (omega arith) c.loop-place.invariant.kept
    ∙ ap (without_first c.args.kind) c.loop-place.invariant.same
