-- The group in hand comes before those that are left.
use Rattle.std.proofs.Common.{arith}
use Rattle.certificate.specs.Walking.{earned_from}
use Rattle.certificate.proofs.Walking.{sum_end, sum_more, sum_start}
use Rattle.certificate.proofs.tree.Tree.may_earn_from.Goals as goal

pub loop-group-init : goal.loop-group-init
loop-group-init c = (sum_start c.args.self.now.groups _ c.args.place c.groups-group-items.ensures, omega arith)

pub loop-group-preserved : goal.loop-group-preserved
loop-group-preserved c = (
  sum_more c.groups-group-items.result.now c.loop-group.group-index _ c.loop-group.sum c.loop-group.before _ _ _ _
      (earned_from c.args.self.now.groups c.args.place) c.loop-group-test.true
      c.loop-group.invariant.0 c.saturating_sub-count.ensures c.saturating_mul.ensures c.saturating_add-sum.ensures
      c.saturating_sub-before.ensures,
  omega (arith, c.saturating_add-sum.ensures),
)

pub returns : goal.returns
returns c = sum_end c.groups-group-items.result.now c.loop-group.group-index c.loop-group.sum c.loop-group.before
    (earned_from c.args.self.now.groups c.args.place) c.loop-group-test.false c.loop-group.invariant.1
    c.loop-group.invariant.0
