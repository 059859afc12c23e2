-- Down the nodes at which no run is begun, each split but the last.
use Rattle.std.proofs.Common.{◌≡◌, ◌<◌, ℕ, ◌+◌, ◌-◌, false, [], ◌∷◌, length, ap, ◌∙◌, subst, arith}
use Rattle.certificate.specs.Walked.{capped}
use Rattle.certificate.specs.Walking.{LeavesOver, earned_from, node_from, set_outs, trains_of_tree}
use Rattle.certificate.specs.declared.decider.Decision.TheVariants.{Cut, Split, Stop as End}
use Rattle.certificate.proofs.Going.{down_cut, down_end, down_first, down_next, leaf_cut, leaf_end, leaf_split}
use Rattle.certificate.proofs.tree_walk.descend.Goals as goal

pub loop-place-init : goal.loop-place-init
loop-place-init g c = λ position assigned at_node low. down_first g.D.Decider.decides position c.args.tree.now
    c.args.value assigned at_node c.args.decider.now c.args.first

amount : (value bound later sum : ℕ) → later ≡ capped sum → bound ≡ capped (value + later)
    → bound ≡ capped (value + capped sum)
amount value bound later sum is also = also ∙ ap (λ (n : ℕ). capped (value + n)) is

pub returns-in-Cut : goal.returns-in-Cut
returns-in-Cut g c = λ position assigned at_node low.
    let tree = c.args.tree.now in
    let before : c.loop-place.place < length (trains_of_tree tree) =
    omega (arith, c.loop-place-test.true, at_node.tree_is.count) in
    let is = amount c.args.value c.saturating_add-bound.result c.may_earn_from.result
    (earned_from tree.groups c.loop-place.place) c.may_earn_from.ensures c.saturating_add-bound.ensures in (
      c.loop-place.auto.place,
      omega arith,
      down_cut g.D.Decider.decides position tree c.args.value assigned at_node c.args.decider.now c.loop-place.decider
          c.decide.new.self c.args.first c.loop-place.place before
          (c.loop-place.invariant position assigned at_node low)
          (subst (λ (n : ℕ). g.D.Decider.decides c.loop-place.decider n false Cut c.decide.new.self) is
          c.in-Cut.ensures),
    )

pub returns-in-Stop : goal.returns-in-Stop
returns-in-Stop g c = λ position assigned at_node low.
    let tree = c.args.tree.now in
    let before : c.loop-place.place < length (trains_of_tree tree) =
    omega (arith, c.loop-place-test.true, at_node.tree_is.count) in
    let is = amount c.args.value c.saturating_add-bound.result c.may_earn_from.result
    (earned_from tree.groups c.loop-place.place) c.may_earn_from.ensures c.saturating_add-bound.ensures in
    down_end g.D.Decider.decides position tree c.args.value assigned at_node c.args.decider.now c.loop-place.decider
    c.decide.new.self c.args.first c.loop-place.place before
    (c.loop-place.invariant position assigned at_node low)
    (subst (λ (n : ℕ). g.D.Decider.decides c.loop-place.decider n false End c.decide.new.self) is c.in-Stop.ensures)

pub loop-place-preserved : goal.loop-place-preserved
loop-place-preserved g c = λ position assigned at_node low.
    let tree = c.args.tree.now in
    let before : c.loop-place.place < length (trains_of_tree tree) =
    omega (arith, c.loop-place-test.true, at_node.tree_is.count) in
    let is = amount c.args.value c.saturating_add-bound.result c.may_earn_from.result
    (earned_from tree.groups c.loop-place.place) c.may_earn_from.ensures c.saturating_add-bound.ensures in
    down_next g.D.Decider.decides position tree c.args.value assigned at_node c.args.decider.now c.loop-place.decider
    c.decide.new.self c.args.first c.loop-place.place c.loop-place.auto.place before
    (c.loop-place.invariant position assigned at_node low)
    (subst (λ (n : ℕ). g.D.Decider.decides c.loop-place.decider n false Split c.decide.new.self) is c.in-Split.ensures)

pub returns-in-Cut-decide : goal.returns-in-Cut-decide
returns-in-Cut-decide g c = λ position assigned at_node low.
    let tree = c.args.tree.now in
    let last : c.loop-place.place ≡ tree.count = omega
    (arith, c.loop-place-test.false, c.loop-place.auto.place-end, at_node.tree_is.count) in (
      omega (arith, at_node.tree_is.count),
      omega (arith, at_node.tree_is.count),
      leaf_cut g.D.Decider.decides position tree c.args.value assigned at_node c.args.decider.now c.loop-place.decider
          c.decide-2.new.self c.args.first tree.count (omega (arith, at_node.tree_is.count))
          (subst (λ (n : ℕ). LeavesOver g.D.Decider.decides position tree c.args.decider.now
          (node_from tree assigned c.args.first ∷ []) c.loop-place.decider
          (node_from tree assigned n ∷ set_outs position tree assigned c.args.first (n - c.args.first))) last
          (c.loop-place.invariant position assigned at_node low))
          c.in-Cut-decide.ensures,
    )

pub returns-in-Split-decide : goal.returns-in-Split-decide
returns-in-Split-decide g c = λ position assigned at_node low.
    let tree = c.args.tree.now in
    let last : c.loop-place.place ≡ tree.count = omega
    (arith, c.loop-place-test.false, c.loop-place.auto.place-end, at_node.tree_is.count) in (
      omega (arith, at_node.tree_is.count),
      omega (arith, at_node.tree_is.count),
      leaf_split g.D.Decider.decides position tree c.args.value assigned at_node c.args.decider.now c.loop-place.decider
          c.decide-2.new.self c.args.first tree.count (omega (arith, at_node.tree_is.count))
          (subst (λ (n : ℕ). LeavesOver g.D.Decider.decides position tree c.args.decider.now
          (node_from tree assigned c.args.first ∷ []) c.loop-place.decider
          (node_from tree assigned n ∷ set_outs position tree assigned c.args.first (n - c.args.first))) last
          (c.loop-place.invariant position assigned at_node low))
          c.in-Split-decide.ensures,
    )

pub returns-in-Stop-decide : goal.returns-in-Stop-decide
returns-in-Stop-decide g c = λ position assigned at_node low.
    let tree = c.args.tree.now in
    let last : c.loop-place.place ≡ tree.count = omega
    (arith, c.loop-place-test.false, c.loop-place.auto.place-end, at_node.tree_is.count) in
    leaf_end g.D.Decider.decides position tree c.args.value assigned at_node c.args.decider.now c.loop-place.decider
    c.decide-2.new.self c.args.first tree.count (omega (arith, at_node.tree_is.count))
    (subst (λ (n : ℕ). LeavesOver g.D.Decider.decides position tree c.args.decider.now
    (node_from tree assigned c.args.first ∷ []) c.loop-place.decider
    (node_from tree assigned n ∷ set_outs position tree assigned c.args.first (n - c.args.first))) last
    (c.loop-place.invariant position assigned at_node low))
    c.in-Stop-decide.ensures
