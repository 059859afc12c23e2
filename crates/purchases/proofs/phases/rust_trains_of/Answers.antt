use Rattle.std.proofs.Common.{ap, refl, subst, ◌∙◌, ◌<◌}
use Rattle.totals.specs.Trains.{at_least_zero}
use Rattle.purchases.proofs.Folding.{iterate_goes_on}
use Rattle.purchases.proofs.PhaseLemmas.{counted_whole, none_rusted, one_rusts}
use Rattle.purchases.specs.Phases.{with_one_rusted}
use Rattle.purchases.proofs.phases.rust_trains_of.Goals as goal

pub loop-init : goal.loop-init
loop-init c = record { so_far = refl; rusted = none_rusted c.args.owner c.args.kind c.args.history.now c.requires }

pub loop-preserved : goal.loop-preserved
loop-preserved c =
    let many = c.at_least_zero-end.ensures ∙ ap at_least_zero (counted_whole c.trains.result c.from.result
    (record { sfits = c.trains.type_inv }) (record { sfits = c.from.type_inv }) c.from.ensures
    ∙ c.trains.ensures) in
    record {
      so_far = iterate_goes_on (with_one_rusted c.args.owner c.args.kind) c.args.history.now c.loop.history
          c.append.new.self c.loop.counter c.loop.invariant.so_far c.in_ok-append.ensures.ok;
      rusted = one_rusts c.args.owner c.args.kind c.loop.counter c.args.history.now c.loop.history c.append.new.self
          (subst (λ end. c.loop.counter < end) many c.loop-test.true) c.in_ok-append.ensures.ok c.loop.invariant.rusted;
    }
