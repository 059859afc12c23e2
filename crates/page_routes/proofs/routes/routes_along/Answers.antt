use Rattle.std.proofs.Common.{[], ◌++◌, ◌∙◌, refl, arith}
use Rattle.std.specs.List.{cons_option}
use Rattle.page_routes.proofs.RunSteps.{adds_all, adds_here, adds_more, ran_step, within_list}
use Rattle.page_routes.proofs.routes.routes_along.Goals as goal

pub loop-passed-init : goal.loop-passed-init
loop-passed-init c =
    record {
      lines = [];
      so_far = refl;
      added = c.new-routes.ensures.items;
      same = c.requires;
    }

pub add_if_ran-requires : goal.add_if_ran-requires
add_if_ran-requires c =
    within_list c.ran_by-line.result c.loop-passed.passed _ _ c.ran_by-line.ensures.here c.loop-passed-test.true
    c.loop-passed.invariant.same

pub loop-passed-preserved : goal.loop-passed-preserved
loop-passed-preserved c =
    let before = c.loop-passed.invariant in
    record {
      lines = before.lines ++ cons_option c.ran_by-line.result [];
      so_far = ran_step c.args.round c.args.events.now c.loop-passed.passed c.index-events-passed.result
          c.loop-passed.within _ c.loop-passed.ruled _ before.lines c.ran_by-line.result c.loop-passed-test.true
          c.index-events-passed.is before.so_far
          c.ran_by-line.ensures.line c.within_then-within.ensures c.ruled_then-ruled.ensures;
      added = adds_more c.args.events.now before.lines c.ran_by-line.result _ _ _ before.added
          (adds_here c.loop-passed.walk.events.now c.args.events.now c.ran_by-line.result c.loop-passed.routes.items _
          before.same c.in_ok-add_if_ran.ensures.added);
      same = c.in_ok-add_if_ran.ensures.events ∙ before.same;
    }

pub returns : goal.returns
returns c =
    let before = c.loop-passed.invariant in
    adds_all c.args.round c.args.events.now c.loop-passed.passed c.loop-passed.within c.loop-passed.ruled before.lines
    [] _ (omega arith) before.so_far before.added
