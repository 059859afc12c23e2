-- Each of the equal trains earns at most the cap, the others what they earn by themselves.
use Rattle.std.proofs.Common.{◌+◌, ◌-◌, slice_index_or, arith}
use Rattle.std.proofs.lemmas.Bool.{leb-true}
use Rattle.std.proofs.lemmas.Option.{slice_get-get_or}
use Rattle.best_run.proofs.search.are_pruned_by_cap.Goals as goal

pub returns : goal.returns
returns c holds =
    let left = c.train_count.result - c.args.next - c.equals-equal.result in
    record {
      some = omega arith;
      equal = c.equals-equal.result;
      bound = slice_index_or c.args.bounded.now.bounds.now left 0;
      are_equal = c.equals-equal.ensures.equal;
      rest = c.args.bounded.now.are_bounds left (slice_index_or c.args.bounded.now.bounds.now left 0) (c.args.next + c.equals-equal.result)
          (slice_get-get_or c.args.bounded.now.bounds.now left 0 c.if-left-bounds.false)
          (omega (arith, c.train_count.ensures, c.equals-equal.ensures.within));
      short = omega (arith, leb-true _ _ holds);
    }
