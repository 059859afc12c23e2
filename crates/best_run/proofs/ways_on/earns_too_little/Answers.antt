-- The level that was chosen bounds what the run earns.
use Rattle.std.proofs.Common.{◌+◌, ◌-◌, inl, inr, slice_index_or, arith}
use Rattle.std.proofs.lemmas.Option.{slice_get-get_or}
use Rattle.best_run.specs.Suffix.{EarnAtMost}
use Rattle.best_run.proofs.ways_on.earns_too_little.Goals as goal

pub returns-then-bounded-later : goal.returns-then-bounded-later
returns-then-bounded-later c holds =
    let task = c.args.bounded.now.task.now in
    let assigned = c.args.assigned.now in
    let later = c.train_count.result - assigned.next - 1 in
    let bound = slice_index_or c.args.bounded.now.bounds.now later 0 in
    let alone : EarnAtMost task (assigned.next + 1) bound =
    c.args.bounded.now.are_bounds later bound (assigned.next + 1)
    (slice_get-get_or c.args.bounded.now.bounds.now later 0 c.if-later-bounded.false)
    (omega (arith, c.train_count.ensures, c.requires.may.next)) in
    record {
      nodes = c.most_ahead.ensures.most.nodes;
      counts = c.most_ahead.ensures.most.counts;
      level = c.most_ahead.ensures.most.level;
      most = c.args.run.now.value + c.most_ahead.result;
      earns = omega (arith, c.most_ahead.ensures.most.low);
      short = inl (bound, alone, omega (arith, c.if-total-best.false, c.if-bounded-later.true));
    }

pub returns : goal.returns
returns c holds =
    record {
      nodes = c.most_ahead.ensures.most.nodes;
      counts = c.most_ahead.ensures.most.counts;
      level = c.most_ahead.ensures.most.level;
      most = c.args.run.now.value + c.most_ahead.result;
      earns = omega (arith, c.most_ahead.ensures.most.low);
      short = inr (c.are_pruned_by_cap.ensures holds);
    }
