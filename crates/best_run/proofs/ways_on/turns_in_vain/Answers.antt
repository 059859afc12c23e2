-- The run as it turns back can earn too little.
use Rattle.std.proofs.Common.{subst}
use Rattle.best_run.specs.declared.state.PartialRun.{PartialRun}
use Rattle.best_run.specs.WaysOn.{IsLow}
use Rattle.best_run.proofs.Vain.{turns_by, worth_back}
use Rattle.search_task.proofs.Booleans.{not_both}
use Rattle.best_run.proofs.ways_on.turns_in_vain.Goals as goal

pub returns-then-run : goal.returns-then-run
returns-then-run c holds once = absurd (not_both c.args.run.now.turned c.if-run.true once)

pub earns_too_little-requires-clause-known : goal.earns_too_little-requires-clause-known
earns_too_little-requires-clause-known c =
    rw c.turned_back-back.ensures (worth_back c.args.bounded.now.task.now c.args.assigned.now c.args.run.now c.args.home.now.ahead
    c.args.home.now.worth c.requires.home.known)

pub returns : goal.returns
returns c holds =
    turns_by c.args.bounded.now.task.now c.is_ready.ensures.fit c.is_ready.ensures.ready c.args.assigned.now c.args.run.now c.args.best
    c.requires.may.begun c.requires.home.borders c.requires.home.spots c.args.home.now.ahead c.requires.home.closed
    (subst (λ (r : PartialRun). IsLow c.args.bounded.now.task.now c.args.assigned.now r c.args.home.now.ahead c.args.best)
    c.turned_back-back.ensures (c.earns_too_little.ensures holds))
