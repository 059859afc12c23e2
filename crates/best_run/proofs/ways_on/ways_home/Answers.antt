-- The ways home are in vain where the run can earn too little by what lies ahead there.
use Rattle.std.proofs.Common.{◌≡◌, List, Bool, true, false, replicate, subst, sym, get_or}
use Rattle.best_run.specs.Ahead.{LiesAhead}
use Rattle.best_run.specs.WaysOn.{GoesInVain}
use Rattle.best_run.proofs.Vain.{found_none, goes_by}
use Rattle.reach.proofs.Collected.{none_marked}
use Rattle.search_task.proofs.Booleans.{not_both}
use Rattle.best_run.proofs.ways_on.ways_home.Goals as goal

pub returns-then-earns_too_little : goal.returns-then-earns_too_little
returns-then-earns_too_little c =
    let task = c.args.bounded.now.task.now in
    let assigned = c.args.assigned.now in
    let run = c.args.run.now in
    let low = c.earns_too_little.ensures c.if-earns_too_little.true in
    found_none task c.is_ready.ensures.fit c.is_ready.ensures.ready assigned run c.args.best c.requires.may.at_stop c.requires.may.begun
    c.requires.home.borders c.requires.home.spots c.args.home.now.ahead _ c.copy.ensures
    (record {
      go = subst (λ (ms : List Bool). GoesInVain task assigned run ms c.args.best) (sym c.copy-ways.ensures)
          (goes_by task c.is_ready.ensures.fit c.is_ready.ensures.ready assigned run c.args.best c.requires.may.at_stop c.requires.may.begun
          c.requires.home.borders c.requires.home.spots c.args.home.now.ahead c.requires.home.closed low);
      turn = c.turns_in_vain-turns_in_vain.ensures;
    })
    (λ all. (c.copy-ways.ensures, (all, low)))

pub returns-else-earns_too_little : goal.returns-else-earns_too_little
returns-else-earns_too_little c =
    found_none c.args.bounded.now.task.now c.is_ready.ensures.fit c.is_ready.ensures.ready c.args.assigned.now c.args.run.now c.args.best
    c.requires.may.at_stop c.requires.may.begun c.requires.home.borders c.requires.home.spots c.args.home.now.ahead _ c.copy.ensures
    (record {
      go = λ passing place leg at lies taken. absurd
          (not_both (get_or (replicate 744 false) leg.segment.to false)
          (subst (λ (ms : List Bool). LiesAhead ms leg.segment.to) c.none.ensures lies)
          (none_marked 744 leg.segment.to));
      turn = c.turns_in_vain-turns_in_vain.ensures;
    })
    (λ wrong. let no : false ≡ true = wrong in cc)
