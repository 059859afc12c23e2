use Rattle.std.proofs.Common.{◌≡◌, List, [], take}
use Rattle.std.specs.List.{fold}
use Rattle.page_routes.specs.LastRuns.{AddsEach, RanSoFar, none_ran, ran_then}
use Rattle.page_routes.specs.declared.routes.RunLine.{RunLine}
use Rattle.page_routes.proofs.routes.routes_along.Given as goal

-- these are the lines by which companies ran by the events so far, and the runs by each are added
abbrev pub invariant-loop-passed : goal.invariant-loop-passed
invariant-loop-passed l = record {
  lines : List RunLine;
  so_far : ◌≡◌ {A = RanSoFar} (record { within = l.within; passed = l.passed; ruled = l.ruled; lines = lines })
      (fold (ran_then l.round) none_ran (take l.passed l.events));
  added : AddsEach l.events lines [] l.routes.items;
  same : l.walk.events.now ≡ l.events;
}
