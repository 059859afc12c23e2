-- What is at the places is what was there before, or the state that is kept.
use Rattle.std.proofs.Common.{◌<◌, ◌≤◌, length}
use Rattle.best_run.specs.Memo.{IsKept}
use Rattle.best_run.proofs.memo.Found.widen.Given as goal

abbrev pub invariant-loop-place : goal.invariant-loop-place
invariant-loop-place l = record {
  kept : IsKept l.search_state l.fn.self l.self;
  long : l.places ≤ length l.self.memo.items;
  some : 0 < length l.self.memo.items;
}
