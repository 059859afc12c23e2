-- Nothing lay ahead at first.
use Rattle.std.proofs.Common.{Bool, List, replicate, false, subst, sym}
use Rattle.best_run.specs.Ahead.{IsClosed, WidensBack}
use Rattle.best_run.proofs.Ahead.{closed_back, closed_none}
use Rattle.best_run.proofs.Lasting.{has_plain}
use Rattle.best_run.proofs.ways_on.look_home.Goals as goal

pub look_back-requires-clause-known : goal.look_back-requires-clause-known
look_back-requires-clause-known c =
    rw c.requires.nothing (has_plain c.args.task.now c.args.assigned.now c.args.run.now (replicate 744 false)
    c.args.home.now.worth (c.requires.known c.args.task.now.spots.items))

pub returns-then-not-run : goal.returns-then-not-run
returns-then-not-run c =
    record {
      closed = closed_back c.args.task.now c.args.assigned.now c.args.run.now _
          (subst (λ (ms : List Bool). WidensBack c.args.task.now c.args.assigned.now c.args.run.now ms
          c.look_back.new.outlook.ahead) c.requires.nothing c.look_back.ensures.widens);
      known = c.look_back.ensures.known;
      borders = c.marks_all_borders.ensures;
      spots = c.is_whole.ensures;
    }

pub returns-else-not-run : goal.returns-else-not-run
returns-else-not-run c =
    record {
      closed = subst (λ (ms : List Bool). IsClosed c.args.task.now c.args.assigned.now c.args.run.now ms)
          (sym c.requires.nothing)
          (closed_none c.args.task.now c.args.assigned.now c.args.run.now c.if-not-run.false);
      known = rw c.requires.nothing (has_plain c.args.task.now c.args.assigned.now c.args.run.now (replicate 744 false)
          c.args.home.now.worth (c.requires.known c.args.task.now.spots.items));
      borders = c.marks_all_borders.ensures;
      spots = c.is_whole.ensures;
    }
