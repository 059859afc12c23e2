-- What has been explored from the start is the greatest, and the runs that the path gives earn it.
use Rattle.std.proofs.Common.{◌≡◌, List, [], arith}
use Rattle.legal_runs.specs.Set.{IsGreatest, TrainRun}
use Rattle.legal_runs.proofs.Greatest.{a_greatest_exists, one_greatest}
use Rattle.search_task.specs.Described.{Describes}
use Rattle.best_run.specs.MovePath.{marks_in, runs_of_marks}
use Rattle.best_run.proofs.Greatest.{MarksEarn, can_claim, greatest_found, marks_earn, names_them}
use Rattle.best_run.proofs.revenue.find.Goals as goal

pub returns : goal.returns
returns g c =
    let position = g.N.Network.position c.args.network.now in
    let company = c.args.company in
    let kinds = c.args.kinds.now in
    let task = c.in_ok-task.task in
    let found = c.in_ok-found.found in
    let lawful = c.keeps_laws.ensures in
    let laid : Describes position company kinds task = c.in_ok-task.ensures in
    let tells : MarksEarn position company lawful kinds task laid (marks_in found.move_path) found.amount =
    marks_earn position company lawful kinds task laid (marks_in found.move_path) found.amount
    c.in_ok-found.ensures.earns in
    let runs : List TrainRun = runs_of_marks kinds [] (marks_in found.move_path) in
    let greatest : IsGreatest position company kinds found.amount =
    greatest_found position company lawful kinds task laid found c.in_ok-found.ensures in
    let some = a_greatest_exists position company kinds lawful in
    let same : found.amount ≡ some.0 = one_greatest position company kinds found.amount some.0 greatest some.1 in
    record {
      written_out = can_claim position company lawful runs tells.set.legal;
      names = names_them position company lawful runs tells.set.legal;
      set = tells.set;
      earns = tells.earns;
      greatest = greatest;
      small = omega (arith, same, some.2);
    }
