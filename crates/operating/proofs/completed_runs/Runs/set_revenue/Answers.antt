use Rattle.std.proofs.Common.{arith}
use Rattle.operating.proofs.completed_runs.Runs.set_revenue.Goals as goal
use Rattle.legal_runs.proofs.Earning.{few_unused}

pub invariant_of-self : goal.invariant_of-self
invariant_of-self c =
    record {
      kinds = c.self.invariant.kinds;
      marks = c.self.invariant.marks;
      bounded = omega (arith, few_unused c.self.inside.borders, c.self.invariant.marks, c.requires);
    }
