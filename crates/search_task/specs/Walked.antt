-- Steps, one after another.
use Rattle.std.specs.Prelude.{List}
use Rattle.reach.specs.declared.walk.WalkStep.{WalkStep}

pub record Walked : Type 0 where
  pub items : List WalkStep
