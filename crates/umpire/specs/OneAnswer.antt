-- For one input there is one result and one text.
use Rattle.std.specs.Prelude.{◌≡◌, ℕ, List, Result}
use Rattle.umpire.specs.Verify.{AnswersInput}
use Rattle.umpire.specs.declared.fault.Fault.{Fault}

-- one input has no two results, and no two texts
abbrev pub OneAnswer : Type 0
OneAnswer = (input : List ℕ) (a b : Result (Unit {0}) Fault) (some other : List ℕ) → AnswersInput input a some →
    AnswersInput input b other → (a ≡ b) × (some ≡ other)
