use Rattle.std.proofs.Common.{List, MatchOption, subst, ℕ}
use Rattle.desk_base.specs.Reason.{HasItsCode, NoneHasCode}
use Rattle.desk_base.proofs.explaining.explain.Goals as goal

-- the word that is looked for is trimmed
pub returns : goal.returns
returns c =
    subst (λ (word : List ℕ). MatchOption c.with_code.result (NoneHasCode word) (HasItsCode word)) c.trim.ensures.trim
    c.with_code.ensures
