-- Nothing is worth anything.
use Rattle.std.proofs.Common.{ℕ, ◌<◌, ◌≤◌, subst, sym}
use Rattle.best_run.proofs.Beyond.{worth_nothing}
use Rattle.best_run.proofs.lookahead.Outlook.nothing.Goals as goal

pub returns-clause-known : goal.returns-clause-known
returns-clause-known c nodes =
    worth_nothing nodes 744 c.nothing.result (subst (λ (n : ℕ). 0 < n) (sym c.nothing.ensures.levels)
    c.requires.levels) (subst (λ (n : ℕ). n ≤ 9) (sym c.nothing.ensures.levels) c.requires.few)
    c.nothing.ensures.beyond c.nothing.ensures.first c.nothing.ensures.second
