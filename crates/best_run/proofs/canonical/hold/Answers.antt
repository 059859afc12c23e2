-- The stop lay in reach before, or is added.
use Rattle.std.proofs.Common.{ℕ, Bool, false, List, ◌<◌, get_or, length, ap, sym, subst, arith, ◌∙◌}
use Rattle.best_run.specs.Canonical.{Holds}
use Rattle.best_run.specs.declared.state.PartialRun.{PartialRun}
use Rattle.best_run.proofs.Lasting.{has_plain, plain_has}
use Rattle.best_run.proofs.Likened.{holds_known, holds_more}
use Rattle.best_run.proofs.canonical.hold.Goals as goal

pub returns-then-not-has-clause-holds : goal.returns-then-not-has-clause-holds
returns-then-not-has-clause-holds c =
    let ahead = c.args.reach.now.ahead in
    let low : c.args.stop < length ahead = omega (arith, c.is_whole.ensures, c.index.ensures.value, c.index.ensures.bound) in
    subst (λ (ms : List Bool). Holds c.args.stop ahead ms) (sym c.count.ensures.marked)
    (holds_more c.args.stop ahead low)

pub returns-else-not-has-clause-holds : goal.returns-else-not-has-clause-holds
returns-else-not-has-clause-holds c = holds_known c.args.stop c.args.reach.now.ahead
    (ap (λ (n : ℕ). get_or c.args.reach.now.ahead n false) (sym c.index.ensures.value)
    ∙ (sym c.has.ensures ∙ c.if-not-has.false))

pub count-requires-clause-known : goal.count-requires-clause-known
count-requires-clause-known c =
    has_plain c.args.task.now c.args.assigned.now c.anywhere.result c.args.reach.now.ahead c.args.reach.now.worth
    c.requires

pub returns-then-not-has-clause-known : goal.returns-then-not-has-clause-known
returns-then-not-has-clause-known c =
    plain_has c.args.task.now c.args.assigned.now c.anywhere.result _ _
    (ap (λ (r : PartialRun). r.most) c.anywhere.ensures) c.count.ensures.known
