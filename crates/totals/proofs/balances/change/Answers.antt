use Rattle.std.proofs.Common.{subst, sym, ◌∙◌}
use Rattle.std.specs.Int.{w128}
use Rattle.std.proofs.lemmas.Int.{to_z-of_z}
use Rattle.totals.proofs.BalanceTables.{balance_kept, entry_changed, sum_kept}
use Rattle.totals.specs.Totals.{IsSafe, balance_at}
use Rattle.totals.proofs.balances.change.Goals as goal

pub returns-then-at-balances-clause-changed : goal.returns-then-at-balances-clause-changed
returns-then-at-balances-clause-changed c = λ entry low safe.
    entry_changed c.args.balances.now c.args.at entry c.args.change _ c.if-at-balances.true (λ at_safe.
    let balance = balance_at c.args.balances.now c.args.at in
    let there = subst IsSafe (sym (balance_kept balance at_safe)) at_safe in
    to_z-of_z w128 c.changed.result (record { sfits = c.changed.type_inv })
    ∙ (c.changed.ensures there ∙ sum_kept balance c.args.change at_safe c.requires.not_under c.requires.not_over)) safe
