-- Cash, shares and privates are summed up as they are.
use Rattle.std.proofs.Common.{ℕ, ◌+◌, ℤ, pos, ◌+ℤ◌, ap, ◌∙◌}
use mir.Syntax.{w128}
use mir.Val.{of_z, to_z}
use Rattle.events.specs.Event.{party_at}
use Rattle.totals.specs.LookBack.{cash_of}
use Rattle.report.proofs.Worths.{wealth_fits}
use Rattle.report.specs.EndWorth.{worth_of_all_shares}
use Rattle.report.proofs.end_worth.player_worth.Goals as goal

pub returns : goal.returns
returns c =
    let view = c.args.view.now in
    let shares : ℕ = c.shares_worth.result in
    let privates : ℕ = c.privates_worth.result in
    let cash : ℤ = cash_of view.seats view.events (party_at c.args.seat) in
    ap (λ (n : ℕ). to_z w128 (of_z w128 (to_z w128 (of_z w128 c.cash.result) +ℤ to_z w128 (shares + n)))) c.from.ensures
    ∙ wealth_fits c.cash.result shares privates c.cash.ensures.within c.shares_worth.ensures.small
    c.privates_worth.ensures.small
    ∙ ap (λ (z : ℤ). z +ℤ pos (shares + privates))
    (c.cash.ensures.sum ∙ ap (cash_of view.seats view.events) c.of_seat.ensures)
    ∙ ap (λ (n : ℕ). cash +ℤ pos (n + privates)) c.shares_worth.ensures.sum
    ∙ ap (λ (n : ℕ). cash +ℤ pos (worth_of_all_shares view.events c.args.seat + n)) c.privates_worth.ensures.sum
