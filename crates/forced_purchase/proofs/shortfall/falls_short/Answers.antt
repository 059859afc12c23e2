-- Numbers of dollars are compared as they are.
use Rattle.std.proofs.Common.{ℤ, ap, ◌∙◌, SFits}
use Rattle.std.specs.Int.{w128}
use Rattle.std.specs.Int.Signed.{lt_z}
use Rattle.std.proofs.lemmas.Int.{to_z-of_z}
use Rattle.totals.specs.Bids.{free_cash_of}
use Rattle.forced_purchase.specs.Shortfall.{falls_short}
use Rattle.totals.specs.LookBack.{Game}
use Rattle.forced_purchase.proofs.shortfall.falls_short.Goals as goal

pub returns : goal.returns
unfolding falls_short
returns c =
    let free : SFits w128 c.free_cash.result = record { sfits = c.free_cash.type_inv } in
    let short : SFits w128 c.lack.result = record { sfits = c.lack.type_inv } in
    let game = c.args.history.now in
    let cash = c.free_cash.ensures
    ∙ ap (λ (game : Game). free_cash_of game.seats game.events c.args.by.president) c.now.ensures in
    rw (to_z-of_z w128 c.free_cash.result free, to_z-of_z w128 c.lack.result short)
    (ap (λ (z : ℤ). lt_z z c.lack.result) cash
    ∙ ap (lt_z (free_cash_of game.seats game.events c.args.by.president)) c.lack.ensures)
