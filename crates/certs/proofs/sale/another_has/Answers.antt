use Rattle.std.proofs.Common.{true, false, ℤ, sym, ap, ◌∙◌, SFits, ℕ}
use Rattle.std.specs.Int.{w128}
use Rattle.std.specs.Int.Signed.{le_z}
use Rattle.std.proofs.lemmas.Int.{to_z-of_z}
use Rattle.certs.proofs.ShareDeals.{one_has_from}
use Rattle.certs.specs.Sale.{another_has}
use Rattle.certs.proofs.sale.another_has.Goals as goal
use mir.Val.{of_z, to_z}

pub returns-then-shares-least : goal.returns-then-shares-least
returns-then-shares-least c =
    let now = c.args.now.now in
    let least : ℤ = to_z w128 (of_z w128 c.args.least) in
    let fits : SFits w128 c.shares.result = record { sfits = c.shares.type_inv } in
    let shares = to_z-of_z w128 c.shares.result fits ∙ c.shares.ensures.sum in
    one_has_from now.events c.args.company least c.seats-seats.result c.loop.counter c.loop.other c.left-other.result true
    c.loop-test.true c.left-other.ensures (ap (λ (z : ℤ). le_z least z) (sym shares) ∙ c.if-shares-least.true)
    ∙ c.loop.invariant
    ∙ ap (λ (z : ℤ). another_has c.seats-seats.result now.events c.args.company c.args.seat z)
    (to_z-of_z w128 c.args.least c.ranges.least)
    ∙ ap (λ (n : ℕ). another_has n now.events c.args.company c.args.seat c.args.least) c.seats-seats.ensures

pub loop-preserved : goal.loop-preserved
loop-preserved c =
    let now = c.args.now.now in
    let least : ℤ = to_z w128 (of_z w128 c.args.least) in
    let fits : SFits w128 c.shares.result = record { sfits = c.shares.type_inv } in
    let shares = to_z-of_z w128 c.shares.result fits ∙ c.shares.ensures.sum in
    one_has_from now.events c.args.company least c.seats-seats.result c.loop.counter c.loop.other c.left-other.result false
    c.loop-test.true c.left-other.ensures (ap (λ (z : ℤ). le_z least z) (sym shares) ∙ c.if-shares-least.false)
    ∙ c.loop.invariant
