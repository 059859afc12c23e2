-- Numbers of dollars are subtracted as they are.
use Rattle.std.proofs.Common.{◌≡◌, ◌≤◌, ℕ, ℤ, pos, ◌-ℤ◌, ap, ◌∙◌, arith}
use Rattle.std.proofs.lemmas.Int.{ints}
use mir.Syntax.{w128}
use mir.Val.{of_z, to_z}
use Rattle.totals.specs.LookBack.{IsModerate, cash_of, Game}
use Rattle.forced_purchase.specs.Shortfall.{cheapest, lack_of}
use Rattle.purchases.specs.Train.{train_purchase_cost}
use Rattle.forced_purchase.proofs.shortfall.lack.Goals as goal

-- a price less a moderate sum fits in the bits that it is counted in
difference_kept : (price : ℕ) (cash : ℤ) → price ≤ 99999 → IsModerate cash →
    to_z w128 (of_z w128 (to_z w128 (of_z w128 (pos price)) -ℤ to_z w128 (of_z w128 cash))) ≡ pos price -ℤ cash
difference_kept price cash small within = omega (arith, ints)

pub returns : goal.returns
unfolding lack_of
returns c =
    let view = c.args.history.now in
    let price = c.price-cost.ensures in
    let cash = c.cash.ensures in
    ap (λ (z : ℤ). to_z w128 (of_z w128 (to_z w128 (of_z w128 z) -ℤ to_z w128 (of_z w128 c.cash.result))))
    c.from.ensures
    ∙ difference_kept c.price-cost.result c.cash.result (omega (arith, price.small)) cash.within
    ∙ ap (λ (n : ℕ). pos n -ℤ c.cash.result) (price.price
    ∙ ap train_purchase_cost (c.cheapest.ensures.purchase ∙ ap (λ (game : Game). cheapest game.events) c.now.ensures))
    ∙ ap (λ (z : ℤ). pos (train_purchase_cost (cheapest view.events)) -ℤ z)
    (cash.sum ∙ ap (cash_of view.seats view.events) c.of_company.ensures)
