use Rattle.std.proofs.Common.{ℤ, pos, ◌-ℤ◌, ap, ◌∙◌}
use Rattle.desk_dues.proofs.Numbers.{counted, price_less}
use Rattle.desk_dues.specs.Dangers.{price_of_kind}
use Rattle.tables.specs.declared.rolling_stock.Trains.{Trains}
use Rattle.totals.specs.LookBack.{cash_of}
use Rattle.desk_dues.proofs.danger.lacking_for.Goals as goal

pub returns-clause-value : goal.returns-clause-value
returns-clause-value c =
    let view = c.args.history.now in
    ap (λ (z : ℤ). counted z c.cash.result) c.from.ensures
    ∙ ap (λ (trains : Trains). counted (pos trains.price) c.cash.result) c.train.ensures
    ∙ price_less c.args.kind c.cash.result c.cash.ensures.within
    ∙ ap (λ (z : ℤ). pos (price_of_kind c.args.kind) -ℤ z)
    (c.cash.ensures.sum ∙ ap (cash_of view.seats view.events) c.of_company.ensures)
