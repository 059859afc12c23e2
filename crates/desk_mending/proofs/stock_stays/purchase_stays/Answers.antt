use Rattle.std.proofs.Common.{ℕ, ap, sym, ◌∙◌}
use Rattle.certs.specs.Purchase.{company_of}
use Rattle.desk_mending.specs.Stays.{purchase_stays, six_stays}
use Rattle.events.specs.declared.ruling.StockRule.{StockRule}
use Rattle.tables.specs.declared.roster.Company.{Company}
use Rattle.desk_mending.proofs.stock_stays.purchase_stays.Goals as goal

pub returns-in-OverSixShares : goal.returns-in-OverSixShares
returns-in-OverSixShares c =
    let start = c.args.start.now in
    let above = c.args.written.now.above.now in
    let turn = c.args.written.now.turn in
    c.six_stays.ensures
    ∙ ap (λ (company : Company). six_stays start c.args.seat above turn company c.shares.result) c.company.ensures
    ∙ ap (λ (shares : ℕ). six_stays start c.args.seat above turn (company_of c.args.purchase) shares) c.shares.ensures
    ∙ ap (λ (rule : StockRule). purchase_stays start c.args.seat above turn c.args.purchase rule) (sym c.in-OverSixShares.is)
