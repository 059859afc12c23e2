-- What is told of the shares on a purchase are those of its company.
use Rattle.std.proofs.Common.{◌∙◌, ap, sym}
use Rattle.desk_may.specs.StockTold.{shares_on}
use Rattle.desk_may.proofs.stock_told.shares_on.Goals as goal

pub returns-in-BuyShare : goal.returns-in-BuyShare
returns-in-BuyShare c =
    c.shares_held.ensures ∙ ap (shares_on c.args.history.now.events c.args.seat) (sym c.in-BuyShare.is)
