-- A purchase of a share is expected if it is on offer.
use Rattle.std.proofs.Common.{◌∙◌, ap, sym}
use Rattle.desk_may.specs.StockTold.{is_expected}
use Rattle.desk_may.proofs.stock_told.is_expected.Goals as goal

pub returns-in-BuyShare : goal.returns-in-BuyShare
returns-in-BuyShare c =
    c.is_on_offer.ensures ∙ ap (is_expected c.args.history.now.events c.args.seat) (sym c.in-BuyShare.is)
