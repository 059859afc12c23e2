-- What lies beyond the rows is refused, by the rules that are kept.
use Rattle.std.proofs.Common.{◌+◌, ◌==◌, nat_lt, None, pos}
use Rattle.std.specs.Int.Signed.{lt_z}
use Rattle.std.proofs.lemmas.Bool.{or_parts, ltb-false, not-false}
use Rattle.certs.specs.Purchase.{purchase_judgement, share_purchase_rules}
use Rattle.certs.specs.Sale.{is_not_held, sale_judgement, sale_rules}
use Rattle.certs.specs.declared.share_deal.Purchase.TheVariants as purchase
use Rattle.events.specs.Event.{is_par_value}
use Rattle.events.specs.RuleCodes.{code_of_private_rule, code_of_stock_rule}
use Rattle.events.specs.declared.event.Shareholder.TheVariants.{Seat as OfSeat}
use Rattle.events.specs.declared.ruling.PrivateRule.TheVariants.{WrongPrice}
use Rattle.events.specs.declared.ruling.StockRule.TheVariants.{NoParValue, NotHeld}
use Rattle.moves.specs.Limits.{PrivatesHaveTheirPrice, SalesAreOfWhatIsHeld, StartsAreAtParValues}
use Rattle.purchases.proofs.TrainLemmas.{not_less}
use Rattle.purchases.specs.Private.{private_rules}
use Rattle.tables.proofs.Rules.{not_broken}
use Rattle.tables.specs.Roster.{face_of}
use Rattle.totals.specs.Shares.{shares_of}
use Rattle.stock_round.specs.Sell.{sale_of}

pub sales_of_held : SalesAreOfWhatIsHeld
unfolding sale_judgement is_not_held
sales_of_held game seat company shares none =
    let kept = not_broken code_of_stock_rule
    (sale_rules game.seats game.events seat (sale_of company shares) None) none in
    let held = shares_of game.events company (OfSeat seat) in
    not_less held (pos shares) (or_parts (shares == 0) (lt_z held (pos shares)) (kept NotHeld)).1

pub starts_at_par : StartsAreAtParValues
unfolding purchase_judgement
starts_at_par game seat company price none =
    let kept = not_broken code_of_stock_rule
    (share_purchase_rules game.seats game.events seat (purchase.Par company price) None) none in
    not-false (is_par_value price) (kept NoParValue)

pub private_prices : PrivatesHaveTheirPrice
private_prices game company private price none =
    let kept = not_broken code_of_private_rule (private_rules game company private price) none in
    let face = face_of private in
    let both = or_parts (nat_lt (price + price) face) (nat_lt (face + face) price) (kept WrongPrice) in
    (ltb-false (price + price) face both.0, ltb-false (face + face) price both.1)
