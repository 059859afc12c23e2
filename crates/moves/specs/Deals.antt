-- What the rows of a stock round and of RAISE lines speak of: where a share may be bought, a sale and
-- how many shares it may name, and what it brings.
use Rattle.std.specs.Prelude.{ℕ, ◌*◌, List, [], ◌∷◌}
use Rattle.certs.specs.Purchase.{market_price_of}
use Rattle.certs.specs.declared.share_deal.Sale.{Sale}
use Rattle.events.specs.declared.event.Event.{Event}
use Rattle.order_grammar.specs.declared.order.ShareSource.{ShareSource}
use Rattle.order_grammar.specs.declared.order.ShareSource.TheVariants.{InitialOffering, BankPool}

-- where a share may be bought
abbrev pub sources : List ShareSource
sources = InitialOffering ∷ BankPool ∷ []

-- how many shares may be named
abbrev pub share_numbers : List ℕ
share_numbers = 1 ∷ 2 ∷ 3 ∷ 4 ∷ 5 ∷ 6 ∷ 7 ∷ 8 ∷ 9 ∷ 10 ∷ []

-- what a sale brings: the market price for each share
abbrev pub brought_by : List Event → Sale → ℕ
brought_by events sale = sale.shares * market_price_of events sale.company
