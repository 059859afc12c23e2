-- What a president can raise at most for a train by sales. From each company they sell the block of
-- shares that brings the most: the shares of a block are sold at one price, and a further sale of
-- the company would be at a lower one. A sale of one company changes nothing for another.
use Rattle.std.specs.Prelude.{ℕ, ◌*◌, if◌then◌else◌, List, [], ◌∷◌, is_none, max, sum_by}
use Rattle.std.specs.List.{fold}
use Rattle.certs.specs.Purchase.{market_price_of}
use Rattle.certs.specs.declared.share_deal.Sale.{Sale}
use Rattle.forced_purchase.specs.Raise.{raised_sale_judgement}
use Rattle.forced_purchase.specs.declared.operator.Operator.{Operator}
use Rattle.totals.specs.LookBack.{Game}
use Rattle.tables.specs.Roster.{companies}
use Rattle.tables.specs.declared.roster.Company.{Company}

-- the numbers of shares that a block may have
abbrev pub block_sizes : List ℕ
block_sizes = 1 ∷ 2 ∷ 3 ∷ 4 ∷ 5 ∷ 6 ∷ 7 ∷ 8 ∷ 9 ∷ 10 ∷ []

-- a block of so many shares of a company
abbrev pub block_of : Company → ℕ → Sale
block_of company shares = record { company = company; shares = shares }

-- what its sale brings, in dollars: the market price for each share; nothing if a rule of a sale for
-- the company's train refuses it
abbrev pub brought_by_block : Game → Operator → Sale → ℕ
brought_by_block game by block =
    if is_none (raised_sale_judgement by game block) then block.shares * market_price_of game.events block.company else 0

-- the greater of a sum and what a block of so many shares of a company brings
abbrev pub or_block : Game → Operator → Company → ℕ → ℕ → ℕ
or_block game by company most shares = max most (brought_by_block game by (block_of company shares))

-- the most that one block of a company's shares brings
unfoldable pub most_of_company : Game → Operator → Company → ℕ
most_of_company game by company = fold (or_block game by company) 0 block_sizes

-- what a president can raise at most
unfoldable pub raised_at_most_by : Game → Operator → ℕ
raised_at_most_by game by = sum_by (most_of_company game by) companies
