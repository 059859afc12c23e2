-- The rows of RAISE lines. Where a company must buy a train, its president is told what becomes of the order to sell from one
-- share of a company to all that they have of it, company by company, each as the first RAISE of the turn. It brings the
-- market price for each share.
use Rattle.std.specs.Prelude.{ℕ, Bool, true, if◌then◌else◌, List, [], ◌∷◌, None, pos}
use Rattle.std.specs.Int.Signed.{le_z}
use Rattle.std.specs.List.{flat_map}
use Rattle.certs.specs.declared.share_deal.Sale.{Sale}
use Rattle.events.specs.declared.event.Event.{Event}
use Rattle.events.specs.declared.event.Shareholder.TheVariants.{Seat as OfSeat}
use Rattle.forced_purchase.specs.Raise.{raise_judgement}
use Rattle.forced_purchase.specs.declared.operator.Operator.{Operator}
use Rattle.moves.specs.Deals.{brought_by, share_numbers}
use Rattle.moves.specs.Rows.{answer_of, only_if}
use Rattle.moves.specs.declared.row.Answer.{Answer}
use Rattle.moves.specs.declared.row.Row.{Row}
use Rattle.order_grammar.specs.declared.play.PlayOrder.TheVariants.{Raise}
use Rattle.tables.specs.Roster.{companies}
use Rattle.tables.specs.declared.roster.Company.{Company}
use Rattle.tables.specs.declared.seat.Seat.{Seat}
use Rattle.totals.specs.LookBack.{Game}
use Rattle.totals.specs.Shares.{shares_of}
use Rattle.stock_round.specs.Sell.{sale_of}

-- a president has as many shares of a company as this
abbrev pub is_held : List Event → Seat → Company → ℕ → Bool
is_held events president company shares = le_z (pos shares) (shares_of events company (OfSeat president))

-- a sale of this many, if they have them
abbrev pub raise_if_held : List Event → Seat → Company → ℕ → List Sale
raise_if_held events president company shares =
    only_if (is_held events president company shares) (sale_of company shares ∷ [])

-- the sales of a company
abbrev pub raises_of : List Event → Seat → Company → List Sale
raises_of events president company = flat_map (raise_if_held events president company) share_numbers

-- and of all companies
unfoldable pub raises : List Event → Seat → List Sale
raises events president = flat_map (raises_of events president) companies

-- what becomes of one as the first RAISE, where a train must be bought
abbrev pub raise_answer : Game → Operator → Sale → Answer
raise_answer game by sale = answer_of (pos (brought_by game.events sale)) (raise_judgement true by game None sale)

-- its row
abbrev pub raise_row : Game → Operator → Sale → Row
raise_row game by sale = record { order = Raise sale.company sale.shares; answer = raise_answer game by sale }
