-- The purchase that a company must make. It is due at the end of its turn if it has no train and
-- could run a 2-train. It buys the cheapest train that is for sale. Its president pays what the
-- company lacks.
--
-- While they fall short they sell: by the RAISE lines of the company's orders, and then one share
-- at a time, of the first company in roster order of which they may sell one. If they still fall
-- short they are bankrupt, and nothing is bought.
use Rattle.std.specs.Prelude.{true, if◌then◌else◌, List, Option, Some, None, is_none, find, pos}
use Rattle.std.specs.Int.Signed.{lt_z}
use Rattle.certs.specs.declared.share_deal.Sale.{Sale}
use Rattle.events.specs.declared.event.Event.TheVariants as event
use Rattle.totals.specs.LookBack.{Game, with_event}
use Rattle.totals.specs.Trains.{at_least_zero}
use Rattle.purchases.specs.Train.{after_train}
use Rattle.forced_purchase.specs.Raise.{after_presidents_sale, after_raises, raised_sale_judgement}
use Rattle.forced_purchase.specs.Shortfall.{cheapest, falls_short, lack_of}
use Rattle.forced_purchase.specs.declared.operator.Operator.{Operator}
use Rattle.sheets.specs.Part.{Numbered}
use Rattle.tables.specs.Roster.{companies}
use Rattle.tables.specs.Steps.{iterate}
use Rattle.tables.specs.declared.roster.Company.{Company}

-- one share of a company
abbrev pub one_share : Company → Sale
one_share company = record { company = company; shares = 1 }

-- the first of these companies of which the president may sell a share
abbrev pub first_to_sell : Operator → Game → List Company → Option Company
first_to_sell by game among = find (λ company. is_none (raised_sale_judgement by game (one_share company))) among

-- the first company in roster order of which they may sell one
unfoldable pub next_to_sell : Operator → Game → Option Company
next_to_sell by game = first_to_sell by game companies

-- after they have sold a share of this company, if of any
abbrev pub with_one_sold : Operator → Game → Option Company → Game
with_one_sold by game None = game
with_one_sold by game (Some company) = after_presidents_sale by game (one_share company)

-- after they have sold one more share, if they fall short and may
unfoldable pub sold_further : Operator → Game → Game
sold_further by game = if falls_short by game then with_one_sold by game (next_to_sell by game) else game

-- after they have sold shares one at a time, until they do not fall short or may sell none: at most
-- 40, since the pool takes 5 shares of each of the 8 companies
unfoldable pub sold_singly : Operator → Game → Game
sold_singly by game = iterate (sold_further by) 40 game

-- with AID, if the company lacks anything
unfoldable pub with_aid : Operator → Game → Game
with_aid by game = if lt_z (pos 0) (lack_of game by.company)
    then with_event game (event.Aid by.president by.company (at_least_zero (lack_of game by.company))) else game

-- after the purchase, or the bankruptcy of the president
unfoldable pub concluded : Operator → Game → Game
concluded by game = if falls_short by game then with_event game (event.Bankrupt by.president)
    else after_train (with_aid by game) by.company (cheapest game.events)

-- after a purchase that is due, with these as the company's orders
unfoldable pub after_forced : Operator → List Numbered → Game → Game
after_forced by lines game =
    concluded by (sold_singly by (after_raises true by (with_event game (event.Forced by.company)) lines))
