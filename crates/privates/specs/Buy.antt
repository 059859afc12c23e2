-- A purchase. In a turn a seat may buy the cheapest unsold private, at the bank's price. It gets what
-- comes with the private, and the bids on the next are settled at once.
use Rattle.std.specs.Prelude.{ℕ, Bool, not, List, [], ◌∷◌}
use Rattle.events.specs.declared.event.Event.{Event}
use Rattle.events.specs.declared.ruling.OpeningRule.{OpeningRule}
use Rattle.events.specs.declared.ruling.OpeningRule.TheVariants.{Sold, NotCheapest, CashTooSmall, TurnUsed}
use Rattle.totals.specs.LookBack.{is_sold}
use Rattle.privates.specs.Bank.{is_cheapest, is_short, price_of_private}
use Rattle.privates.specs.Sale.{after_private_sale, settled}
use Rattle.tables.specs.Rules.{Rule}
use Rattle.tables.specs.declared.roster.Private.{Private}
use Rattle.tables.specs.declared.seat.Seat.{Seat}

-- The rules that a purchase may break, in a turn that has bought or bid before or not. They are:
--
-- - the private is sold;
-- - it is not the cheapest unsold one;
-- - its price is over what the seat can spend on it;
-- - the turn is used.
abbrev pub private_purchase_rules : ℕ → List Event → Seat → Bool → Private → List (Rule OpeningRule)
private_purchase_rules seats events seat used private = record { code = Sold; broken = is_sold events private }
    ∷ record { code = NotCheapest; broken = not (is_cheapest events private) }
    ∷ record { code = CashTooSmall; broken = is_short seats events seat private (price_of_private events private) }
    ∷ record { code = TurnUsed; broken = used } ∷ []

-- after the purchase of a private by a seat
abbrev pub after_private_purchase : ℕ → Seat → List Event → Private → List Event
after_private_purchase seats seat events private =
    settled seats (after_private_sale events private seat (price_of_private events private))
