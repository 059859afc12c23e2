-- What a row says: an order, and what becomes of it where it stands. It is obeyed at a price, or
-- refused by the first rule that it breaks. What a company buys from a player or another company
-- needs a consent. If that is all it lacks, the row names who is to consent, and to what.
use Rattle.std.specs.Prelude.{List, [], if◌then◌else◌, Bool, Option, Some, None, ℤ}
use Rattle.events.specs.declared.ruling.Refusal.{Refusal}
use Rattle.moves.specs.declared.row.Answer.{Answer}
use Rattle.moves.specs.declared.row.Answer.TheVariants.{Obeyed, WithConsent, Refused}
use Rattle.order_grammar.specs.declared.order.Offer.{Offer}
use Rattle.tables.specs.declared.seat.Seat.{Seat}

-- what becomes of an order of this price that breaks this rule first, or none
abbrev pub answer_of : ℤ → Option Refusal → Answer
answer_of price None = Obeyed price
answer_of price (Some rule) = Refused rule

-- What becomes of an order of this price that breaks the first rule in the game, or none, and the
-- second if everybody consents, or none. If that breaks none, the one who is asked is to consent.
abbrev pub answer_if_given : ℤ → Option Refusal → Option Refusal → Option (Seat × Offer) → Answer
answer_if_given price None given asked = Obeyed price
answer_if_given price (Some rule) None (Some (giver, sale)) = WithConsent price giver sale
answer_if_given price (Some rule) given asked = Refused rule

-- these, if this is so
abbrev pub only_if : {A : Type 0} → Bool → List A → List A
only_if is some = if is then some else []
