-- All money of a game. The bank, the seats at the table and the companies have 12,000 together,
-- whatever has happened, as long as money has gone only between them.
use Rattle.std.specs.Prelude.{◌≡◌, ℕ, ◌<◌, List, [], ◌∷◌, ◌++◌, map, Option, Some, None, ℤ, pos, ◌+ℤ◌}
use Rattle.events.specs.Event.{party_at, party_of_company, payment_of}
use Rattle.events.specs.declared.event.Event.{Event}
use Rattle.events.specs.declared.event.Holder.TheVariants as holder
use Rattle.events.specs.declared.event.Party.{Party}
use Rattle.events.specs.declared.event.Party.TheVariants as party
use Rattle.events.specs.declared.event.Payment.{Payment}
use Rattle.totals.specs.LookBack.{cash_of}
use Rattle.tables.specs.Roster.{companies}
use Rattle.tables.specs.Seat.{all_seats}

-- the parties of a game: the bank, the seats at the table, the companies
abbrev pub parties : ℕ → List Party
parties seats = party.Bank ∷ (map party_at (all_seats seats) ++ map party_of_company companies)

-- what these parties have together
abbrev pub cash_together : ℕ → List Event → List Party → ℤ
cash_together seats events [] = pos 0
cash_together seats events (one ∷ others) = cash_of seats events one +ℤ cash_together seats events others

-- a party is one of the game
abbrev pub IsParty : ℕ → Party → Type 0
IsParty seats party.Bank = Unit {0}
IsParty seats (party.Holder (holder.Seat seat)) = seat.0 < seats
IsParty seats (party.Holder (holder.Company company)) = Unit {0}

-- a payment goes between parties of the game
abbrev pub IsWithin : ℕ → Option Payment → Type 0
IsWithin seats None = Unit {0}
IsWithin seats (Some payment) = IsParty seats payment.from × IsParty seats payment.to

-- the payments of all events go between parties of the game
abbrev pub AreWithin : ℕ → List Event → Type 0
AreWithin seats [] = Unit {0}
AreWithin seats (event ∷ events) = IsWithin seats (payment_of event) × AreWithin seats events

-- all money is 12,000
abbrev pub AllMoneyStays : Type 0
AllMoneyStays =
    (seats : ℕ) (events : List Event) → AreWithin seats events → cash_together seats events (parties seats) ≡ pos 12000
