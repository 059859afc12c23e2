-- Sales to companies, by the list of events before each: whoever sells a train or a private to a
-- company has agreed to exactly this sale.
use Rattle.std.specs.Prelude.{◌≡◌, ℕ, Bool, true, false, List, [], ◌∷◌, ◌++◌, Some}
use Rattle.events.specs.declared.event.Event.{Event}
use Rattle.events.specs.declared.event.Event.TheVariants as event
use Rattle.events.specs.declared.event.Holder.TheVariants as holder
use Rattle.events.specs.declared.event.TrainSeller.TheVariants as seller
use Rattle.totals.specs.LookBack.{owner_of}
use Rattle.purchases.specs.ConsentLaws.{CompanyAgrees, OwnerAgrees}
use Rattle.tables.specs.declared.roster.Company.{Company}
use Rattle.tables.specs.declared.roster.Private.{Private}
use Rattle.tables.specs.declared.seat.Seat.{Seat}

-- by a list of events a seat owns a private, and agrees that it is sold to a company for this much
pub record IsGiven (events : List Event) (giver : Seat) (buyer : Company) (private : Private) (price : ℕ) : Type 0 where
  pub owns : owner_of events private ≡ Some (holder.Seat giver)
  pub agreed : (seats : ℕ) → OwnerAgrees (record { seats = seats; events = events }) buyer private price

-- the list before an event agrees to it, if it sells a train of a company to another, or a private
-- to a company; other events need no agreement
abbrev pub IsAgreed : List Event → Event → Type 0
IsAgreed events (event.Train buyer kind (seller.Company from) price) =
    (seats : ℕ) → CompanyAgrees (record { seats = seats; events = events }) from buyer kind price
IsAgreed events (event.PrivateBought private buyer giver price) = IsGiven events giver buyer private price
IsAgreed events other = Unit

-- each of these events is agreed by the list before it, if this list comes before them all
abbrev pub AreAgreed : List Event → List Event → Type 0
AreAgreed before [] = Unit
AreAgreed before (its ∷ later) = IsAgreed before its × AreAgreed (before ++ its ∷ []) later

-- each sale of a list is agreed by the part of the list before it
abbrev pub SellersAgree : List Event → Type 0
SellersAgree events = AreAgreed [] events

-- an event sells a train of a company to another, or a private to a company
abbrev pub sells_to_company : Event → Bool
sells_to_company (event.Train buyer kind (seller.Company from) price) = true
sells_to_company (event.PrivateBought private buyer giver price) = true
sells_to_company other = false

-- other events keep it so
abbrev pub OthersKeepAgreed : Type 0
OthersKeepAgreed =
    (events : List Event) (its : Event) →
    sells_to_company its ≡ false → SellersAgree events → SellersAgree (events ++ its ∷ [])
