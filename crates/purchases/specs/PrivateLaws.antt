-- A law of privates. One that is closed has been sold and has no owner; nobody buys it, so it stays
-- closed and has no owner ever after.
use Rattle.std.specs.Prelude.{◌≡◌, ℕ, Bool, true, false, List, [], ◌∷◌, ◌++◌, Option, Some, None, is_some}
use Rattle.events.specs.Event.{ownership_of}
use Rattle.events.specs.declared.event.Event.{Event}
use Rattle.events.specs.declared.event.Event.TheVariants as event
use Rattle.events.specs.declared.event.Ownership.{Ownership}
use Rattle.totals.specs.LookBack.{is_closed, is_sold, owner_of}
use Rattle.tables.specs.declared.roster.Private.{Private}
use Rattle.tables.specs.declared.seat.Seat.{Seat}

-- a closed private has no owner
abbrev pub ClosedHasNoOwner : Type 0
ClosedHasNoOwner =
    (events : List Event) (private : Private) → is_closed events private ≡ true → owner_of events private ≡ None

-- each private that is closed by the one list is closed by the other
abbrev pub KeepsClosed : List Event → List Event → Type 0
KeepsClosed before after = (private : Private) → is_closed before private ≡ true → is_closed after private ≡ true

-- what is said of a private names an owner
abbrev pub names_owner : Option Ownership → Bool
names_owner None = false
names_owner (Some ownership) = is_some ownership.owner

-- an event that names no owner leaves those closed that are
abbrev pub OthersKeepClosed : Type 0
OthersKeepClosed =
    (events : List Event) (its : Event) →
    names_owner (ownership_of its) ≡ false → KeepsClosed events (events ++ its ∷ [])

-- the sale of a private that was unsold leaves those closed that are
abbrev pub SalesKeepClosed : Type 0
SalesKeepClosed =
    (events : List Event) (sold : Private) (buyer : Seat) (price : ℕ) →
    is_sold events sold ≡ false → KeepsClosed events (events ++ event.Sold sold buyer price ∷ [])
