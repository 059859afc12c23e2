-- The events that a company's turn can add, one by one, and what holds of them all.
use Rattle.std.proofs.Common.{◌≡◌, Bool, false, if◌then◌else◌, Some, None, is_some, refl, sym, ap, subst}
use Rattle.events.specs.Event.{operated_by, round_begun_by}
use Rattle.events.specs.declared.event.Event.{Event}
use Rattle.events.specs.declared.event.Event.TheVariants as event
use Rattle.totals.specs.LookBack.{Game}
use Rattle.totals.specs.Operating.{turn_said}
use Rattle.purchases.specs.SaleLaws.{IsAgreed}
use Rattle.tables.specs.Roster.{same_company}
use Rattle.tables.specs.declared.roster.Company.{Company}

-- A company's turn can add this event to a game. Its train runs and its withholdings are the
-- company's. The list before it agrees to what it buys from a company or a seat.
abbrev pub IsOfTurn : Company → Game → Event → Type 0
IsOfTurn company game (event.Ruled seat number ruling) = Unit
IsOfTurn company game (event.Home its at) = Unit
IsOfTurn company game (event.Laid its lay cost) = Unit
IsOfTurn company game (event.Token its at cost) = Unit
IsOfTurn company game (event.Runs its revenue) = its ≡ company
IsOfTurn company game (event.Withheld its amount) = its ≡ company
IsOfTurn company game (event.Dividend its to amount) = Unit
IsOfTurn company game (event.Moves its square) = Unit
IsOfTurn company game event.Broken = Unit
IsOfTurn company game (event.Train its kind from price) = IsAgreed game.events (event.Train its kind from price)
IsOfTurn company game (event.Traded its kind) = Unit
IsOfTurn company game (event.Phase kind) = Unit
IsOfTurn company game (event.Rusted owner kind) = Unit
IsOfTurn company game (event.Closed private) = Unit
IsOfTurn company game (event.PrivateBought private its seller price) =
    IsAgreed game.events (event.PrivateBought private its seller price)
IsOfTurn company game (event.Discarded its kind) = Unit
IsOfTurn company game (event.Forced its) = Unit
IsOfTurn company game (event.Sells its seat shares amount) = Unit
IsOfTurn company game (event.Aid seat its amount) = Unit
IsOfTurn company game other = ⊥

-- each sale to a company is agreed
pub is_agreed : (company : Company) (game : Game) (its : Event) → IsOfTurn company game its → IsAgreed game.events its
is_agreed company game (event.Train its kind from price) is = is
is_agreed company game (event.PrivateBought private its seller price) is = is
is_agreed company game other is = tt

-- none begins a round
pub begins_none : (company : Company) (game : Game) (its : Event) → IsOfTurn company game its →
    is_some (round_begun_by its) ≡ false
begins_none company game (event.Round round) is = absurd is
begins_none company game other is = refl

-- what names one company says nothing of another
named : (by company other : Company) → by ≡ company → same_company company other ≡ false
    → is_some (turn_said other (Some by)) ≡ false
named by company other is apart =
    subst (λ (c : Company). is_some (turn_said other (Some c)) ≡ false) (sym is)
    (ap (λ (b : Bool). is_some (if b then Some company else None)) apart)

-- nobody but the company operates by one
pub own_alone : (company other : Company) (game : Game) (its : Event) → IsOfTurn company game its →
    same_company company other ≡ false → is_some (turn_said other (operated_by its)) ≡ false
own_alone company other game (event.Runs by revenue) is apart = named by company other is apart
own_alone company other game (event.Withheld by amount) is apart = named by company other is apart
own_alone company other game its is apart = refl
