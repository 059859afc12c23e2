-- A ruling that obeys no order that speaks of a thing, and the event that tells of it, say nothing
-- of it.
use Rattle.std.proofs.Common.{◌≡◌, ℕ, ◌==◌, Bool, true, false, if◌then◌else◌, Option, None, refl, subst, sym, ap, ◌∙◌}
use Rattle.events.specs.Event.{Order, obeyed_of}
use Rattle.events.specs.Orders.{said_by}
use Rattle.events.specs.Packed.{Condition}
use Rattle.events.specs.declared.event.Event.{Event}
use Rattle.events.specs.declared.event.Event.TheVariants.{Ruled}
use Rattle.events.specs.declared.ruling.Ruling.{Ruling}
use Rattle.events.specs.declared.ruling.Ruling.TheVariants.{Faulty, Obeyed, Refused}
use Rattle.tables.specs.declared.seat.Seat.{Seat}

-- no word is none, of whichever seat
none_of : {A : Type 0} (here : Bool) → ◌≡◌ {A = Option A} None (if here then None else None)
none_of true = refl
none_of false = refl

-- a ruling that obeys no order that speaks says nothing of a seat
no_word :
    {A : Type 0} (says : Order → Option A) (obeyed : Ruling → Option A) (by : Seat) (line : ℕ) (seat : Seat)
    (ruling : Ruling) →
    ((condition : Option Condition) (order : Order) → obeyed (Obeyed condition order) ≡ says order) →
    None ≡ obeyed ruling → None ≡ said_by seat says (obeyed_of (Ruled by line ruling))
no_word {A} says obeyed by line seat (Obeyed condition order) agree none =
    none_of (by.0 == seat.0) ∙ ap (λ (word : Option A). if by.0 == seat.0 then word else None)
    (none ∙ agree condition order)
no_word says obeyed by line seat (Refused rule condition order) agree none = refl
no_word says obeyed by line seat (Faulty fault) agree none = refl

-- and neither does the event that tells of it
pub no_word_said :
    {A : Type 0} (says : Order → Option A) (obeyed : Ruling → Option A) (event : Event) (by : Seat) (line : ℕ)
    (seat : Seat) (ruling : Ruling) →
    ((condition : Option Condition) (order : Order) → obeyed (Obeyed condition order) ≡ says order) →
    event ≡ Ruled by line ruling → None ≡ obeyed ruling →
    None ≡ said_by seat says (obeyed_of event)
no_word_said says obeyed event by line seat ruling agree is none =
    subst (λ e. None ≡ said_by seat says (obeyed_of e)) (sym is) (no_word says obeyed by line seat ruling agree none)
