-- Events that follow from the list alone: where they are among others, and the revenues of the
-- privates, one after another.
use Rattle.std.proofs.Common.{◌≡◌, ℕ, ◌==◌, Bool, true, false, if◌then◌else◌, List, [], ◌∷◌, ◌++◌, refl, ◌+◌, ◌<◌}
use Rattle.std.proofs.Common.{length, drop, get_or, sym, ap, ◌∙◌, add-one}
use Rattle.events.specs.declared.event.Event.{Event}
use Rattle.events.specs.declared.event.Event.TheVariants as event
use Rattle.history.specs.Record.{with_left, after_revenues, paid_to_owner}
use Rattle.tables.specs.declared.seat.Seat.{Seat}
use Rattle.std.proofs.Math.Seq.{drop-cons}
use Rattle.totals.specs.LookBack.{owner_of}
use Rattle.tables.specs.declared.roster.Private.{Private}

-- a LEFT event is before others
pub left_first : (seat : Seat) (count : ℕ) (events : List Event)
    → with_left seat count [] ++ events ≡ with_left seat count events
left_first seat count events =
    elim (count == 0) as (λ (b : Bool). (if b then [] else event.Left seat count ∷ []) ++ events
    ≡ (if b then events else event.Left seat count ∷ events)) [ true ↦ refl | false ↦ refl ]

-- where the revenues of those that are left lead after the next, they lead before it
pub revenues_go_on : (seats same : ℕ) (old new : List Event) (all : List Private) (i : ℕ) (d : Private)
    → i < length all → same ≡ seats → new ≡ paid_to_owner seats old (get_or all i d) (owner_of old (get_or all i d))
    → after_revenues same new (drop (i + 1) all) ≡ after_revenues seats old (drop i all)
revenues_go_on seats same old new all i d below is_same paid =
    ap (λ (n : ℕ). after_revenues n new (drop (i + 1) all)) is_same
    ∙ ap (λ (events : List Event). after_revenues seats events (drop (i + 1) all)) paid
    ∙ sym (ap (λ (left : List Private). after_revenues seats old left)
    (drop-cons all i d below ∙ ap (λ (k : ℕ). get_or all i d ∷ drop k all) (sym (add-one i))))
