-- The place of the last event that speaks of a thing, once one more event is at the end.
use Rattle.std.proofs.Common.{◌≡◌, ℕ, ◌+◌, List, [], ◌∷◌, ◌++◌, Option, length, sym, ap, ◌∙◌, arith}
use Rattle.std.specs.Option.{option_or}
use Rattle.events.specs.declared.event.Event.{Event}
use Rattle.totals.proofs.EventAtEnd.{option_or_assoc, option_or_none}
use Rattle.totals.specs.Totals.{here_if}
use Rattle.totals.specs.LookBack.{last_place_from}

-- the place of the event at the end, if it speaks, or else what it was before
pub last_place_at_end : {A : Type 0} (says : Event → Option A) (from : ℕ) (events : List Event) (event : Event)
    → last_place_from says from (events ++ event ∷ [])
    ≡ option_or (here_if (says event) (from + length events)) (last_place_from says from events)
last_place_at_end says from [] event =
    let place : from ≡ from + 0 = omega arith in
    ap (here_if (says event)) place ∙ sym (option_or_none (here_if (says event) (from + 0)))
last_place_at_end says from (first ∷ events) event =
    let place : (from + 1) + length events ≡ from + length (first ∷ events) = omega arith in
    ap (λ later. option_or later (here_if (says first) from)) (last_place_at_end says (from + 1) events event)
    ∙ (option_or_assoc (here_if (says event) ((from + 1) + length events))
    (last_place_from says (from + 1) events) (here_if (says first) from)
    ∙ ap (λ at. option_or (here_if (says event) at) (last_place_from says from (first ∷ events))) place)
