-- The totals that a reader is lent, if there are any.
use Rattle.std.proofs.Common.{◌≡◌, List, [], ◌∷◌, Bor, Option, Some, None, length, refl, arith}
use Rattle.std.specs.Prelude.{MatchOption}
use Rattle.events.specs.declared.event.Event.{Event}
use Rattle.totals.specs.Totals.{AreTotalsOf}
use Rattle.totals.specs.declared.totals.Totals.{Totals}

-- there are totals of these events, or there are no events
abbrev pub AreLent : Option (Bor Totals) → List Event → Type 0
AreLent totals events = MatchOption totals (events ≡ []) (λ all. AreTotalsOf all.now events)

-- a list of no length is empty
none_in : (events : List Event) → length events ≡ 0 → events ≡ []
none_in [] short = refl
none_in (event ∷ events) short = absurd (omega (arith, short))

-- it is so by what a game as it stood says of its totals
pub are_lent :
    (totals : Option (Bor Totals)) (events : List Event) → (totals ≡ None → length events ≡ 0) →
    ((all : Bor Totals) → totals ≡ Some all → AreTotalsOf all.now events) → AreLent totals events
are_lent None events empty kept = none_in events (empty refl)
are_lent (Some all) events empty kept = kept all refl
