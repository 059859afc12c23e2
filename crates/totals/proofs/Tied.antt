-- A table of standing bids.
use Rattle.std.proofs.Common.{◌≡◌, ℕ, zero, suc, ◌<◌, List, [], ◌∷◌, Option, Some, None, get_or, refl, sym, ap, ◌∙◌}
use Rattle.std.proofs.Common.{arith}
use Rattle.events.specs.declared.event.Event.{Event}
use Rattle.totals.specs.Bids.{AreStanding, bid_of}
use Rattle.tables.specs.Seat.{seat_at}
use Rattle.tables.specs.declared.roster.Private.{Private}
use Rattle.tables.specs.declared.seat.Seat.{Seat}

-- at first no bid stands
pub none_standing : (private : Private) → AreStanding [] private (None ∷ None ∷ None ∷ None ∷ None ∷ None ∷ [])
none_standing private zero within = refl
none_standing private (suc zero) within = refl
none_standing private (suc (suc zero)) within = refl
none_standing private (suc (suc (suc zero))) within = refl
none_standing private (suc (suc (suc (suc zero)))) within = refl
none_standing private (suc (suc (suc (suc (suc zero))))) within = refl
none_standing private (suc (suc (suc (suc (suc (suc number)))))) within = absurd (omega arith)

-- a seat's bid is in the table
pub is_standing :
    (events : List Event) (private : Private) (number : ℕ) (standing : List (Option ℕ)) (seat : Seat) → number < 6
    → seat ≡ seat_at number →
    AreStanding events private standing → get_or standing number None ≡ bid_of events private seat
is_standing events private number standing seat within at is_bid =
    is_bid number within ∙ ap (bid_of events private) (sym at)

-- what is no bid is none
pub none_without : (bid : Option ℕ) → ((amount : ℕ) → bid ≡ Some amount → ⊥) → bid ≡ None
none_without None without = refl
none_without (Some amount) without = absurd (without amount refl)
