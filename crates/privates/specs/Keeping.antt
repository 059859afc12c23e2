-- What keeps an opening round under way, as a round of turns needs it: the ROUND event, a pass, a
-- count of lines that were not reached.
use Rattle.std.proofs.Common.{refl}
use Rattle.std.specs.Prelude.{ℕ}
use Rattle.events.specs.declared.event.Event.TheVariants as event
use Rattle.totals.specs.LookBack.{Game, with_event}
use Rattle.history.specs.Games.{IsGame}
use Rattle.history.specs.Sound.{IsSound}
use Rattle.history.specs.Record.{left_recorded}
use Rattle.privates.specs.UnderwayKept.{begun_underway, event_underway, left_underway}
use Rattle.privates.specs.Underway.{IsUnderway, MayBegin}
use Rattle.tables.specs.declared.round.Round.{Round}
use Rattle.tables.specs.declared.seat.Seat.{Seat}

-- the ROUND event begins it
pub begins : (game : Game) (round : Round) → MayBegin game.events → IsGame (with_event game (event.Round round)) →
    IsUnderway (with_event game (event.Round round))
begins game round may its =
    begun_underway game (with_event game (event.Round round)) round refl may.pennsylvania may.baltimore its

-- a pass keeps it
pub pass_keeps_underway : (game : Game) (seat : Seat) → IsUnderway game → IsSound (with_event game (event.Passes seat))
    → IsUnderway (with_event game (event.Passes seat))
pass_keeps_underway game seat underway sound =
    event_underway game (with_event game (event.Passes seat)) (event.Passes seat) refl (λ its other. refl) refl sound
    underway

-- a count of lines that were not reached keeps it
pub leaves : (game : Game) (seat : Seat) (lines : ℕ) → IsUnderway game → IsSound (left_recorded seat lines game)
    → IsUnderway (left_recorded seat lines game)
leaves game seat lines underway sound = left_underway game (left_recorded seat lines game) seat lines refl sound
    underway
