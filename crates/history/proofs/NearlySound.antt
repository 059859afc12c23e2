-- Quiet events, which keep a list sound, and the word that the bank is broken.
use Rattle.std.proofs.Common.{ℕ, true, false, if◌then◌else◌, List, [], ◌∷◌, ◌++◌, rules}
use Rattle.events.specs.Event.{IsQuiet}
use Rattle.events.specs.declared.event.Event.{Event}
use Rattle.events.specs.declared.event.Event.TheVariants.{Broken, Ruled}
use Rattle.events.specs.declared.ruling.Ruling.{Ruling}
use Rattle.totals.proofs.EventAtEnd.{quiet_same}
use Rattle.history.proofs.Soundness.{IsNearlySound, nearly_sound_after, sound_after}
use Rattle.history.specs.Laws.{QuietKeepsSound}
use Rattle.totals.specs.AtEnd.{SaysTheSame}
use Rattle.totals.specs.LookBack.{Game}
use Rattle.history.specs.Record.{breaks, broken_recorded}
use Rattle.tables.specs.declared.seat.Seat.{Seat}

-- a quiet event has nothing to show
pub quiet_sound : QuietKeepsSound
quiet_sound game event quiet =
    sound_after game event
    (rw (
      quiet.payment,
      quiet.ownership,
      quiet.bidding,
      quiet.transfer,
      quiet.sv_price,
      quiet.train,
      quiet.tile,
      quiet.token,
    ) tt)
    (rw (quiet.transfer, quiet.par, quiet.square, quiet.office, quiet.float, quiet.sv_price) tt)

-- BROKEN is quiet
pub broken_quiet : IsQuiet Broken
broken_quiet = search rules

-- and so is a ruling
pub ruling_quiet : (seat : Seat) (number : ℕ) (ruling : Ruling) → IsQuiet (Ruled seat number ruling)
ruling_quiet seat number ruling = search rules

-- a list says the same as itself
same_itself : (events : List Event) → SaysTheSame events events
same_itself events = search rules

-- the word that the bank is broken changes nothing of what parties have and own
pub recorded_same : (game : Game) → SaysTheSame game.events (broken_recorded game).events
recorded_same game =
    elim (breaks game.seats game.events) as (λ b. SaysTheSame game.events
    (if b then game.events ++ Broken ∷ [] else game.events)) [
      | true ↦ quiet_same game.events Broken broken_quiet
      | false ↦ same_itself game.events
    ]

-- and keeps the list nearly sound
pub nearly_sound_recorded : (game : Game) → IsNearlySound game → IsNearlySound (broken_recorded game)
nearly_sound_recorded game nearly =
    elim (breaks game.seats game.events) as (λ b. IsNearlySound
    (record { seats = game.seats; events = if b then game.events ++ Broken ∷ [] else game.events })) [
      | true ↦ nearly_sound_after game Broken tt nearly
      | false ↦ nearly
    ]
