-- A presidency that passes on keeps a list sound.
use Rattle.std.proofs.Common.{◌≡◌, ◌==◌, Bool, true, false, if◌then◌else◌, [], ◌∷◌, ◌++◌, Option, Some, None, refl, sym, subst}
use Rattle.certs.proofs.Presidents.{most_le}
use Rattle.certs.specs.President.{others_from, seat_shares_of, successor_of}
use Rattle.certs.specs.SaleAct.{succeeded, with_president, with_successor}
use Rattle.events.specs.declared.event.Event.TheVariants as event
use Rattle.history.proofs.Blocks.{succession_sound as succession_law}
use Rattle.totals.specs.LookBack.{Game, with_events}
use Rattle.totals.specs.Shares.{president_of}
use Rattle.history.specs.Sound.{IsSound}
use Rattle.tables.specs.declared.roster.Company.{Company}
use Rattle.history.specs.Games.{IsGame}
use Rattle.tables.specs.declared.seat.Seat.{Seat}

-- a presidency that has moved
succession_sound : (game : Game) (company : Company) (old : Seat) → president_of game.events company ≡ Some old
    → IsSound game
    → IsSound (with_events game
    (succeeded game.events company old (successor_of game.seats game.events company old)))
succession_sound game company old is sound =
    let new = successor_of game.seats game.events company old in
    elim (new.0 == old.0) as (λ (b : Bool). IsSound
    (with_events game (if b then game.events else game.events ++ event.President company new ∷ []))) [
      | true ↦ sound
      | false ↦ succession_law game company old new is
          (most_le (seat_shares_of game.events company) old (others_from game.seats old)) sound
    ]

-- the presidency that follows from a change
president_sound : (game : Game) (company : Company) → IsSound game → IsSound (with_president game company)
president_sound game company sound =
    elim (president_of game.events company) as (λ (found : Option Seat). president_of game.events company ≡ found
    → IsSound (with_events game (with_successor game company found))) [
      | None ↦ λ is. sound
      | Some old ↦ λ is. succession_sound game company old is sound
    ]
    refl

-- so a game stays one that is played
pub president_game : (game new : Game) (company : Company) → new ≡ with_president game company → IsGame game
    → IsGame new
president_game game new company recorded before =
    subst IsGame (sym recorded)
    (record { few = before.few; sound = president_sound game company before.sound })
