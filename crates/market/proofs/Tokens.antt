-- A token that moves over the chart keeps a list sound.
use Rattle.std.proofs.Common.{◌≡◌, Bool, true, false, if◌then◌else◌, [], ◌∷◌, ◌++◌, Option, Some, None, refl}
use Rattle.std.proofs.Common.{sym, subst}
use Rattle.events.specs.declared.event.Event.TheVariants as event
use Rattle.history.proofs.Blocks.{move_sound as move_law}
use Rattle.totals.specs.LookBack.{Game, with_events}
use Rattle.totals.specs.Shares.{square_of}
use Rattle.history.specs.Sound.{IsSound}
use Rattle.market.specs.Token.{moved_from, moved_to, same_square, token_moved}
use Rattle.tables.specs.declared.roster.Company.{Company}
use Rattle.tables.specs.declared.squares.Square.{Square}

-- a token that has moved
token_sound : (game : Game) (its : Company) (from to : Square) → square_of game.events its ≡ Some from → IsSound game
    → IsSound (with_events game (moved_to game.events its from to))
token_sound game its from to is sound =
    elim (same_square to from) as (λ (b : Bool). IsSound
    (with_events game (if b then game.events else game.events ++ event.Moves its to ∷ []))) [
      | true ↦ sound
      | false ↦ move_law game its from to is sound
    ]

-- the move of a token
pub move_sound : (move : Square → Square) (game new : Game) (its : Company) → new ≡ token_moved move game its
    → IsSound game → IsSound new
move_sound move game new its moved sound =
    subst IsSound (sym moved) (elim (square_of game.events its) as (λ (found : Option Square).
    square_of game.events its ≡ found
    → IsSound (with_events game (moved_from move game.events its found))) [
      | None ↦ λ is. sound
      | Some square ↦ λ is. token_sound game its square (move square) is sound
    ]
    refl)
