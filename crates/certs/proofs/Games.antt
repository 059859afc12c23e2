-- What keeps a game one that is played.
use Rattle.std.proofs.Common.{◌≡◌, ap}
use Rattle.history.specs.Games.{IsGame}
use Rattle.market.proofs.Tokens.{move_sound}
use Rattle.market.specs.Token.{token_moved}
use Rattle.tables.specs.declared.roster.Company.{Company}
use Rattle.tables.specs.declared.squares.Square.{Square}
use Rattle.totals.specs.LookBack.{Game}

-- the move of a token
pub move_game : (move : Square → Square) (game new : Game) (its : Company) → new ≡ token_moved move game its
    → IsGame game → IsGame new
move_game move game new its moved before =
    record {
      few = rw (ap (λ (game : Game). game.seats) moved) before.few;
      sound = move_sound move game new its moved before.sound;
    }
