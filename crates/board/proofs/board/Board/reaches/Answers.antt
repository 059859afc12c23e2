-- The stop that a place names is reached, or it names none.
use Rattle.std.proofs.Common.{sym, subst}
use Rattle.board_state.proofs.Tokens.{named_on_map}
use Rattle.board_state.specs.MapState.{position_of}
use Rattle.reach.specs.Tokens.{AreNamed}
use Rattle.board.proofs.board.Board.reaches.Goals as goal

pub reaches_stop-requires : goal.reaches_stop-requires
reaches_stop-requires c =
    subst (AreNamed (position_of c.args.self.now) c.args.company) (sym c.laid_tokens-tokens.ensures)
    (named_on_map c.args.self.now c.args.company)
