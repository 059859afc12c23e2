-- A piece of the tile is reached in the position after the lay, or none is.
use Rattle.std.proofs.Common.{sym, subst}
use Rattle.board_state.proofs.Tokens.{named_on_map}
use Rattle.board_state.specs.MapState.{position_of, with_lay}
use Rattle.reach.specs.Tokens.{AreNamed}
use Rattle.board.proofs.Connected.{connected_is}
use Rattle.board.proofs.board.Board.would_reach.Goals as goal

pub reaches_hex-requires-clause-named : goal.reaches_hex-requires-clause-named
reaches_hex-requires-clause-named c =
    let after = with_lay c.args.self.now c.args.lay in
    subst (AreNamed (position_of after) c.args.company) (sym c.laid_tokens-tokens.ensures)
    (named_on_map after c.args.company)

pub returns : goal.returns
returns c =
    let is = connected_is c.args.self.now c.args.company c.args.lay c.requires in
    (λ found. is.0 (c.reaches_hex.ensures.0 found), λ connected. c.reaches_hex.ensures.1 (is.1 connected))
