-- The index goes on to have the map state.
use Rattle.std.proofs.Common.{arith, map}
use Rattle.std.proofs.lemmas.List.{length-map}
use Rattle.board.proofs.Indexed.{index_with_lay}
use Rattle.reach.proofs.Hexes.{index_low}
use Rattle.board.specs.KeptLinks.{held}
use Rattle.board.proofs.board.Board.put_lay.Goals as goal

pub invariant_of-self-2 : goal.invariant_of-self-2
invariant_of-self-2 c =
    rw (
      c.in_ok-push.ensures.items,
      c.add_lay.ensures.tiles,
      c.add_lay.ensures.links,
      c.add_lay.ensures.counts,
      c.add_lay.ensures.holders,
    )
    (index_with_lay c.self.inside.lays.items c.self.inside.tokens.items c.self.inside.index.tiles
    (map held c.self.inside.index.links) c.self.inside.index.counts c.self.inside.index.holders c.args.lay
    c.self.invariant (omega (arith, index_low c.args.lay.hex))
    (omega (arith, index_low c.args.lay.hex, length-map c.self.inside.index.links held)))
