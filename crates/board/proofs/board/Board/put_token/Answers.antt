-- The index goes on to have the map state.
use Rattle.std.proofs.Common.{◌∙◌, [], ◌∷◌, length, arith, ap, length-append, map}
use Rattle.board.proofs.Indexed.{counts_low, index_with_token}
use Rattle.board.specs.KeptLinks.{held}
use Rattle.board.proofs.board.Board.put_token.Goals as goal

pub invariant_of-self-2 : goal.invariant_of-self-2
invariant_of-self-2 c =
    rw (
      c.in_ok-push.ensures.ok,
      c.add_token.ensures.tiles,
      c.add_token.ensures.links,
      c.add_token.ensures.counts,
      c.add_token.ensures.holders,
    )
    (index_with_token c.self.inside.lays.items c.self.inside.tokens.items c.self.inside.index.tiles
    (map held c.self.inside.index.links) c.self.inside.index.counts c.self.inside.index.holders c.args.place
    c.args.company c.self.invariant (omega arith) (omega arith))

pub add_token-requires : goal.add_token-requires
add_token-requires c =
    λ stop.
    let low = counts_low c.self.inside.lays.items c.self.inside.tokens.items c.self.inside.index.tiles
    (map held c.self.inside.index.links) c.self.inside.index.counts c.self.inside.index.holders c.self.invariant
    stop in
    let more = ap length c.in_ok-push.ensures.ok ∙ length-append c.self.inside.tokens.items
    ((c.args.place, c.args.company) ∷ []) in
    let lie = c.len-lie.ensures in
    let fits = c.len-lie.type_inv in
    omega (arith, low, more, lie, fits)
