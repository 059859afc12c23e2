use Rattle.std.proofs.Common.{refl}
use Rattle.board.specs.LayRules.{IsLayAnswer}
use Rattle.map_tables.specs.Tile.{tiles}
use Rattle.moves.specs.Candidates.{lays_of_tile}
use Rattle.moves.proofs.ListedLemmas.{lists_done, lists_next, lists_none}
use Rattle.desk_map_rules.proofs.lays.push_lays_on.Goals as goal

pub loop-tile-init : goal.loop-tile-init
loop-tile-init c = lists_none (IsLayAnswer c.args.board.now c.args.asker.now) _ _ refl

pub loop-tile-preserved : goal.loop-tile-preserved
loop-tile-preserved c =
    lists_next (IsLayAnswer c.args.board.now c.args.asker.now) (lays_of_tile c.args.hex) _ c.loop-tile.tile-index _ _ _ _ c.loop-tile-test.true c.loop-tile.invariant
    c.in_ok-push_lays_of_tile.ensures

pub returns : goal.returns
unfolding tiles
returns c = lists_done (IsLayAnswer c.args.board.now c.args.asker.now) (lays_of_tile c.args.hex) tiles c.loop-tile.tile-index _ _ c.loop-tile-test.false c.loop-tile.invariant
