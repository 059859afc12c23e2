use Rattle.std.proofs.Common.{refl}
use Rattle.board.specs.LayRules.{IsLayAnswer}
use Rattle.map_tables.specs.Side.{rotations}
use Rattle.moves.specs.Candidates.{lays_at}
use Rattle.moves.proofs.ListedLemmas.{lists_done, lists_next, lists_none}
use Rattle.desk_map_rules.proofs.lays.push_lays_of_tile.Goals as goal

pub loop-rotation-init : goal.loop-rotation-init
loop-rotation-init c = lists_none (IsLayAnswer c.args.board.now c.args.asker.now) _ _ refl

pub loop-rotation-preserved : goal.loop-rotation-preserved
loop-rotation-preserved c =
    lists_next (IsLayAnswer c.args.board.now c.args.asker.now) (lays_at c.args.hex c.args.tile) _ c.loop-rotation.rotation-index _ _ _ _ c.loop-rotation-test.true c.loop-rotation.invariant
    c.in_ok-push_lays_at.ensures

pub returns : goal.returns
returns c = lists_done (IsLayAnswer c.args.board.now c.args.asker.now) (lays_at c.args.hex c.args.tile) rotations c.loop-rotation.rotation-index _ _ c.loop-rotation-test.false c.loop-rotation.invariant
