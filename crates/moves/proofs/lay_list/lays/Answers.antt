use Rattle.std.proofs.Common.{[]}
use Rattle.board.specs.LayRules.{IsLayAnswer}
use Rattle.map_tables.specs.Hex.{hexes}
use Rattle.moves.specs.Candidates.{lays_on}
use Rattle.moves.proofs.ListedLemmas.{listed_from_none, lists_done, lists_next, lists_none}
use Rattle.moves.proofs.lay_list.lays.Goals as goal

pub loop-hex-init : goal.loop-hex-init
loop-hex-init c = lists_none (IsLayAnswer c.args.board.now c.args.asker.now) [] _ c.new-lays.ensures.items

pub loop-hex-preserved : goal.loop-hex-preserved
loop-hex-preserved c =
    lists_next (IsLayAnswer c.args.board.now c.args.asker.now) lays_on _ c.loop-hex.hex-index _ _ _ _ c.loop-hex-test.true c.loop-hex.invariant
    c.in_ok-push_lays_on.ensures

pub returns : goal.returns
unfolding hexes
returns c = listed_from_none (IsLayAnswer c.args.board.now c.args.asker.now) _ _ (lists_done (IsLayAnswer c.args.board.now c.args.asker.now) lays_on hexes c.loop-hex.hex-index _ _ c.loop-hex-test.false c.loop-hex.invariant)
