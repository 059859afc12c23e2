use Rattle.std.proofs.Common.{[]}
use Rattle.board.specs.TokenRules.{IsTokenAnswer}
use Rattle.map_tables.specs.Hex.{hexes}
use Rattle.moves.specs.Candidates.{places_in}
use Rattle.moves.proofs.ListedLemmas.{listed_from_none, lists_done, lists_next, lists_none}
use Rattle.moves.proofs.token_list.tokens.Goals as goal

pub loop-hex-init : goal.loop-hex-init
loop-hex-init c = lists_none (IsTokenAnswer c.args.board.now c.args.asker.now) [] _ c.new-tokens.ensures.items

pub loop-hex-preserved : goal.loop-hex-preserved
loop-hex-preserved c =
    lists_next (IsTokenAnswer c.args.board.now c.args.asker.now) places_in _ c.loop-hex.hex-index _ _ _ _ c.loop-hex-test.true c.loop-hex.invariant
    c.in_ok-push_tokens_in.ensures

pub returns : goal.returns
unfolding hexes
returns c = listed_from_none (IsTokenAnswer c.args.board.now c.args.asker.now) _ _ (lists_done (IsTokenAnswer c.args.board.now c.args.asker.now) places_in hexes c.loop-hex.hex-index _ _ c.loop-hex-test.false c.loop-hex.invariant)
