-- The lay in hand is at the end of those that are left: it lies on the hex, or leaves what lay
-- there.
use Rattle.std.proofs.Common.{sym, ◌∙◌}
use Rattle.board_state.proofs.Tiles.{tile_here, tile_before}
use Rattle.board_state.proofs.stop_facts.tile_on.Goals as goal

pub returns-then-same_hex : goal.returns-then-same_hex
returns-then-same_hex c =
    sym (c.loop-lay.invariant.2 ∙ tile_here _ _ _ _ c.in-Some.ensures.steps
    (sym c.same_hex.ensures ∙ c.if-same_hex.true))

pub loop-lay-preserved : goal.loop-lay-preserved
loop-lay-preserved c = (
  tt,
  tt,
  c.loop-lay.invariant.2 ∙ tile_before _ _ _ _ c.in-Some.ensures.steps
      (sym c.same_hex.ensures ∙ c.if-same_hex.false),
)
