use Rattle.std.proofs.Common.{◌∙◌}
use Rattle.page_map.proofs.TileLemmas.{left_by_shown}
use Rattle.page_map.proofs.tiles_shown.left_beside.Goals as goal

pub returns : goal.returns
returns c = λ lays is. c.left_of.ensures ∙ left_by_shown lays c.args.shown.now c.args.number is
