use Rattle.page_routes.proofs.LaneLemmas.{shift_by}
use Rattle.page_routes.specs.Lanes.{border_at}
use Rattle.page_routes.proofs.lanes.shift_at.Goals as goal

pub returns : goal.returns
returns c =
    shift_by (border_at c.args.hex c.args.side) c.border_at.result c.args.routes.now c.args.turned.now c.args.number
    c.lane_at-lane.result.lane c.lane_at-lane.result.lanes c.args.side c.lane_shift.result c.border_at.ensures
    c.lane_at-lane.ensures.lane c.lane_at-lane.ensures.lanes c.lane_shift.ensures
