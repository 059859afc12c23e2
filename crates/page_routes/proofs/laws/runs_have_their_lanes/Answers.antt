use Rattle.page_routes.proofs.LaneLemmas.{lanes_differ}
use Rattle.page_routes.proofs.laws.runs_have_their_lanes.Goals as goal

pub returns : goal.returns
returns c = lanes_differ
