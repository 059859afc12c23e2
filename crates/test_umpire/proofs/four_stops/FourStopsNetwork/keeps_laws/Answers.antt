use Rattle.test_umpire.proofs.FourStops.{lawful}
use Rattle.test_umpire.proofs.four_stops.FourStopsNetwork.keeps_laws.Goals as goal

pub returns : goal.returns
returns c = lawful c.neighbours_pair.ensures
