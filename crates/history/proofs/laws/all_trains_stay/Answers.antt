use Rattle.totals.proofs.AllTrains.{trains_stay}
use Rattle.history.proofs.laws.all_trains_stay.Goals as goal

pub returns : goal.returns
returns c = trains_stay
