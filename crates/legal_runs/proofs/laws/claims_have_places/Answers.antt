use Rattle.legal_runs.proofs.ClaimedPlaces.{claims_have_places}
use Rattle.legal_runs.proofs.laws.claims_have_places.Goals as goal

pub returns : goal.returns
returns c = claims_have_places
