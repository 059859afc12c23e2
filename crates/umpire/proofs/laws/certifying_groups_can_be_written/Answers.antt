use Rattle.umpire.proofs.Writable.{certifying_can}
use Rattle.umpire.proofs.laws.certifying_groups_can_be_written.Goals as goal

pub returns : goal.returns
returns c = certifying_can c.calls_are_named.ensures c.claims_have_places.ensures
