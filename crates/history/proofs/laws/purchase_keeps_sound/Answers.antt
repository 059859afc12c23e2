use Rattle.history.proofs.Purchases.{purchase_sound}
use Rattle.history.proofs.laws.purchase_keeps_sound.Goals as goal

pub returns : goal.returns
returns c = purchase_sound
