use Rattle.history.proofs.Blocks.{move_sound}
use Rattle.history.proofs.laws.move_keeps_sound.Goals as goal

pub returns : goal.returns
returns c = move_sound
