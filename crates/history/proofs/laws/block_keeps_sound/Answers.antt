use Rattle.history.proofs.Blocks.{block_sound, block_with_succession_sound}
use Rattle.history.proofs.laws.block_keeps_sound.Goals as goal

pub returns-clause-stays : goal.returns-clause-stays
returns-clause-stays c = block_sound

pub returns-clause-passes : goal.returns-clause-passes
returns-clause-passes c = block_with_succession_sound
