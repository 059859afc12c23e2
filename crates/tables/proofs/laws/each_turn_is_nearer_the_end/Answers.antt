use Rattle.tables.proofs.Turns.{turns_most_falls}
use Rattle.tables.proofs.laws.each_turn_is_nearer_the_end.Goals as goal

pub returns : goal.returns
returns g c = λ play at idle going. turns_most_falls play at idle going
