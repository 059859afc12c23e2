use Rattle.tables.proofs.Turns as turns
use Rattle.tables.proofs.laws.turns_end_soon.Goals as goal

pub returns : goal.returns
returns g c = λ play start idle begins. turns.turns_end_soon play start idle begins
