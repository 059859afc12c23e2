-- The bit is alone in its word.
use Rattle.std.proofs.Common.{refl}
use Rattle.search_task.proofs.Words.{bit_alone}
use Rattle.search_task.proofs.bit_set.BitPlace.of.Goals as goal

pub invariant_of-result : goal.invariant_of-result
invariant_of-result c = (c.index-number.ensures.bound, refl, bit_alone c.index-number.result)
