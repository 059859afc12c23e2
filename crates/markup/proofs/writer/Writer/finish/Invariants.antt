use Rattle.std.proofs.Common.{◌≡◌, length}
use Rattle.markup.specs.declared.writer.WriterPlace.TheVariants.{Between}
use Rattle.markup.proofs.writer.Writer.finish.Given as goal

abbrev pub invariant-loop-writer : goal.invariant-loop-writer
invariant-loop-writer l = l.writer.spot ≡ Between

abbrev pub decreases-loop-writer : goal.decreases-loop-writer
decreases-loop-writer l = length l.writer.stack.items
