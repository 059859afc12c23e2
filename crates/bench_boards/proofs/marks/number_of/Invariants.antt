use Rattle.std.proofs.Common.{length}
use Rattle.bench_boards.proofs.marks.number_of.Given as goal

abbrev pub decreases-loop-count : goal.decreases-loop-count
decreases-loop-count l = length l.reader
