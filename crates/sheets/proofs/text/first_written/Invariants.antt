use Rattle.std.proofs.Common.{List, [], ℕ, length}
use Rattle.sheets.specs.Text.{BeginsWith}
use Rattle.sheets.proofs.text.first_written.Given as goal

abbrev pub invariant-loop-piece : goal.invariant-loop-piece
invariant-loop-piece l = (prefix : List ℕ) × BeginsWith prefix [] l.rest l.text

abbrev pub decreases-loop-piece : goal.decreases-loop-piece
decreases-loop-piece l = length l.rest
