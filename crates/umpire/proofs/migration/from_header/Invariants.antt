use Rattle.std.proofs.Common.{length}
use Rattle.umpire.proofs.BodyLemmas.{AreBlank}
use Rattle.umpire.proofs.migration.from_header.Given as goal

-- the lines so far are blank
abbrev pub invariant-loop-piece : goal.invariant-loop-piece
invariant-loop-piece l = AreBlank l.file l.rest

abbrev pub decreases-loop-piece : goal.decreases-loop-piece
decreases-loop-piece l = length l.rest
