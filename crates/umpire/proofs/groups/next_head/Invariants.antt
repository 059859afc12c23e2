use Rattle.std.proofs.Common.{length, ◌≡◌}
use Rattle.sheets.specs.Text.{lines_of}
use Rattle.umpire.specs.Groups.{groups_in}
use Rattle.umpire.proofs.groups.next_head.Given as goal

-- no line so far begins a group
abbrev pub invariant-loop-piece : goal.invariant-loop-piece
invariant-loop-piece l = groups_in (lines_of l.rest) ≡ groups_in (lines_of l.text)

abbrev pub decreases-loop-piece : goal.decreases-loop-piece
decreases-loop-piece l = length l.rest
