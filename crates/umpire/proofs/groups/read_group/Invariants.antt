use Rattle.std.proofs.Common.{length, ◌≡◌}
use Rattle.std.specs.Prelude.{Some}
use Rattle.sheets.specs.Text.{lines_of}
use Rattle.umpire.specs.Groups.{group_behind, groups_in, with_lines}
use Rattle.umpire.proofs.groups.read_group.Given as goal

-- the group so far makes the group with the lines ahead, which have all other groups
abbrev pub invariant-loop-piece : goal.invariant-loop-piece
invariant-loop-piece l =
    (with_lines (lines_of l.rest) (Some l.group) ≡ group_behind l.head l.text)
    × (groups_in (lines_of l.rest) ≡ groups_in (lines_of l.text))

abbrev pub decreases-loop-piece : goal.decreases-loop-piece
decreases-loop-piece l = length l.rest
