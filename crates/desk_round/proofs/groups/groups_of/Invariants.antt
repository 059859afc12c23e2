use Rattle.std.proofs.Common.{◌≡◌, take}
use Rattle.std.specs.List.{fold}
use Rattle.desk_round.specs.Groups.{GroupsSoFar, groups_then, no_groups}
use Rattle.desk_round.proofs.groups.groups_of.Given as goal

-- the groups of the events so far
abbrev pub invariant-loop-passed : goal.invariant-loop-passed
invariant-loop-passed l =
    ◌≡◌ {A = GroupsSoFar} (record { now = l.now; passed = l.passed; groups = l.groups.items })
    (fold (groups_then l.lines l.round) no_groups (take l.passed l.events))
