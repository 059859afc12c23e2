-- The train is among the groups that are left.
use Rattle.std.proofs.Common.{◌≡◌, drop}
use Rattle.certificate.specs.Walking.{kind_from}
use Rattle.certificate.proofs.tree.Tree.kind_at.Given as goal

abbrev pub invariant-loop-group : goal.invariant-loop-group
invariant-loop-group l = kind_from (drop l.group-index l.group-items) l.before ≡ kind_from l.self.groups l.fn.place
