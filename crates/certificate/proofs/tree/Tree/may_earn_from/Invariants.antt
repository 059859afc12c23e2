-- What the groups before earn is known, and what those after it earn from where they begin.
use Rattle.std.proofs.Common.{◌≡◌, ◌+◌, ◌≤◌, drop}
use Rattle.certificate.specs.Walked.{capped}
use Rattle.certificate.specs.Walking.{earned_from}
use Rattle.certificate.proofs.tree.Tree.may_earn_from.Given as goal

abbrev pub invariant-loop-group : goal.invariant-loop-group
invariant-loop-group l =
    (capped (l.sum + earned_from (drop l.group-index l.group-items) l.before)
    ≡ capped (earned_from l.self.groups l.fn.place)) × (l.sum ≤ 18446744073709551615)
