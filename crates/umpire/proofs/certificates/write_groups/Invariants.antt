use Rattle.std.proofs.Common.{◌≡◌, false, drop}
use Rattle.std.specs.List.{flat_map}
use Rattle.umpire.specs.Written.{group_text}
use Rattle.umpire.proofs.Parts.{LeavesRest}
use Rattle.umpire.proofs.certificates.write_groups.Given as goal

-- the texts of the groups ahead are left, and no call failed
pub record Writing (g : goal.Over) (l : goal.Live-loop-group g) : Type 0 where
  pub left :
      LeavesRest (g.W.Write.contents l.fn.writer.inner) (g.W.Write.contents l.writer.inner)
      (flat_map group_text l.groups)
      (flat_map group_text (drop l.group-index l.groups))
  pub unfailed : l.writer.failed ≡ false

abbrev pub invariant-loop-group : goal.invariant-loop-group
invariant-loop-group g l = Writing g l
