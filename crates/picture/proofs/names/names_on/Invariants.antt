use Rattle.picture.specs.Names.{ArePlaced}
use Rattle.picture.proofs.names.names_on.Given as goal

-- the names so far are placed
abbrev pub invariant-loop-hex : goal.invariant-loop-hex
invariant-loop-hex l = ArePlaced l.kept.signs.now l.kept.lines.now l.names.items
