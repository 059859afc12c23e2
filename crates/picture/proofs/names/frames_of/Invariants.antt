use Rattle.std.proofs.Common.{◌≡◌, map, take}
use Rattle.picture.specs.Names.{frame_of_name}
use Rattle.picture.proofs.names.frames_of.Given as goal

-- the frames so far are those of the names so far
abbrev pub invariant-loop-name : goal.invariant-loop-name
invariant-loop-name l = l.frames.items ≡ map frame_of_name (take l.name-index l.names)
