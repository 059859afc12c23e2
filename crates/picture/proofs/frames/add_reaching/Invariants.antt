use Rattle.std.proofs.Common.{◌≡◌, ◌++◌, filter, take}
use Rattle.picture.specs.Frames.{meets}
use Rattle.picture.proofs.frames.add_reaching.Given as goal

-- those of the frames so far that reach into the room are added
abbrev pub invariant-loop-frame : goal.invariant-loop-frame
invariant-loop-frame l =
    l.near.items ≡ l.initial.near.items ++ filter (λ frame. meets frame l.room) (take l.frame-index l.frames)
