use Rattle.std.proofs.Common.{◌≡◌, drop}
use Rattle.std.specs.List.{find}
use Rattle.picture.specs.Frames.{fits}
use Rattle.picture.proofs.frames.first_free.Given as goal

-- the first that is free is among those that are not looked at yet
abbrev pub invariant-loop-place : goal.invariant-loop-place
invariant-loop-place l =
    find (fits l.room l.taken l.half) (drop l.place-index l.places) ≡ find (fits l.room l.taken l.half) l.places
