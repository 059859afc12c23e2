use Rattle.std.proofs.Common.{◌≡◌, ◌≤◌, length, map, take}
use Rattle.picture.specs.Curves.{ends_of_curve, ends_of_link}
use Rattle.picture.proofs.curve.curves_of.Given as goal

-- the curves so far have the ends of the links so far
abbrev pub invariant-loop-link : goal.invariant-loop-link
invariant-loop-link l =
    (map ends_of_curve l.track.items ≡ map (ends_of_link l.places) (take l.link-index l.links))
    × (length l.track.items ≡ l.link-index) × (length l.links ≤ 6)
