-- The ends of the links so far are kept.
use Rattle.std.proofs.Common.{◌≡◌, ◌≤◌, length, map, take}
use Rattle.certificate.specs.LinkEnds.{ends_of, held}
use Rattle.certificate.proofs.link_ends.HexEnds.of.Given as goal

abbrev pub invariant-loop-link : goal.invariant-loop-link
invariant-loop-link l =
    (held l.kept ≡ map ends_of (take l.link-index l.given)) × (l.kept.count ≡ l.link-index) × (length l.given ≤ 6)
