-- The links so far are kept.
use Rattle.std.proofs.Common.{◌≡◌, ◌≤◌, length, take}
use Rattle.board.specs.KeptLinks.{held}
use Rattle.board.proofs.kept_links.KeptLinks.of.Given as goal

abbrev pub invariant-loop-link : goal.invariant-loop-link
invariant-loop-link l =
    (held l.kept ≡ take l.link-index l.given) × (l.kept.count ≡ l.link-index) × (length l.given ≤ 6)
