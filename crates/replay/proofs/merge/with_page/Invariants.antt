use Rattle.std.proofs.Common.{◌≤◌, length}
use Rattle.replay.specs.Shown.{texts}
use Rattle.replay.proofs.ShownLemmas.{Merging}
use Rattle.replay.proofs.merge.with_page.Given as goal

-- some parts of the page are taken, and merged with the first parts of the pages before
abbrev pub invariant-loop-old : goal.invariant-loop-old
invariant-loop-old l =
    (l.taken ≤ length l.page) × Merging l.initial.rest.items l.rest.items l.parts.items (texts l.page) l.taken l.number

abbrev pub decreases-loop-old : goal.decreases-loop-old
decreases-loop-old l = length l.rest.items
