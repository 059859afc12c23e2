-- the presidents of the companies so far
use Rattle.std.proofs.Common.{◌≡◌, map, take}
use Rattle.totals.specs.Shares.{president_of}
use Rattle.page_lays.proofs.offers.presidents.Given as goal

abbrev pub invariant-loop-company : goal.invariant-loop-company
invariant-loop-company l =
    l.presidents.items ≡ map (president_of l.history.events) (take l.company-index l.company-items)
