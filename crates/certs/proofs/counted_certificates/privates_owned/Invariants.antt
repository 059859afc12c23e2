use Rattle.std.proofs.Common.{◌≡◌, ◌≤◌, take, sum_by}
use Rattle.certs.specs.Counted.{one_owned}
use Rattle.totals.specs.LookBack.{owner_in}
use Rattle.tables.specs.Roster.{privates}
use Rattle.certs.proofs.counted_certificates.privates_owned.Given as goal

-- the privates so far are counted
abbrev pub invariant-loop-private : goal.invariant-loop-private
invariant-loop-private l =
    (l.private-items ≡ privates)
    × (l.count ≡ sum_by (λ private. one_owned l.seat (owner_in l.owners private))
    (take l.private-index l.private-items))
    × (l.count ≤ l.private-index)
