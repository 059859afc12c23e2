use Rattle.std.proofs.Common.{◌≡◌, ◌+ℤ◌, ℤ, drop, pos}
use Rattle.certs.proofs.Counts.{IsLow}
use Rattle.certs.specs.Counted.{certificates_in, privates_owned}
use Rattle.totals.specs.LookBack.{owner_in}
use Rattle.tables.specs.Roster.{companies}
use Rattle.tables.specs.declared.roster.Company.{Company}
use Rattle.certs.proofs.counted_certificates.counted.Given as goal

-- the companies so far are counted, and those that are still to come make the whole
abbrev pub invariant-loop-company : goal.invariant-loop-company
invariant-loop-company g l =
    let of : Company → ℤ = g.C.Certificates.certificates l.held l.fn.seat in
    record {
      items : l.company-items ≡ companies;
      low : IsLow l.count l.company-index;
      whole : l.count +ℤ certificates_in of (drop l.company-index companies)
          ≡ pos (privates_owned (owner_in l.fn.owners) l.fn.seat) +ℤ certificates_in of companies;
    }
