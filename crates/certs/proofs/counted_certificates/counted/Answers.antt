use Rattle.std.proofs.Common.{◌≡◌, ◌+ℤ◌, ◌<◌, List, ℤ, get_or, pos, ap, ◌∙◌, rules}
use Rattle.certs.proofs.Counts.{counted_all, counted_more, low_fits, low_more}
use Rattle.certs.specs.Counted.{certificates_in, privates_owned}
use Rattle.totals.specs.LookBack.{owner_in}
use Rattle.tables.specs.Roster.{companies}
use Rattle.tables.specs.declared.roster.Company.{Company}
use Rattle.tables.specs.declared.roster.Company.TheVariants.{Pennsylvania}
use Rattle.certs.proofs.counted_certificates.counted.Goals as goal
use mir.Syntax.{w128}
use mir.Val.{to_z}

pub overflow_add-count : goal.overflow_add-count
overflow_add-count g c =
    let within : c.loop-company.company-index < 8 = search rules in
    low_fits (to_z w128 c.loop-company.count-bits) c.certificates_of-count.result c.loop-company.company-index within
    c.loop-company.invariant.low c.certificates_of-count.ensures.small

pub loop-company-preserved : goal.loop-company-preserved
loop-company-preserved g c =
    let before = c.loop-company.invariant in
    let within : c.loop-company.company-index < 8 = search rules in
    let of : Company → ℤ = g.C.Certificates.certificates c.args.held.now c.args.seat in
    let whole : ℤ = pos (privates_owned (owner_in c.args.owners.now) c.args.seat) +ℤ certificates_in of companies in
    record {
      items = before.items;
      low = low_more (to_z w128 c.loop-company.count-bits) c.certificates_of-count.result c.loop-company.company-index
          within before.low c.certificates_of-count.ensures.small;
      whole = counted_more of (to_z w128 c.loop-company.count-bits) c.certificates_of-count.result whole
          c.loop-company.company-index within before.low c.certificates_of-count.ensures.small
          (c.certificates_of-count.ensures.certificates ∙ ap
          (λ (items : List Company). of (get_or items c.loop-company.company-index Pennsylvania)) before.items)
          before.whole;
    }

pub returns : goal.returns
returns g c =
    let of : Company → ℤ = g.C.Certificates.certificates c.args.held.now c.args.seat in
    let whole : ℤ = pos (privates_owned (owner_in c.args.owners.now) c.args.seat) +ℤ certificates_in of companies in
    let all : c.loop-company.company-index ≡ 8 = search rules in
    counted_all of (to_z w128 c.loop-company.count-bits) whole c.loop-company.company-index all
    c.loop-company.invariant.whole
