use Rattle.std.proofs.Common.{◌≡◌, false, sym, ◌∙◌, arith}
use Rattle.std.proofs.lemmas.Bool.Decides.{nat_tests}
use Rattle.foresight.proofs.TurnsAhead.{leaves_fewer, others_too}
use Rattle.tables.specs.Roster.{same_company}
use Rattle.foresight.proofs.round_ahead.RoundAhead.orders_of.Goals as goal

pub loop-next-smaller : goal.loop-next-smaller
loop-next-smaller c =
    leaves_fewer c.company_operates.ensures c.floated_companies_in_order.ensures c.in-Some.next c.loop-next.ahead
    c.in_ok-ahead.ahead (sym c.next_company.ensures ∙ c.in-Some.is) c.in_ok-ahead.ensures

pub loop-next-preserved : goal.loop-next-preserved
loop-next-preserved c =
    let other : same_company c.in-Some.next c.args.company ≡ false =
    grind (arith, nat_tests, c.eq.ensures, c.if-eq.false) in
    others_too c.args.company c.in-Some.next c.args.self c.loop-next.ahead c.in_ok-ahead.ahead c.loop-next.invariant
    (sym c.next_company.ensures ∙ c.in-Some.is) c.in_ok-ahead.ensures other
