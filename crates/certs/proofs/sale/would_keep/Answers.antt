use Rattle.std.proofs.Common.{arith}
use Rattle.std.proofs.lemmas.Int.{ints}
use Rattle.certs.proofs.sale.would_keep.Goals as goal

pub returns-clause-not_over : goal.returns-clause-not_over
returns-clause-not_over c =
    let under = c.shares.ensures.within.not_under in
    let over = c.shares.ensures.within.not_over in
    let sum = c.from.ensures in
    omega (arith, ints, under, over, sum)
