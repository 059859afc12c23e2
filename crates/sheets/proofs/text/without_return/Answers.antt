use Rattle.std.proofs.Common.{refl}
use Rattle.std.proofs.lemmas.Bool.{ne_eqb}
use Rattle.sheets.proofs.TextLemmas.{without_return-last}
use Rattle.sheets.proofs.text.without_return.Goals as goal

pub returns-then-last-eq13 : goal.returns-then-last-eq13
returns-then-last-eq13 c = rw (
  c.in-Some.ensures.cases.0,
  without_return-last c.in-Some.prefix.now c.in-Some.last.now,
  c.if-last-eq13.true,
) refl

pub returns-else-last-eq13 : goal.returns-else-last-eq13
returns-else-last-eq13 c =
    let other = ne_eqb c.in-Some.last.now 13 c.if-last-eq13.false in
    rw (c.in-Some.ensures.cases.0, without_return-last c.in-Some.prefix.now c.in-Some.last.now, other) refl
