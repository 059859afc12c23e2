use Rattle.std.proofs.Common.{refl}
use Rattle.std.proofs.lemmas.Bool.{ne_eqb}
use Rattle.umpire.proofs.PartingLemmas.{without_newline-last}
use Rattle.umpire.proofs.input_split.without_newline.Goals as goal

pub returns-then-last-eq10 : goal.returns-then-last-eq10
returns-then-last-eq10 c = rw (
  c.in-Some.ensures.cases.0,
  without_newline-last c.in-Some.prefix.now c.in-Some.last.now,
  c.if-last-eq10.true,
) refl

pub returns-else-last-eq10 : goal.returns-else-last-eq10
returns-else-last-eq10 c =
    let other = ne_eqb c.in-Some.last.now 10 c.if-last-eq10.false in
    rw (c.in-Some.ensures.cases.0, without_newline-last c.in-Some.prefix.now c.in-Some.last.now, other) refl
