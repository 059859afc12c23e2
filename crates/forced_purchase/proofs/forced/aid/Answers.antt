-- The president pays what the company lacks, which they have.
use Rattle.std.proofs.Common.{sym, ◌∙◌, arith}
use Rattle.forced_purchase.proofs.Aid.{aid_keeps_sound, aid_recorded, no_aid}
use Rattle.forced_purchase.proofs.forced.aid.Goals as goal

pub append-requires : goal.append-requires
append-requires c = omega (arith, c.lacking-amount.ensures.small)

pub returns-then-amount-eq0-clause-after : goal.returns-then-amount-eq0-clause-after
returns-then-amount-eq0-clause-after c = no_aid c.args.by c.args.history.now
    (sym c.lacking-amount.ensures.amount ∙ c.if-amount-eq0.true)

pub returns-clause-after : goal.returns-clause-after
returns-clause-after c =
    aid_recorded c.args.by c.args.history.now c.append.new.self c.lacking-amount.result
    c.lacking-amount.ensures.amount c.if-amount-eq0.false c.in_ok-append.ensures.ok

pub returns-clause-sound : goal.returns-clause-sound
returns-clause-sound c =
    aid_keeps_sound c.args.by c.args.history.now c.append.new.self c.lacking-amount.result
    c.lacking-amount.ensures.amount c.requires.at_table c.requires.enough c.in_ok-append.ensures.ok c.requires.sound
