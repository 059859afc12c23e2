use Rattle.std.proofs.Common.{Some, ap, sym, subst, ◌∙◌, arith}
use Rattle.history.proofs.PrivateActs.{private_sound}
use Rattle.history.specs.Sound.{IsSound}
use Rattle.purchases.proofs.PrivateLemmas.{may_sell}
use Rattle.purchases.proofs.private.buy_from.Goals as goal

pub append-requires : goal.append-requires
append-requires c =
    let may = may_sell c.args.history.now c.args.company c.args.private c.args.price c.requires.may in
    omega (arith, may.small)

pub returns-clause-sound : goal.returns-clause-sound
returns-clause-sound c =
    let may = may_sell c.args.history.now c.args.company c.args.private c.args.price c.requires.may in
    subst IsSound (sym c.in_ok-append.ensures.ok)
    (private_sound c.args.history.now c.args.private c.args.company _ c.args.price
    (c.requires.owner ∙ ap Some c.in-Seat.is) may.pays c.requires.sound)
