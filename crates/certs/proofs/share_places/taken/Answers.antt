use Rattle.std.proofs.Common.{◌≡◌, length, rules}
use Rattle.certs.proofs.Moves.{bounded_taken, can_move, entries_taken}
use Rattle.certs.proofs.share_places.taken.Goals as goal

pub returns-clause-taken : goal.returns-clause-taken
returns-clause-taken c =
    let eight : length c.args.row ≡ 8 = search rules in
    entries_taken c.args.row c.args.from c.args.shares c.from-shares.result
    (can_move _ _ _ _ _ eight c.requires.from c.requires.from c.ranges.shares.fits c.from-shares.ensures
    c.requires.held c.requires.bounded)

pub returns-clause-bounded : goal.returns-clause-bounded
returns-clause-bounded c =
    let eight : length c.args.row ≡ 8 = search rules in
    bounded_taken c.args.row c.args.from c.args.shares c.from-shares.result
    (can_move _ _ _ _ _ eight c.requires.from c.requires.from c.ranges.shares.fits c.from-shares.ensures
    c.requires.held c.requires.bounded)
