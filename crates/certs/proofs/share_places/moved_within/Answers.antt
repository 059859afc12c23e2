use Rattle.std.proofs.Common.{◌≡◌, length, rules}
use Rattle.certs.proofs.Moves.{bounded_after, can_move, entries_after, more_fits}
use Rattle.certs.proofs.share_places.moved_within.Goals as goal

pub overflow_add-row : goal.overflow_add-row
overflow_add-row c =
    let eight : length c.args.row ≡ 8 = search rules in
    more_fits c.args.row c.args.from c.args.to c.args.shares c.from-shares.result
    (can_move _ _ _ _ _ eight c.requires.from c.requires.to c.ranges.shares.fits c.from-shares.ensures
    c.requires.held c.requires.bounded)

pub returns-clause-moved : goal.returns-clause-moved
returns-clause-moved c = λ k low.
    let eight : length c.args.row ≡ 8 = search rules in
    entries_after c.args.row c.args.from c.args.to c.args.shares c.from-shares.result
    (can_move _ _ _ _ _ eight c.requires.from c.requires.to c.ranges.shares.fits c.from-shares.ensures
    c.requires.held c.requires.bounded) k

pub returns-clause-bounded : goal.returns-clause-bounded
returns-clause-bounded c =
    let eight : length c.args.row ≡ 8 = search rules in
    bounded_after c.args.row c.args.from c.args.to c.args.shares c.from-shares.result
    (can_move _ _ _ _ _ eight c.requires.from c.requires.to c.ranges.shares.fits c.from-shares.ensures
    c.requires.held c.requires.bounded)
