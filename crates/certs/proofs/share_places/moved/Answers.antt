use Rattle.std.proofs.Common.{◌≡◌, length, rules}
use Rattle.certs.proofs.Moves.{moved_out, none_moved}
use Rattle.certs.proofs.share_places.moved.Goals as goal

pub returns-then-from-ge8-clause-moved : goal.returns-then-from-ge8-clause-moved
returns-then-from-ge8-clause-moved c =
    let eight : length c.args.row ≡ 8 = search rules in
    none_moved c.args.row c.args.from c.args.to c.args.shares eight c.if-from-ge8.true c.requires.held

pub returns-then-to-ge8-clause-moved : goal.returns-then-to-ge8-clause-moved
returns-then-to-ge8-clause-moved c =
    moved_out c.args.row c.taken.result c.args.from c.args.to c.args.shares c.if-to-ge8.true c.taken.ensures.taken
