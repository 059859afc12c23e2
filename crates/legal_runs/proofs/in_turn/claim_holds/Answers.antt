use Rattle.legal_runs.proofs.InTurn.{held, not_held}
use Rattle.legal_runs.proofs.in_turn.claim_holds.Goals as goal

pub returns-then-are_taken : goal.returns-then-are_taken
returns-then-are_taken g c =
    held (g.N.Network.position c.args.network.now) c.args.company c.args.trains.now c.args.claim.now
    c.as_slice-claimed.result.now c.are_taken.result
    c.are_legal_in_turn.result c.as_slice-claimed.ensures c.are_taken.ensures c.are_legal_in_turn.ensures
    c.if-are_taken.true

pub returns-else-are_taken : goal.returns-else-are_taken
returns-else-are_taken g c =
    not_held (g.N.Network.position c.args.network.now) c.args.company c.args.trains.now c.args.claim.now
    c.as_slice-claimed.result.now c.are_taken.result
    c.as_slice-claimed.ensures c.are_taken.ensures c.if-are_taken.false
