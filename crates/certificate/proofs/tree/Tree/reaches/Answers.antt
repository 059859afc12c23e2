-- A stop is found by its place in the order of the map.
use Rattle.legal_runs.specs.Fault.{has_stop}
use Rattle.certificate.specs.Walking.{reached_in}
use Rattle.legal_runs.proofs.Joined.{has_stop_is}
use Rattle.certificate.proofs.tree.Tree.reaches.Goals as goal
use Rattle.tables.proofs.Tests.{same_bool}

pub returns : goal.returns
returns c =
    let found = has_stop_is c.args.stop (reached_in c.args.self.now) in
    same_bool c.has.result (has_stop c.args.stop (reached_in c.args.self.now)) (λ yes. found.1 (c.has.ensures.0 yes))
    (λ yes. c.has.ensures.1 (found.0 yes))
