use Rattle.std.proofs.Common.{List, Option, ◌∷◌, ap, sym, ◌∙◌}
use Rattle.certificate.specs.declared.group.Group.{Group}
use Rattle.umpire.specs.Groups.{group_behind, groups_of}
use Rattle.umpire.proofs.VerifierLemmas.{next_used}
use Rattle.umpire.proofs.verifier.VerifierRunner.earn.Goals as goal

pub returns-clause-earns : goal.returns-clause-earns
returns-clause-earns g c =
    let head = c.in-Some.head in
    next_used (g.N.Network.position c.args.network.now) c.args.round c.args.company c.args.trains.now c.args.self.now
    (groups_of c.in_ok-read.read.rest.now) (group_behind head.line.now head.rest.now) c.in_ok-read.read.group
    c.revenue_by.result
    (sym c.self.view_is ∙ c.in-Some.ensures
    ∙ ap (λ (l : List (Option Group)). group_behind head.line.now head.rest.now ∷ l) (sym c.in_ok-read.ensures.rest))
    c.in_ok-read.ensures.group c.revenue_by.ensures.answers
