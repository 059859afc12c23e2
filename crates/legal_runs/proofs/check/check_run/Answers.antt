-- The tally of the run gives the first rule that it breaks, what it earns and what it crosses.
use Rattle.std.proofs.Common.{Bool, List, sym, ap, subst, length, arith, refl}
use Rattle.std.proofs.lemmas.Int.{to_z-of_z}
use Rattle.legal_runs.specs.Fault.{named_steps}
use Rattle.legal_runs.specs.Legal.{crossed}
use Rattle.legal_runs.specs.Marks.{AreAdded, borders_used}
use Rattle.legal_runs.proofs.TallyOfWalk.{crossed_added}
use Rattle.legal_runs.proofs.Lawful.{legal_where_unbroken, none_where_broken}
use Rattle.legal_runs.proofs.Ruled.{no_track, ruled, value_kept, crossed_kept}
use Rattle.legal_runs.proofs.check.check_run.Goals as goal

pub returns-in_default-clause-first_fault : goal.returns-in_default-clause-first_fault
returns-in_default-clause-first_fault g c = grind (arith, no_track)

pub returns-in-Some-fault-clause-first_fault : goal.returns-in-Some-fault-clause-first_fault
returns-in-Some-fault-clause-first_fault g c = grind (arith, ruled)

pub returns-clause-no_fault : goal.returns-clause-no_fault
returns-clause-no_fault g c = grind (arith, ruled)

pub returns-clause-earns : goal.returns-clause-earns
returns-clause-earns g c = grind (arith, to_z-of_z, value_kept)

pub returns-clause-crosses : goal.returns-clause-crosses
returns-clause-crosses g c = grind (arith, crossed_kept)

pub returns-in_default-clause-exact : goal.returns-in_default-clause-exact
returns-in_default-clause-exact g c = (
  λ wrong. absurd cc,
  none_where_broken (g.N.Network.position c.args.network.now) c.args.company c.args.kind
      (borders_used c.args.used.now) c.args.run.now _ (returns-in_default-clause-first_fault g c),
)

pub returns-in-Some-fault-clause-exact : goal.returns-in-Some-fault-clause-exact
returns-in-Some-fault-clause-exact g c = (
  λ wrong. absurd cc,
  none_where_broken (g.N.Network.position c.args.network.now) c.args.company c.args.kind
      (borders_used c.args.used.now) c.args.run.now _ (returns-in-Some-fault-clause-first_fault g c),
)

pub returns-clause-exact : goal.returns-clause-exact
returns-clause-exact g c = (
  λ yes. (legal_where_unbroken (g.N.Network.position c.args.network.now) c.args.company c.args.kind
      (borders_used c.args.used.now) c.args.run.now).0 (returns-clause-no_fault g c),
  λ run. refl,
)

pub returns-clause-added : goal.returns-clause-added
returns-clause-added g c =
    subst (λ (marks : List Bool). AreAdded (crossed
    (named_steps (g.N.Network.position c.args.network.now) c.args.run.now)) (borders_used c.args.used.now)
    (borders_used marks))
    (sym (returns-clause-crosses g c))
    (crossed_added c.args.used.now (named_steps (g.N.Network.position c.args.network.now) c.args.run.now)
    (omega (arith, c.used.invariant, ap length c.used.view_is)))
