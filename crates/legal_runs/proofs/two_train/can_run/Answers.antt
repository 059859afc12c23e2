-- The hex in hand comes after those before it.
use Rattle.std.proofs.Common.{refl, arith}
use Rattle.reach.specs.Position.{Position}
use Rattle.reach.proofs.Collected.{own_hex}
use Rattle.reach.proofs.Hexes.{index_low}
use Rattle.legal_runs.proofs.TwoTrain.{run_begins, run_found}
use Rattle.legal_runs.proofs.two_train.can_run.Goals as goal

pub returns-then-leaves_hex : goal.returns-then-leaves_hex
returns-then-leaves_hex g c =
    let position : Position = g.N.Network.position c.args.network.now in
    let found = c.leaves_hex.ensures.0 c.if-leaves_hex.true in (
      λ yes. run_found position c.args.company found.0
          (own_hex position c.keeps_laws.ensures c.at_index.result found.0.link found.1) found.2,
      λ can. refl,
    )

pub loop-index-preserved : goal.loop-index-preserved
loop-index-preserved g c = grind arith

pub returns : goal.returns
returns g c =
    let position : Position = g.N.Network.position c.args.network.now in (
      λ wrong. absurd cc,
      λ can.
          let first = run_begins position c.keeps_laws.ensures c.args.company can in
          absurd (c.loop-index.invariant first.0 (omega (arith, c.loop-index-test.false, index_low first.0.link.hex))
          first.1 first.2),
    )
