use Rattle.std.proofs.Common.{ℕ, ◌≤◌, Some, get_or, set, length, length-set, refl, sym, ◌∙◌, subst, arith}
use Rattle.map_tables.specs.declared.place.Stop.{Stop}
use Rattle.certificate.proofs.Going.{default_stop}
use Rattle.certificate.proofs.KnownStops.{AreSo, known_more, known_none}
use Rattle.certificate.proofs.known_stops.KnownStops.of.Goals as goal

pub loop-stop-init : goal.loop-stop-init
loop-stop-init g c = (refl, known_none (g.N.Network.position c.args.network.now) c.args.company 186)

pub loop-stop-preserved : goal.loop-stop-preserved
loop-stop-preserved g c =
    let position = g.N.Network.position c.args.network.now in
    let stop : Stop = get_or c.stops-stop-items.result.now c.loop-stop.stop-index default_stop in
    let long : 186 ≤ length c.loop-stop.facts = omega (arith, c.loop-stop.invariant.0) in (
      length-set c.loop-stop.facts c.stop_order.result (Some c.of.result) ∙ c.loop-stop.invariant.0,
      subst (λ (n : ℕ). AreSo position c.args.company (set c.loop-stop.facts n (Some c.of.result)))
          (sym c.stop_order.ensures.value)
          (known_more position c.args.company c.loop-stop.facts stop c.of.result long c.loop-stop.invariant.1 c.of.ensures),
    )
