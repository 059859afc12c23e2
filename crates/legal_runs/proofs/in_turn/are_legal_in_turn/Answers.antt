-- Each run that is legal and earns no more than what is left takes one step of what is legal in turn.
use Rattle.std.proofs.Common.{◌≡◌, ℕ, suc, ◌+◌, ◌-◌, ◌≤◌, Bool, List, ◌∷◌, drop, drop-cons, add-one, refl, sym, ap, subst}
use Rattle.std.proofs.Common.{◌∙◌, arith}
use Rattle.std.proofs.lemmas.Int.{to_z-of_z}
use mir.Syntax.{w128}
use Rattle.legal_runs.specs.Fault.{named_steps}
use Rattle.legal_runs.specs.InTurn.{AreLegalInTurn}
use Rattle.legal_runs.specs.Legal.{earned}
use Rattle.legal_runs.specs.declared.claim.ClaimedRun.{ClaimedRun}
use Rattle.legal_runs.proofs.in_turn.are_legal_in_turn.Goals as goal

pub loop-run-init : goal.loop-run-init
loop-run-init g c =
    let P = λ (u : List Bool). AreLegalInTurn (g.N.Network.position c.args.network.now) c.args.company u
    c.args.revenue c.args.claimed.now in (
      c.args.revenue,
      to_z-of_z w128 c.from-left.result (record { sfits = c.from-left.type_inv }) ∙ c.from-left.ensures,
      (λ legal. subst P (sym c.new-used.ensures) legal, λ legal. subst P c.new-used.ensures legal),
    )

pub loop-run-preserved : goal.loop-run-preserved
loop-run-preserved g c =
    let position = g.N.Network.position c.args.network.now in
    let kept = c.loop-run.invariant in
    let later = drop (c.loop-run.run-index + 1) c.args.claimed.now in
    let steps = named_steps position c.run-item.result.run in
    let earns = earned position steps in
    let Legal : List Bool → ℕ → List ClaimedRun → Type 0 = AreLegalInTurn position c.args.company in
    let is_next : drop c.loop-run.run-index c.args.claimed.now ≡ c.run-item.result ∷ later =
    drop-cons c.args.claimed.now c.loop-run.run-index c.run-item.result c.loop-run-test.true
    ∙ ap (λ (run : ClaimedRun). run ∷ drop (suc c.loop-run.run-index) c.args.claimed.now) (sym c.run-item.is)
    ∙ ap (λ (n : ℕ). c.run-item.result ∷ drop n c.args.claimed.now) (sym (add-one c.loop-run.run-index)) in
    let left = kept.1 in
    let is = c.in-Ok.ensures.earns in
    let low = c.if-earns-left.true in
    let enough : earns ≤ kept.0 = grind arith in (
      kept.0 - earns,
      grind arith,
      (
        λ legal. subst (λ used. Legal used (kept.0 - earns) later) (sym c.in-Ok.ensures.crosses)
            (subst (Legal c.loop-run.used kept.0) is_next (kept.2.0 legal)).2,
        λ legal. kept.2.1 (subst (Legal c.loop-run.used kept.0) (sym is_next) (
          c.in-Ok.ensures.exact.0 refl,
          enough,
          subst (λ used. Legal used (kept.0 - earns) later) c.in-Ok.ensures.crosses legal,
        )),
      ),
    )
