use Rattle.std.proofs.Common.{◌≡◌, ◌+◌, ◌-◌, ◌<◌, ℕ, true, false, length, drop, sym, ap, subst, ◌∙◌, arith}
use Rattle.std.proofs.lemmas.Grind.{common_steps}
use Rattle.std.specs.Prelude.{is_some}
use Rattle.std.specs.List.{list_any}
use Rattle.events.specs.Event.{round_begun_by}
use Rattle.events.specs.declared.event.Event.{Event}
use Rattle.report.proofs.LastRound.{from_first, from_here}
use Rattle.report.proofs.text.begin_of_last_round.Goals as goal

pub returns-then-is_some-clause-last : goal.returns-then-is_some-clause-last
returns-then-is_some-clause-last c =
    let events = c.args.events.now in
    let begun : ℕ = c.loop-begun.begun - 1 in
    let here : Event = c.index-events-begun.result in
    let within : begun < length events = grind (arith, common_steps) in
    let after : c.loop-begun.begun ≡ begun + 1 = grind (arith, common_steps) in
    let begins : is_some (round_begun_by here) ≡ true =
    ap is_some (sym c.round.ensures) ∙ sym c.is_some.ensures ∙ c.if-is_some.true in
    from_here events begun here within (subst (λ (event : Event). is_some (round_begun_by event) ≡ true)
    c.index-events-begun.is begins)
    (subst (λ (n : ℕ). list_any (λ event. is_some (round_begun_by event)) (drop n events) ≡ false) after
    c.loop-begun.invariant.none)

pub returns-clause-last : goal.returns-clause-last
returns-clause-last c =
    let zero : c.loop-begun.begun ≡ 0 = grind (arith, common_steps) in
    from_first c.args.events.now c.loop-begun.begun zero c.loop-begun.invariant.none
