use Rattle.std.proofs.Common.{ap, sym, ◌∙◌}
use Rattle.std.specs.Prelude.{is_some}
use Rattle.events.specs.Event.{round_begun_by}
use Rattle.events.specs.declared.event.Event.{Event}
use Rattle.page_map.proofs.NewsLemmas.{from_round, left_whole}
use Rattle.page_map.proofs.news.of_last_round.Goals as goal

pub returns-then-is_some : goal.returns-then-is_some
returns-then-is_some c = λ is_it.
    rw (left_whole c.args.events.now c.loop-from.from)
    (from_round is_it c.args.events.now c.loop-from.from c.index-events-from.result c.loop-from-test.true
    c.loop-from.invariant
    (ap (λ (event : Event). is_some (round_begun_by event)) (sym c.index-events-from.is)
    ∙ ap is_some (sym c.round.ensures) ∙ sym c.is_some.ensures ∙ c.if-is_some.true))
