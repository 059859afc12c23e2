use Rattle.std.proofs.Common.{◌≡◌, option_map, rules, sym, ap, ◌∙◌}
use Rattle.events.specs.declared.ruling.Refusal.TheVariants.{Train}
use Rattle.order_grammar.specs.declared.order.Order.TheVariants.{Play}
use Rattle.order_grammar.specs.declared.play.PlayOrder.{PlayOrder}
use Rattle.purchases.specs.Discard.{discard_judgement}
use Rattle.purchases.specs.Standing.{operating_standing_judgement}
use Rattle.purchases.proofs.standing.judge_standing.Goals as goal

pub returns-in-Discard : goal.returns-in-Discard
returns-in-Discard c =
    let broken : c.map.result ≡ option_map Train (discard_judgement c.args.history.now.events c.args.seat
    c.in-Discard.company c.in-Discard.kind) = search rules in
    broken ∙ ap (λ (order : PlayOrder). operating_standing_judgement c.args.history.now.events c.args.seat (Play order))
    (sym c.in-Discard.is)
