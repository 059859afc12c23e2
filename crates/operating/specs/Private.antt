-- PRIVATE: a company buys a private from a player, anywhere in its orders. Its rules are those of a
-- purchase (`purchases: private_rules`). It leaves the turn as far as it has come.
use Rattle.std.specs.Prelude.{ℕ, Option, option_map}
use Rattle.events.specs.declared.ruling.PrivateRule.{PrivateRule}
use Rattle.events.specs.declared.ruling.Refusal.TheVariants as refusal
use Rattle.forced_purchase.specs.declared.operator.Operator.{Operator}
use Rattle.operating.specs.TurnState.{TurnState, turn_state, ruled}
use Rattle.order_grammar.specs.declared.order.Order.TheVariants as order
use Rattle.order_grammar.specs.declared.play.PlayOrder.TheVariants as play
use Rattle.purchases.specs.Private.{private_bought, private_judgement}
use Rattle.sheets.specs.Part.{Numbered}
use Rattle.tables.specs.declared.roster.Private.{Private}

-- after a PRIVATE in this line, with the rule that refuses it, if one does
abbrev pub private_ruled : Operator → TurnState → Numbered → Private → ℕ → Option PrivateRule → TurnState
private_ruled by turn line private price broken =
    ruled by turn line (order.Play (play.BuyOwnedPrivate private price)) (option_map refusal.Private broken)
    (λ (after : TurnState). turn_state (private_bought after.game by.company private price) after.progress)

-- after a PRIVATE in this line
abbrev pub after_private : Operator → TurnState → Numbered → Private → ℕ → TurnState
after_private by turn line private price =
    private_ruled by turn line private price (private_judgement turn.game by.company private price)
