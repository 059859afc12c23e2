-- A PRIVATE that breaks no rule leads where its purchase does.
use Rattle.std.proofs.Common.{◌≡◌, ℕ, None, sym, ap, ◌∙◌}
use Rattle.events.specs.declared.event.Event.TheVariants.{Ruled}
use Rattle.events.specs.declared.ruling.Ruling.TheVariants.{Obeyed}
use Rattle.forced_purchase.specs.declared.operator.Operator.{Operator}
use Rattle.operating.specs.Private.{after_private, private_ruled}
use Rattle.operating.specs.TurnState.{TurnState, line_recorded, turn_state}
use Rattle.order_grammar.specs.declared.order.Order.{Order}
use Rattle.order_grammar.specs.declared.order.Order.TheVariants.{Play}
use Rattle.order_grammar.specs.declared.play.PlayOrder.TheVariants.{BuyOwnedPrivate}
use Rattle.purchases.specs.Private.{private_bought, private_judgement}
use Rattle.sheets.specs.Part.{Numbered}
use Rattle.tables.specs.declared.roster.Private.{Private}
use Rattle.totals.specs.LookBack.{Game, with_event}

-- a PRIVATE that breaks no rule leads where its purchase does
pub sold_steps : (by : Operator) (turn : TurnState) (line : Numbered) (private : Private) (price : ℕ) (its : Order)
    (ruled new : Game) →
    its ≡ Play (BuyOwnedPrivate private price) → private_judgement turn.game by.company private price ≡ None →
    ruled ≡ with_event turn.game (Ruled by.president line.number (Obeyed line.condition its))
    → new ≡ private_bought ruled by.company private price →
    turn_state new turn.progress ≡ after_private by turn line private price
sold_steps by turn line private price its ruled new is_its none is_ruled is_new =
    ap (λ (game : Game). turn_state game turn.progress)
    (is_new ∙ ap (λ (game : Game). private_bought game by.company private price) is_ruled)
    ∙ ap (λ (one : Order). turn_state (private_bought (line_recorded by turn line (Obeyed line.condition one)).game
    by.company private price) turn.progress) is_its
    ∙ ap (private_ruled by turn line private price) (sym none)
