-- A company's turn as it stands between two lines of its orders, and after the ruling of a line.
use Rattle.std.specs.Prelude.{Option}
use Rattle.events.specs.declared.event.Event.TheVariants as event
use Rattle.events.specs.declared.ruling.Refusal.{Refusal}
use Rattle.events.specs.declared.ruling.Ruling.{Ruling}
use Rattle.events.specs.Event.{order_obeyed}
use Rattle.forced_purchase.specs.declared.operator.Operator.{Operator}
use Rattle.operating.specs.declared.progress.Progress.{Progress}
use Rattle.order_grammar.specs.declared.order.Order.{Order}
use Rattle.sheets.specs.Part.{Numbered}
use Rattle.totals.specs.LookBack.{Game, with_event}
use Rattle.turns.specs.Ruling.{done, judged}

-- the game so far, and how far the turn has come
pub record TurnState : Type 0 where
  pub game : Game
  pub progress : Progress

-- a turn with this game, which has come so far
abbrev pub turn_state : Game → Progress → TurnState
turn_state game progress = record { game = game; progress = progress }

-- after the ruling of this line
abbrev pub line_recorded : Operator → TurnState → Numbered → Ruling → TurnState
line_recorded by turn line ruling = turn_state (with_event turn.game (event.Ruled by.president line.number ruling))
    turn.progress

-- after this line, whose order breaks this rule first, or none: then it is done
abbrev pub ruled : Operator → TurnState → Numbered → Order → Option Refusal → (TurnState → TurnState) → TurnState
ruled by turn line order broken act = done (λ (after : TurnState) (its : Order). act after)
    (line_recorded by turn line (judged line.condition order broken))
    (order_obeyed (judged line.condition order broken))
