-- TOKEN: a company places a further token. It needs the step of lays or that of tokens; the turn is
-- then past both. Its rules are those of the map (`board: token_rules`), by the map state and by
-- the company as it asks. It costs what the board says, which the company pays the bank.
use Rattle.std.specs.Int.RustNames.{unsigned_abs}
use Rattle.std.specs.Prelude.{ℕ, Result, Ok, Err, ℤ, ◌≡◌}
use Rattle.board.specs.TokenRules.{IsTokenAnswer}
use Rattle.events.specs.declared.event.Event.TheVariants as event
use Rattle.events.specs.declared.ruling.Refusal.TheVariants as refusal
use Rattle.events.specs.declared.ruling.Ruling.TheVariants.{Obeyed, Refused}
use Rattle.forced_purchase.specs.declared.operator.Operator.{Operator}
use Rattle.map_tables.specs.declared.place.Place.{Place}
use Rattle.map_tables.specs.declared.rules.TokenRule.{TokenRule}
use Rattle.operating.specs.BoardAsker.{asker_of}
use Rattle.operating.specs.MapState.{map_state_now}
use Rattle.operating.specs.Progress.{token_done}
use Rattle.operating.specs.TurnState.{TurnState, turn_state, line_recorded}
use Rattle.order_grammar.specs.declared.order.Order.TheVariants as order
use Rattle.order_grammar.specs.declared.play.PlayOrder.TheVariants as play
use Rattle.sheets.specs.Part.{Numbered}
use Rattle.tables.specs.declared.roster.Company.{Company}
use Rattle.totals.specs.LookBack.{Game, with_event}

-- after a token at this cost
abbrev pub after_token : Game → Company → Place → ℕ → Game
after_token game company place cost = with_event game (event.Token company place cost)

-- after a token in this line was obeyed at this cost, or refused by this rule
abbrev pub token_answered : Operator → TurnState → Numbered → Place → Result ℤ TokenRule → TurnState
token_answered by turn line place (Ok cost) = turn_state
    (after_token (line_recorded by turn line (Obeyed line.condition (order.Play (play.Token place)))).game by.company place
    (unsigned_abs cost)) (token_done turn.progress)
token_answered by turn line place (Err rule) =
    line_recorded by turn line (Refused (refusal.Token rule) line.condition (order.Play (play.Token place)))

-- a TOKEN in this line leads to new
pub record TokenLeads (by : Operator) (turn : TurnState) (line : Numbered) (place : Place)
    (new : TurnState) : Type 0 where
  pub answer : Result ℤ TokenRule
  pub answered : IsTokenAnswer (map_state_now turn.game.events) (asker_of turn.game by.company turn.progress) place
      answer
  pub after : new ≡ token_answered by turn line place answer
