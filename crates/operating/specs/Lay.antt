-- LAY: a company lays a tile in its turn, or puts one in the place of another. It needs the step of
-- lays, and is made once in a turn, but for the lay that CS gives. Its rules are those of the map
-- (`board: lay_rules`), by the map state and by the company as it asks. It costs what the board
-- says, which the company pays the bank.
use Rattle.std.specs.Int.RustNames.{unsigned_abs}
use Rattle.std.specs.Prelude.{ℕ, Result, Ok, Err, ℤ, ◌≡◌}
use Rattle.board.specs.LayRules.{IsLayAnswer}
use Rattle.events.specs.declared.event.Event.TheVariants as event
use Rattle.events.specs.declared.ruling.Refusal.TheVariants as refusal
use Rattle.events.specs.declared.ruling.Ruling.TheVariants.{Obeyed, Refused}
use Rattle.forced_purchase.specs.declared.operator.Operator.{Operator}
use Rattle.map_tables.specs.declared.lay.Lay.{Lay}
use Rattle.map_tables.specs.declared.rules.LayRule.{LayRule}
use Rattle.operating.specs.BoardAsker.{asker_of}
use Rattle.operating.specs.MapState.{map_state_now}
use Rattle.operating.specs.Progress.{lay_done}
use Rattle.operating.specs.TurnState.{TurnState, turn_state, line_recorded}
use Rattle.order_grammar.specs.declared.order.Order.TheVariants as order
use Rattle.order_grammar.specs.declared.play.PlayOrder.TheVariants as play
use Rattle.sheets.specs.Part.{Numbered}
use Rattle.tables.specs.declared.roster.Company.{Company}
use Rattle.totals.specs.LookBack.{Game, with_event}
use Rattle.totals.specs.Operating.{lays_of}

-- after a lay at this cost
abbrev pub after_lay : Game → Company → Lay → ℕ → Game
after_lay game company lay cost = with_event game (event.Laid company lay cost)

-- after a lay in this line was obeyed at this cost, or refused by this rule
abbrev pub lay_answered : Operator → TurnState → Numbered → Lay → Result ℤ LayRule → TurnState
lay_answered by turn line lay (Ok cost) = turn_state
    (after_lay (line_recorded by turn line (Obeyed line.condition (order.Play (play.Lay lay)))).game by.company lay
    (unsigned_abs cost)) (lay_done (lays_of turn.game.events) (asker_of turn.game by.company turn.progress) lay
    turn.progress)
lay_answered by turn line lay (Err rule) = line_recorded by turn line (Refused (refusal.Lay rule) line.condition
    (order.Play (play.Lay lay)))

-- a LAY in this line leads to new: the rules of lays give an outcome, by the map state
pub record LayLeads (by : Operator) (turn : TurnState) (line : Numbered) (lay : Lay) (new : TurnState) : Type 0 where
  pub answer : Result ℤ LayRule
  pub answered : IsLayAnswer (map_state_now turn.game.events) (asker_of turn.game by.company turn.progress) lay answer
  pub after : new ≡ lay_answered by turn line lay answer
