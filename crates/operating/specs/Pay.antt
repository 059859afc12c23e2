-- PAY and WITHHOLD: a company pays out or withholds what its trains earned in its turn. Either
-- needs a turn that is not past its pay, and to pay needs a revenue more than 0; the turn is then past
-- it. If it withholds, the bank pays the company all of it, and its token on the chart moves left.
-- A company whose turn is not past its pay withholds by itself before it buys a train, and when its
-- orders end.
use Rattle.std.specs.Prelude.{Bool, ◌==◌, ◌||◌, List, [], ◌∷◌, Option, ℕ, option_map, if◌then◌else◌}
use Rattle.certs.specs.Dividend.{paid_out}
use Rattle.events.specs.declared.event.Event.TheVariants as event
use Rattle.events.specs.declared.ruling.PayRule.{PayRule}
use Rattle.events.specs.declared.ruling.PayRule.TheVariants.{NothingToPay}
use Rattle.events.specs.declared.ruling.Refusal.TheVariants as refusal
use Rattle.forced_purchase.specs.declared.operator.Operator.{Operator}
use Rattle.history.specs.Record.{broken_recorded}
use Rattle.market.specs.Moves.{square_left_of}
use Rattle.operating.specs.Progress.{is_past_pay, is_unpaid, pay_done}
use Rattle.operating.specs.TurnState.{TurnState, turn_state, ruled}
use Rattle.operating.specs.declared.progress.Progress.{Progress}
use Rattle.order_grammar.specs.declared.order.Order.{Order}
use Rattle.sheets.specs.Part.{Numbered}
use Rattle.tables.specs.Rules.{Rule, first_broken}
use Rattle.tables.specs.declared.roster.Company.{Company}
use Rattle.market.specs.Token.{token_moved}
use Rattle.totals.specs.LookBack.{Game, with_event}

-- a rule of PAY and WITHHOLD, and whether it is broken
abbrev tested_pay_rule : PayRule → Bool → Rule PayRule
tested_pay_rule code broken = record { code = code; broken = broken }

-- the rules of PAY
abbrev pub pay_rules : Progress → List (Rule PayRule)
pay_rules progress = tested_pay_rule NothingToPay (is_past_pay progress || (progress.runs.revenue == 0)) ∷ []

-- the first one that is broken
abbrev pub pay_judgement : Progress → Option PayRule
pay_judgement progress = first_broken (pay_rules progress)

-- the rules of WITHHOLD
abbrev pub withhold_rules : Progress → List (Rule PayRule)
withhold_rules progress = tested_pay_rule NothingToPay (is_past_pay progress) ∷ []

-- the first one that is broken
abbrev pub withhold_judgement : Progress → Option PayRule
withhold_judgement progress = first_broken (withhold_rules progress)

-- after the company has withheld this much
abbrev pub withheld : Game → Company → ℕ → Game
withheld game company amount =
    token_moved square_left_of (broken_recorded (with_event game (event.Withheld company amount))) company

-- after this line, with the rule that refuses its order, if one does; otherwise the game is as
-- given
abbrev pub pay_ruled : Operator → TurnState → Numbered → Order → Option PayRule → (Game → Game) → TurnState
pay_ruled by turn line order broken act =
    ruled by turn line order (option_map refusal.Pay broken)
    (λ (after : TurnState). turn_state (act after.game) (pay_done after.progress))

-- after a PAY in this line
abbrev pub after_pay : Operator → TurnState → Numbered → Order → TurnState
after_pay by turn line order =
    pay_ruled by turn line order (pay_judgement turn.progress)
    (λ game. paid_out game by.company turn.progress.runs.revenue)

-- after a WITHHOLD
abbrev pub after_withhold : Operator → TurnState → Numbered → Order → TurnState
after_withhold by turn line order =
    pay_ruled by turn line order (withhold_judgement turn.progress)
    (λ game. withheld game by.company turn.progress.runs.revenue)

-- with what the company withholds by itself, if the turn is not past its pay
abbrev pub withheld_if_unpaid : Company → TurnState → TurnState
withheld_if_unpaid company turn =
    if is_unpaid turn.progress then turn_state (withheld turn.game company turn.progress.runs.revenue)
    (pay_done turn.progress) else turn
