-- The steps of a company's turn that the orders of a sheet have passed: an order of a step before the last of those is not
-- obeyed, nor a PAY where nothing is to run, nor a run beside RUN BEST. Orders under a condition count for runs alone.
use Rattle.std.specs.Prelude.{Bool, true, false, ◌||◌, nat_le, nat_lt, if◌then◌else◌, Option, Some, None}
use Rattle.board.specs.Turn.{place_of_step}
use Rattle.board.specs.declared.turn.TurnStep.{TurnStep}
use Rattle.board.specs.declared.turn.TurnStep.TheVariants as step
use Rattle.desk_base.specs.declared.objection.Objection.{Objection}
use Rattle.desk_base.specs.declared.objection.Objection.TheVariants as objection
use Rattle.desk_check.specs.declared.check_orders.Block.{Block}
use Rattle.events.specs.declared.ruling.PayRule.TheVariants as pay_rule
use Rattle.events.specs.declared.ruling.Refusal.{Refusal}
use Rattle.events.specs.declared.ruling.Refusal.TheVariants as refusal
use Rattle.map_tables.specs.declared.rules.LayRule.TheVariants as lay_rule
use Rattle.map_tables.specs.declared.rules.RunRule.TheVariants as run_rule
use Rattle.map_tables.specs.declared.rules.TokenRule.TheVariants as token_rule
use Rattle.order_grammar.specs.declared.order.Order.{Order}
use Rattle.order_grammar.specs.declared.order.Order.TheVariants as order
use Rattle.order_grammar.specs.declared.play.PlayOrder.TheVariants as play

-- the step of an order: its lay, its token, its runs, what it pays, its trains; none, if it may come at any step
abbrev pub step_of : Order → Option TurnStep
step_of (order.Play (play.Lay lay)) = Some step.Lay
step_of (order.Play (play.Token place)) = Some step.Token
step_of (order.Run kind run) = Some step.Run
step_of (order.Play play.RunBest) = Some step.Run
step_of (order.Play play.Pay) = Some step.Pay
step_of (order.Play play.Withhold) = Some step.Pay
step_of (order.Play (play.BuyTrain kind from)) = Some step.Trains
step_of other = None

-- the order has trains run
abbrev pub is_run : Order → Bool
is_run (order.Run kind run) = true
is_run (order.Play play.RunBest) = true
is_run other = false

-- the order has them run their best
abbrev pub is_best : Order → Bool
is_best (order.Play play.RunBest) = true
is_best other = false

-- the later of a step and another, if there is another
abbrev pub later : TurnStep → Option TurnStep → TurnStep
later one None = one
later one (Some other) = if nat_le (place_of_step one) (place_of_step other) then other else one

-- no order has come
abbrev pub no_orders : Block
no_orders = record { step = step.Lay; has_run = false; has_best = false }

-- one more order has, under a condition or not
abbrev pub block_then : Block → Order → Bool → Block
block_then block its is_conditional =
    if is_conditional
    then record { step = block.step; has_run = block.has_run || is_run its; has_best = block.has_best }
    else record {
      step = later block.step (step_of its);
      has_run = block.has_run || is_run its;
      has_best = block.has_best || is_best its;
    }

-- the rule of an order whose step is past
abbrev pub passed_rule : Order → Option Refusal
passed_rule (order.Play (play.Lay lay)) = Some (refusal.Lay lay_rule.StepUsed)
passed_rule (order.Play (play.Token place)) = Some (refusal.Token token_rule.StepUsed)
passed_rule (order.Run kind run) = Some (refusal.Run run_rule.StepUsed)
passed_rule (order.Play play.RunBest) = Some (refusal.Run run_rule.StepUsed)
passed_rule (order.Play play.Pay) = Some (refusal.Pay pay_rule.NothingToPay)
passed_rule (order.Play play.Withhold) = Some (refusal.Pay pay_rule.NothingToPay)
passed_rule other = None

-- this rule, if there is one, is broken since the step is past
abbrev pub passed_by : Option Refusal → Option (Refusal × Objection)
passed_by None = None
passed_by (Some rule) = Some (rule, objection.Passed)

-- of runs beside RUN BEST
abbrev pub beside_best : Bool → Option (Refusal × Objection)
beside_best has_best = if has_best then Some (refusal.Run run_rule.NoTrain, objection.Best) else None

-- of a PAY, by whether trains are to run
abbrev pub without_run : Bool → Option (Refusal × Objection)
without_run has_run = if has_run then None else Some (refusal.Pay pay_rule.NothingToPay, objection.NoRun)

-- of an order whose step is not past
abbrev pub objection_in_step : Block → Order → Option (Refusal × Objection)
objection_in_step block (order.Play play.Pay) = without_run block.has_run
objection_in_step block (order.Run kind run) = beside_best block.has_best
objection_in_step block (order.Play play.RunBest) = beside_best block.has_best
objection_in_step block other = None

-- the step of an order, if it has one, is before that of the orders so far
abbrev pub is_past : Block → Option TurnStep → Bool
is_past block None = false
is_past block (Some one) = nat_lt (place_of_step one) (place_of_step block.step)

-- why an order is not obeyed behind these
abbrev pub objection_behind : Block → Order → Option (Refusal × Objection)
objection_behind block its =
    if is_past block (step_of its) then passed_by (passed_rule its) else objection_in_step block its
