-- The orders that a president's sheet has for a company, ruled line by line, each on the list that
-- the one before left. First comes a line's own fault, then an order without a place in a company's
-- orders, and then the condition of the line, by that list. If it is not met the line is refused,
-- and nothing else happens. Otherwise its order leads where its own rules say.
--
-- A company withholds by itself before a TRAIN line is ruled whose condition is met, whatever
-- becomes of that line. The RAISE lines are ruled last, at the end of the turn.
use Rattle.std.specs.Prelude.{◌≡◌, Bool, true, false, not, ◌&&◌, List, Option, Result, Ok, Err, [], ◌∷◌}
use Rattle.events.specs.declared.event.Event.{Event}
use Rattle.events.specs.declared.ruling.Refusal.TheVariants as refusal
use Rattle.events.specs.declared.ruling.Ruling.TheVariants.{Faulty, Refused}
use Rattle.forced_purchase.specs.declared.operator.Operator.{Operator}
use Rattle.history.specs.Conditions.{is_met}
use Rattle.operating.specs.Lay.{LayLeads}
use Rattle.operating.specs.Pay.{after_pay, after_withhold, withheld_if_unpaid}
use Rattle.operating.specs.Private.{after_private}
use Rattle.operating.specs.Run.{after_run}
use Rattle.operating.specs.RunBest.{BestLeads}
use Rattle.operating.specs.Token.{TokenLeads}
use Rattle.operating.specs.Train.{after_buying}
use Rattle.operating.specs.TurnState.{TurnState, line_recorded}
use Rattle.order_grammar.specs.declared.condition.Condition.{Condition}
use Rattle.order_grammar.specs.declared.fault.Fault.{Fault}
use Rattle.order_grammar.specs.declared.fault.Fault.TheVariants.{OutOfPlace}
use Rattle.order_grammar.specs.declared.order.Order.{Order}
use Rattle.order_grammar.specs.declared.order.Order.TheVariants as order
use Rattle.order_grammar.specs.declared.play.PlayOrder.TheVariants as play
use Rattle.sheets.specs.Part.{Numbered}

-- an order in this line of the company's orders leads to new; those that are not named here have no
-- place there
abbrev pub OrderLeads : Operator → TurnState → Numbered → Order → TurnState → Type 0
OrderLeads by turn line (order.Play (play.Lay lay)) new = LayLeads by turn line lay new
OrderLeads by turn line (order.Play (play.Token place)) new = TokenLeads by turn line place new
OrderLeads by turn line (order.Run kind run) new = new ≡ after_run by turn line (order.Run kind run) kind run
OrderLeads by turn line (order.Play play.RunBest) new = BestLeads by turn line new
OrderLeads by turn line (order.Play play.Pay) new = new ≡ after_pay by turn line (order.Play play.Pay)
OrderLeads by turn line (order.Play play.Withhold) new = new ≡ after_withhold by turn line (order.Play play.Withhold)
OrderLeads by turn line (order.Play (play.BuyTrain kind from)) new =
    new ≡ after_buying by (withheld_if_unpaid by.company turn) line kind from
OrderLeads by turn line (order.Play (play.BuyOwnedPrivate private price)) new = new ≡ after_private by turn line private price
OrderLeads by turn line (order.Play (play.Raise company shares)) new = new ≡ turn
OrderLeads by turn line other new = new ≡ line_recorded by turn line (Faulty OutOfPlace)

-- the orders that are ruled at their place: a RAISE waits for the end, and others have no place
abbrev pub is_ruled_there : Order → Bool
is_ruled_there (order.Play (play.Lay lay)) = true
is_ruled_there (order.Play (play.Token place)) = true
is_ruled_there (order.Run kind run) = true
is_ruled_there (order.Play play.RunBest) = true
is_ruled_there (order.Play play.Pay) = true
is_ruled_there (order.Play play.Withhold) = true
is_ruled_there (order.Play (play.BuyTrain kind from)) = true
is_ruled_there (order.Play (play.BuyOwnedPrivate private price)) = true
is_ruled_there other = false

-- an order that is to be ruled there is under a condition that is not met by these events
abbrev pub is_held : List Event → Option Condition → Order → Bool
is_held events condition its = is_ruled_there its && not (is_met events condition)

-- an order in this line of the company's orders leads to new, given whether its condition is not
-- met
abbrev pub AskedLeads : Operator → TurnState → Numbered → Order → Bool → TurnState → Type 0
AskedLeads by turn line its true new = new ≡ line_recorded by turn line (Refused refusal.Condition line.condition its)
AskedLeads by turn line its false new = OrderLeads by turn line its new

-- this line of the company's orders with this reading leads to new
abbrev pub ReadingLeads : Operator → TurnState → Numbered → Result Order Fault → TurnState → Type 0
ReadingLeads by turn line (Err fault) new = new ≡ line_recorded by turn line (Faulty fault)
ReadingLeads by turn line (Ok its) new = AskedLeads by turn line its (is_held turn.game.events line.condition its) new

-- a line of the company's orders leads to new
abbrev pub LineLeads : Operator → TurnState → Numbered → TurnState → Type 0
LineLeads by turn line new = ReadingLeads by turn line line.reading new

-- lines of the company's orders lead to new, one after another
abbrev pub LinesLead : Operator → TurnState → List Numbered → TurnState → Type 0
LinesLead by turn [] new = new ≡ turn
LinesLead by turn (line ∷ lines) new = (next : TurnState) × LineLeads by turn line next × LinesLead by next lines new
