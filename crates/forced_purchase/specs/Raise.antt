-- RAISE: the president of a company sells shares to pay for the train that it must buy. The RAISE
-- lines of its orders are used in order. A line is refused, whatever its condition, if no purchase
-- is due, and once the president does not fall short. Then come its condition and the rules of a
-- sale. No sale may move the presidency of the company.
use Rattle.std.specs.Prelude.{Bool, true, false, ◌&&◌, if◌then◌else◌, List, [], ◌∷◌, Option, Some, option_map, Result, Ok}
use Rattle.std.specs.List.{filter}
use Rattle.certs.specs.Sale.{sale_judgement}
use Rattle.certs.specs.SaleAct.{after_sale}
use Rattle.certs.specs.declared.share_deal.Sale.{Sale}
use Rattle.events.specs.declared.event.Event.TheVariants as event
use Rattle.events.specs.declared.ruling.Refusal.{Refusal}
use Rattle.events.specs.declared.ruling.Refusal.TheVariants as refusal
use Rattle.events.specs.declared.ruling.Ruling.{Ruling}
use Rattle.events.specs.declared.ruling.StockRule.{StockRule}
use Rattle.events.specs.declared.ruling.StockRule.TheVariants.{NotOfStock}
use Rattle.events.specs.Event.{order_obeyed}
use Rattle.history.specs.Conditions.{is_met}
use Rattle.totals.specs.LookBack.{Game, with_event}
use Rattle.forced_purchase.specs.Shortfall.{falls_short}
use Rattle.forced_purchase.specs.declared.operator.Operator.{Operator}
use Rattle.order_grammar.specs.declared.condition.Condition.{Condition}
use Rattle.order_grammar.specs.declared.fault.Fault.{Fault}
use Rattle.order_grammar.specs.declared.order.Order.{Order}
use Rattle.order_grammar.specs.declared.order.Order.TheVariants as order
use Rattle.order_grammar.specs.declared.play.PlayOrder.TheVariants as play
use Rattle.sheets.specs.Part.{Numbered}
use Rattle.turns.specs.Ruling.{done, judged}

-- the first rule that a sale to raise money for the company breaks
unfoldable pub raised_sale_judgement : Operator → Game → Sale → Option StockRule
raised_sale_judgement by game sale = sale_judgement game.seats game.events by.president sale (Some by.company)

-- the first rule that a RAISE under this condition breaks, if it is needed: the condition comes
-- first, and then the rules of a sale
abbrev pub needed_judgement : Operator → Game → Option Condition → Sale → Option Refusal
needed_judgement by game condition sale =
    if is_met game.events condition then option_map refusal.Stock (raised_sale_judgement by game sale) else Some refusal.Condition

-- the first rule that it breaks, given whether a purchase is due
unfoldable pub raise_judgement : Bool → Operator → Game → Option Condition → Sale → Option Refusal
raise_judgement due by game condition sale =
    if due && falls_short by game then needed_judgement by game condition sale else Some (refusal.Stock NotOfStock)

-- the list after a sale of the president
abbrev pub after_presidents_sale : Operator → Game → Sale → Game
after_presidents_sale by game sale = after_sale game by.president sale.company sale.shares

-- after the ruling of this line
abbrev pub with_ruling : Operator → Game → Numbered → Ruling → Game
with_ruling by game line ruling = with_event game (event.Ruled by.president line.number ruling)

-- after a RAISE in this line, with the rule that refuses it, if one does
abbrev pub raise_ruled : Operator → Game → Numbered → Sale → Option Refusal → Game
raise_ruled by game line sale broken =
    let ruling = judged line.condition (order.Play (play.Raise sale.company sale.shares)) broken in
    done (λ (after : Game) (its : Order). after_presidents_sale by after sale) (with_ruling by game line ruling)
    (order_obeyed ruling)

-- after a sale of a RAISE in this line
abbrev pub after_raise : Bool → Operator → Game → Numbered → Sale → Game
after_raise due by game line sale = raise_ruled by game line sale (raise_judgement due by game line.condition sale)

-- after this line of the company's orders with this reading: lines other than RAISE were ruled at
-- their place
abbrev pub after_raise_line : Bool → Operator → Game → Numbered → Result Order Fault → Game
after_raise_line due by game line (Ok (order.Play (play.Raise company shares))) =
    after_raise due by game line (record { company = company; shares = shares })
after_raise_line due by game line other = game

-- a line with this reading is a RAISE
abbrev pub is_raise : Result Order Fault → Bool
is_raise (Ok (order.Play (play.Raise company shares))) = true
is_raise other = false

-- the RAISE lines among some
abbrev pub raises_in : List Numbered → List Numbered
raises_in lines = filter (λ line. is_raise line.reading) lines

-- after the RAISE lines of the company's orders, in order
abbrev pub after_raises : Bool → Operator → Game → List Numbered → Game
after_raises due by game [] = game
after_raises due by game (line ∷ lines) =
    after_raises due by (after_raise_line due by game line line.reading) lines
