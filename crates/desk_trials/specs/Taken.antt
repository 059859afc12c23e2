-- Who took the last of what an order wanted.
use Rattle.std.specs.Prelude.{Bool, true, false, Option, Some, None}
use Rattle.events.specs.declared.event.Event.{Event}
use Rattle.events.specs.declared.event.Event.TheVariants as event
use Rattle.events.specs.declared.event.TrainSeller.{TrainSeller}
use Rattle.events.specs.declared.event.TrainSeller.TheVariants as seller
use Rattle.events.specs.declared.ruling.OpeningRule.TheVariants as opening
use Rattle.events.specs.declared.ruling.Refusal.{Refusal}
use Rattle.events.specs.declared.ruling.Refusal.TheVariants as refusal
use Rattle.events.specs.declared.ruling.StockRule.TheVariants as stock
use Rattle.events.specs.declared.ruling.TrainRule.TheVariants as train
use Rattle.map_tables.specs.declared.rules.LayRule.TheVariants as lay
use Rattle.order_grammar.specs.declared.order.Order.{Order}
use Rattle.order_grammar.specs.declared.order.Order.TheVariants as order
use Rattle.order_grammar.specs.declared.order.TrainSource.{TrainSource}
use Rattle.order_grammar.specs.declared.order.TrainSource.TheVariants as source
use Rattle.order_grammar.specs.declared.play.PlayOrder.TheVariants as play
use Rattle.tables.specs.Roster.{same_company}
use Rattle.tables.specs.Train.{same_kind}
use Rattle.tables.specs.declared.seat.Seat.{Seat}

-- an order breaks a rule because none is left of what it wants
abbrev pub wants_the_last : Refusal → Bool
wants_the_last (refusal.Lay lay.NoneLeft) = true
wants_the_last (refusal.Train train.NotOnSale) = true
wants_the_last (refusal.Train train.NotSellers) = true
wants_the_last (refusal.Stock stock.NoneThere) = true
wants_the_last (refusal.Opening opening.Sold) = true
wants_the_last other = false

-- an event removes from play all trains of the kind that an order wants
abbrev pub leaves_none : Event → Order → Bool
leaves_none (event.Rusted owner kind) (order.Play (play.BuyTrain wanted from)) = same_kind kind wanted
leaves_none other wanted = false

-- whose sheet the next events follow, after one more event: the sheet of the line that was ruled last, or of the player who acts
abbrev pub whose_then : Option Seat → Event → Option Seat
whose_then whose (event.Round round) = None
whose_then whose (event.Forced company) = None
whose_then whose (event.Ruled seat line ruling) = Some seat
whose_then whose (event.Sold private seat price) = Some seat
whose_then whose (event.Bought company seat shares from price) = Some seat
whose_then whose (event.Exchanged seat from) = Some seat
whose_then whose other = whose

-- a train is bought from where an order wanted one
abbrev pub is_seller : TrainSource → TrainSeller → Bool
is_seller source.Bank seller.Bank = true
is_seller (source.Trade kind) seller.Bank = true
is_seller source.BankPool seller.BankPool = true
is_seller (source.Company wanted price) (seller.Company its) = same_company wanted its
is_seller other its = false
