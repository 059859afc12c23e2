-- Example for the chapter `privates`: the sale of CA and of BOP.
-- ANN, at seat 0, has ordered a par of 76 for BO, by a standing line that was obeyed. She buys CA,
-- and BOP after it.
use Rattle.std.proofs.Common.{◌≡◌, refl, List, [], ◌∷◌, ◌++◌, Some, None}
use Rattle.events.specs.declared.event.Event.{Event}
use Rattle.events.specs.declared.event.Event.TheVariants as event
use Rattle.events.specs.declared.event.Holder.TheVariants as holder
use Rattle.events.specs.declared.ruling.Ruling.TheVariants.{Obeyed}
use Rattle.order_grammar.specs.declared.order.Order.TheVariants as order
use Rattle.order_grammar.specs.declared.play.PlayOrder.TheVariants as play
use Rattle.privates.specs.Sale.{after_private_sale}
use Rattle.tables.specs.Seat.{seat_at}
use Rattle.tables.specs.declared.roster.Company.TheVariants as company
use Rattle.tables.specs.declared.roster.Private.TheVariants.{CamdenAmboy, BaltimoreOhio, SchuylkillValley}
use Rattle.totals.specs.LookBack.{owner_of}

abbrev before : List Event
before = event.Ruled (seat_at 0) 1 (Obeyed None (order.Play (play.Par company.BaltimoreOhio 76))) ∷ []

-- with CA comes a share of PRR
pub ca_brings :
    after_private_sale before CamdenAmboy (seat_at 0) 160
    ≡ before
    ++ event.Sold CamdenAmboy (seat_at 0) 160
    ∷ event.Given company.Pennsylvania (seat_at 0) 1
    ∷ []
ca_brings = refl

-- with BOP comes the president's certificate of BO, at the par that was ordered
pub bop_brings :
    after_private_sale before BaltimoreOhio (seat_at 0) 220
    ≡ before
    ++ event.Sold BaltimoreOhio (seat_at 0) 220
    ∷ event.Par company.BaltimoreOhio 76
    ∷ event.Given company.BaltimoreOhio (seat_at 0) 2
    ∷ event.President company.BaltimoreOhio (seat_at 0)
    ∷ []
bop_brings = refl

-- and to CYD, who ordered none, at 67
pub bop_brings_cyd :
    after_private_sale before BaltimoreOhio (seat_at 2) 220
    ≡ before
    ++ event.Sold BaltimoreOhio (seat_at 2) 220
    ∷ event.Par company.BaltimoreOhio 67
    ∷ event.Given company.BaltimoreOhio (seat_at 2) 2
    ∷ event.President company.BaltimoreOhio (seat_at 2)
    ∷ []
bop_brings_cyd = refl

-- ANN owns CA then, and nobody SV
pub ann_owns : owner_of (after_private_sale before CamdenAmboy (seat_at 0) 160) CamdenAmboy ≡ Some (holder.Seat (seat_at 0))
ann_owns = refl

pub nobody_owns : owner_of (after_private_sale before CamdenAmboy (seat_at 0) 160) SchuylkillValley ≡ None
nobody_owns = refl
