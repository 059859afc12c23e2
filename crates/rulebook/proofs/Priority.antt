-- Example for the chapter `priority`: who has the first turn.
-- BOB, at seat 1, bids on DH. ANN, at seat 0, buys SV, and BOB gets CS for that bid. CYD passes.
use Rattle.std.proofs.Common.{◌≡◌, refl, List, [], ◌∷◌, None}
use Rattle.events.specs.declared.event.Event.{Event}
use Rattle.events.specs.declared.event.Event.TheVariants as event
use Rattle.events.specs.declared.ruling.Ruling.TheVariants.{Obeyed}
use Rattle.order_grammar.specs.declared.order.Order.TheVariants as order
use Rattle.order_grammar.specs.declared.play.PlayOrder.TheVariants as play
use Rattle.tables.specs.Seat.{seat_at}
use Rattle.tables.specs.declared.roster.Private.TheVariants.{SchuylkillValley, ChamplainStLawrence, DelawareHudson}
use Rattle.totals.specs.LookBack.{priority_of}

abbrev happened : List Event
happened =
    event.Ruled (seat_at 1) 2 (Obeyed None (order.Play (play.Bid DelawareHudson 75)))
    ∷ event.Bids DelawareHudson (seat_at 1) 75
    ∷ event.Ruled (seat_at 0) 2 (Obeyed None (order.Play (play.BuyPrivate SchuylkillValley)))
    ∷ event.Sold SchuylkillValley (seat_at 0) 20
    ∷ event.Sold ChamplainStLawrence (seat_at 1) 45
    ∷ event.Passes (seat_at 2)
    ∷ []

-- ANN was the last to act in her own turn, so BOB at her left is first
pub bob_is_first : priority_of 3 happened ≡ seat_at 1
bob_is_first = refl

-- at the beginning seat 0 is
pub seat_0_is_first : priority_of 3 [] ≡ seat_at 0
seat_0_is_first = refl
