-- Two small games, computed from the definitions. In the first, ANN buys SV in the first opening
-- round, the others pass, and the second round is awaited. In the second all privates are sold in
-- one opening round. In its stock round ANN starts PRR and BOB buys a share of it, which leaves ANN
-- president, since CA came with one before. Then all pass, and the first operating round is
-- awaited.
use Rattle.std.specs.Prelude.{ℕ, List, [], ◌∷◌, ◌++◌, None, codes}
use Rattle.events.specs.declared.event.Event.{Event}
use Rattle.events.specs.declared.event.Event.TheVariants as event
use Rattle.events.specs.declared.event.Holder.TheVariants as holder
use Rattle.events.specs.declared.ruling.Ruling.TheVariants.{Obeyed}
use Rattle.order_grammar.specs.declared.order.Order.TheVariants.{Play}
use Rattle.order_grammar.specs.declared.order.ShareSource.TheVariants.{InitialOffering}
use Rattle.order_grammar.specs.declared.play.PlayOrder.TheVariants.{BuyPrivate, BuyShare, Par}
use Rattle.rounds.specs.Play.{Between}
use Rattle.rounds.specs.declared.following.Next.TheVariants as next
use Rattle.tables.specs.Seat.{seat_at}
use Rattle.tables.specs.declared.roster.Company.TheVariants as company
use Rattle.tables.specs.declared.roster.Private.TheVariants.{SchuylkillValley, ChamplainStLawrence, DelawareHudson}
use Rattle.tables.specs.declared.roster.Private.TheVariants.{MohawkHudson, CamdenAmboy, BaltimoreOhio}
use Rattle.tables.specs.declared.round.Round.TheVariants.{Opening, Stock, Operating}

-- the order file
abbrev pub first_file : List ℕ
first_file = codes "GAME 1830 1\nPLAYERS ANN BOB CYD\nSHEET ANN PR1\nTURN\nBUY SV\nSHEET BOB PR1\nSHEET CYD PR1\n"

-- what happens
abbrev pub first_events : List Event
first_events =
    event.Round (Opening 1)
    ∷ event.Ruled (seat_at 0) 2 (Obeyed None (Play (BuyPrivate SchuylkillValley)))
    ∷ event.Sold SchuylkillValley (seat_at 0) 20
    ∷ event.Passes (seat_at 1)
    ∷ event.Passes (seat_at 2)
    ∷ event.Passes (seat_at 0)
    ∷ event.Revenue SchuylkillValley (holder.Seat (seat_at 0)) 5
    ∷ []

-- where its game ends
abbrev pub first_end : Between
first_end = record { game = record { seats = 3; events = first_events }; in_set = 1; next = next.Round (Opening 2) }

-- the order file of the second game
abbrev pub second_file : List ℕ
second_file =
    codes "GAME 1830 1\nPLAYERS ANN BOB CYD\nSHEET ANN PR1\nTURN\nBUY SV\nTURN\nBUY MH\nSHEET BOB PR1\nTURN\nBUY CS\nTURN\nBUY CA\nSHEET CYD PR1\nTURN\nBUY DH\nTURN\nBUY BOP\nSHEET ANN SR1\nTURN\nPAR PRR 67\nSHEET BOB SR1\nTURN\nBUY PRR IPO\nSHEET CYD SR1\n"

-- what happens in its opening round
abbrev pub second_opening : List Event
second_opening =
    event.Round (Opening 1)
    ∷ event.Ruled (seat_at 0) 2 (Obeyed None (Play (BuyPrivate SchuylkillValley)))
    ∷ event.Sold SchuylkillValley (seat_at 0) 20
    ∷ event.Ruled (seat_at 1) 2 (Obeyed None (Play (BuyPrivate ChamplainStLawrence)))
    ∷ event.Sold ChamplainStLawrence (seat_at 1) 40
    ∷ event.Ruled (seat_at 2) 2 (Obeyed None (Play (BuyPrivate DelawareHudson)))
    ∷ event.Sold DelawareHudson (seat_at 2) 70
    ∷ event.Ruled (seat_at 0) 4 (Obeyed None (Play (BuyPrivate MohawkHudson)))
    ∷ event.Sold MohawkHudson (seat_at 0) 110
    ∷ event.Ruled (seat_at 1) 4 (Obeyed None (Play (BuyPrivate CamdenAmboy)))
    ∷ event.Sold CamdenAmboy (seat_at 1) 160
    ∷ event.Given company.Pennsylvania (seat_at 1) 1
    ∷ event.Ruled (seat_at 2) 4 (Obeyed None (Play (BuyPrivate BaltimoreOhio)))
    ∷ event.Sold BaltimoreOhio (seat_at 2) 220
    ∷ event.Par company.BaltimoreOhio 67
    ∷ event.Given company.BaltimoreOhio (seat_at 2) 2
    ∷ event.President company.BaltimoreOhio (seat_at 2)
    ∷ []

-- what happens in the stock round of the second game
abbrev pub second_stock_round : List Event
second_stock_round =
    event.Round (Stock 1)
    ∷ event.Ruled (seat_at 0) 2 (Obeyed None (Play (Par company.Pennsylvania 67)))
    ∷ event.Par company.Pennsylvania 67
    ∷ event.Bought company.Pennsylvania (seat_at 0) 2 InitialOffering 134
    ∷ event.President company.Pennsylvania (seat_at 0)
    ∷ event.Ruled (seat_at 1) 2 (Obeyed None (Play (BuyShare company.Pennsylvania InitialOffering)))
    ∷ event.Bought company.Pennsylvania (seat_at 1) 1 InitialOffering 67
    ∷ event.Passes (seat_at 2)
    ∷ event.Passes (seat_at 0)
    ∷ event.Passes (seat_at 1)
    ∷ []

-- where it ends
abbrev pub second_end : Between
second_end = record {
  game = record { seats = 3; events = second_opening ++ second_stock_round };
  in_set = 1;
  next =
      next.Round (Operating 1 1);
}
