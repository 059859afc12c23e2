-- A company that is made to buy has a train at the end of its turn.
use Rattle.std.proofs.Common.{◌≡◌, inl, inr, ◌⊎◌, ℕ, Bool, true, false, if◌then◌else◌, List, []}
use Rattle.std.proofs.Common.{◌∷◌, Option, Some, None, Result, Ok, pos, refl, sym, ap, subst}
use Rattle.std.proofs.Common.{◌∙◌}
use Rattle.std.specs.Int.Signed.{lt_z}
use Rattle.std.proofs.lemmas.Bool.{cases_Bool}
use Rattle.board_state.specs.MapState.{position_of}
use Rattle.legal_runs.specs.TwoTrain.{CanRun}
use Rattle.events.specs.declared.event.Event.{Event}
use Rattle.events.specs.declared.event.Event.TheVariants as event
use Rattle.events.specs.declared.ruling.Ruling.{Ruling}
use Rattle.totals.specs.LookBack.{Game, bankrupt_in, with_event}
use Rattle.totals.specs.Shares.{president_of}
use Rattle.totals.specs.Trains.{TrainsAreHeld, train_count}
use Rattle.operating.proofs.Bankruptcies.{now_bankrupt}
use Rattle.operating.proofs.Fitting.{same_map_state}
use Rattle.operating.proofs.ForcedGames.{gained_none, gained_of, of_gained, of_sale, operator}
use Rattle.forced_purchase.proofs.TrainCounts.{size_before}
use Rattle.operating.proofs.TurnGames.{of_paid_turn}
use Rattle.operating.proofs.TurnLaws.{KeepsTrains, events_keep_trains, forced_keeps_trains}
use Rattle.operating.specs.TurnEnd.{EndLeads, IsDue}
use Rattle.forced_purchase.specs.Forced.{after_forced, concluded}
use Rattle.forced_purchase.specs.Raise.{after_raise_line, after_raises}
use Rattle.forced_purchase.specs.Shortfall.{cheapest, falls_short}
use Rattle.forced_purchase.specs.Raise.{raise_judgement, with_ruling}
use Rattle.forced_purchase.specs.Forced.{with_aid}
use Rattle.purchases.specs.Train.{has_trains}
use Rattle.operating.specs.ForcedLaws.{TurnsEndWithTrains}
use Rattle.operating.specs.MapState.{map_state_now}
use Rattle.purchases.specs.Train.{after_train}
use Rattle.purchases.specs.TrainLaws.{AllTrainsAreThere}
use Rattle.operating.specs.Pay.{withheld_if_unpaid}
use Rattle.operating.specs.Turn.{CompanyOrdersEnd}
use Rattle.forced_purchase.specs.declared.operator.Operator.{Operator}
use Rattle.order_grammar.specs.declared.fault.Fault.{Fault}
use Rattle.order_grammar.specs.declared.order.Order.{Order}
use Rattle.order_grammar.specs.declared.order.Order.TheVariants as order
use Rattle.order_grammar.specs.declared.play.PlayOrder.TheVariants as play
use Rattle.sheets.specs.CompanyOrders.{company_orders_for}
use Rattle.sheets.specs.Part.{Numbered}
use Rattle.tables.specs.declared.roster.Company.{Company}
use Rattle.tables.specs.declared.round.Round.{Round}
use Rattle.tables.specs.declared.seat.Seat.{Seat}
use Rattle.forced_purchase.proofs.HasBought.{has_bought}

-- a RAISE that is not needed moves no train and lays nothing
record Alike (before after : Game) : Type 0 where
  map_state : map_state_now after.events ≡ map_state_now before.events
  size : (company : Company) → train_count after.events (Some company) ≡ train_count before.events (Some company)

alike_same : (game : Game) → Alike game game
alike_same game = record { map_state = refl; size = λ company. refl }

alike_both : (a b c : Game) → Alike a b → Alike b c → Alike a c
alike_both a b c one two = record {
  map_state = two.map_state ∙ one.map_state;
  size =
      λ company. two.size company ∙ one.size company;
}

alike_ruled : (by : Operator) (game : Game) (line : Numbered) (ruling : Ruling)
    → Alike game (with_ruling by game line ruling)
alike_ruled by game line ruling =
    let its : Event = event.Ruled by.president line.number ruling in
    record {
      map_state = same_map_state game.events its refl refl refl;
      size =
          λ company. size_before game.events its (Some company) refl;
    }

alike_line : (by : Operator) (game : Game) (line : Numbered) (reading : Result Order Fault)
    → Alike game (after_raise_line false by game line reading)
unfolding raise_judgement
alike_line by game line (Ok (order.Play (play.Raise company shares))) = alike_ruled by game line _
alike_line by game line other = alike_same game

alike_raises : (by : Operator) (lines : List Numbered) (game : Game) → Alike game (after_raises false by game lines)
alike_raises by [] game = alike_same game
alike_raises by (line ∷ lines) game =
    let next : Game = after_raise_line false by game line line.reading in
    alike_both game next (after_raises false by next lines) (alike_line by game line line.reading)
    (alike_raises by lines next)

-- the company owns a train, or its president is bankrupt, or it could run none
abbrev Served : Company → Game → Type 0
Served company game = (has_trains game.events company ≡ true)
    ⊎ ((bankrupt_in game.events ≡ true) ⊎ (¬ CanRun (position_of (map_state_now game.events)) company))

-- so it is once it has bought, or its president is bankrupt
served_bought : (by : Operator) (gained new : Game) → new ≡ concluded by gained → TrainsAreHeld gained.events
    → has_trains gained.events by.company ≡ false → Served by.company new
unfolding concluded
served_bought by gained new is held none =
    elim (falls_short by gained) as (λ (b : Bool). new
    ≡ (if b then with_event gained (event.Bankrupt by.president) else after_train (with_aid by gained) by.company
    (cheapest gained.events)) → Served by.company new) [
      | true ↦ λ recorded. inr (inl (ap (λ (game : Game). bankrupt_in game.events) recorded
          ∙ now_bankrupt gained.events by.president))
      | false ↦ λ buys. inl (ap (λ (game : Game). has_trains game.events by.company) buys
          ∙ has_bought by gained held none)
    ]
    is

-- and where it has to buy nothing
served_free : (by : Operator) (lines : List Numbered) (game new : Game) → new ≡ after_raises false by game lines
    → (¬ IsDue game by.company) → Served by.company new
served_free by lines game new is free =
    let alike : Alike game new = subst (Alike game) (sym is) (alike_raises by lines game) in
    let size : has_trains new.events by.company ≡ has_trains game.events by.company =
    ap (lt_z (pos 0)) (alike.size by.company) in
    elim (cases_Bool (has_trains game.events by.company)) [
      | inl owns ↦ inl (size ∙ owns)
      | inr none ↦ inr (inr (λ can. free (
        none,
        subst (λ map_state. CanRun (position_of map_state) by.company)
            alike.map_state can,
      )))
    ]

served : (by : Operator) (lines : List Numbered) (game new : Game) → EndLeads by lines game new
    → AllTrainsAreThere game.events → Served by.company new
unfolding after_forced
served by lines game new (inl due) are_there =
    let gained : Game = gained_of by lines game in
    let sales = of_sale by KeepsTrains (events_keep_trains by.company)
    (λ now company seat. forced_keeps_trains now (event.President company seat) tt refl refl refl) in
    let still : AllTrainsAreThere gained.events = of_gained by KeepsTrains (events_keep_trains by.company) sales lines
    game are_there in
    served_bought by gained new due.1 still.held (gained_none by lines game due.0.0)
served by lines game new (inr none) are_there = served_free by lines game new none.1 none.0

-- so it is in each turn of a company that has a president
of_orders : (file : List ℕ) (round : Round) (company : Company) (game new : Game) (president : Option Seat)
    (seat : Seat) → president ≡ Some seat →
    CompanyOrdersEnd file round company game president new → AllTrainsAreThere game.events → Served company new
of_orders file round company game new None seat is ends are_there = absurd cc
of_orders file round company game new (Some its) seat is ends are_there =
    served (operator company its) (company_orders_for file round its.0 company) game new ends are_there

pub turns_end_with_trains : TurnsEndWithTrains
turns_end_with_trains file round company old new president are_there presides turn =
    let paid : Game = (withheld_if_unpaid company turn.last).game in
    of_orders file round company paid new (president_of old.events company) president presides turn.after
    (of_paid_turn company KeepsTrains (events_keep_trains company) file round old new turn are_there)
