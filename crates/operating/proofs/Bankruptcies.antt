-- A bankruptcy is the last event of a company's turn: no event before it is one.
use Rattle.std.proofs.Common.{◌≡◌, inl, inr, ℕ, Bool, true, false, ◌||◌, if◌then◌else◌, List, [], ◌∷◌, ◌++◌, Option}
use Rattle.std.proofs.Common.{Some, None, pos, refl, sym, ap, ◌∙◌}
use Rattle.std.proofs.lemmas.Bool.{false≢true}
use Rattle.std.proofs.lemmas.List.Folds.{list_any-append}
use Rattle.std.specs.Int.Signed.{lt_z}
use Rattle.std.proofs.Math.Bool.{or-true, or-false}
use Rattle.events.specs.Event.{says_bankrupt}
use Rattle.events.specs.declared.event.Event.{Event}
use Rattle.events.specs.declared.event.Event.TheVariants as event
use Rattle.totals.specs.LookBack.{Game, bankrupt_in, with_event}
use Rattle.totals.specs.Shares.{president_of}
use Rattle.operating.proofs.ForcedGames.{OfSales, gained_none, gained_of, of_bought, of_gained, of_raises, of_sale}
use Rattle.operating.proofs.ForcedGames.{operator}
use Rattle.forced_purchase.proofs.TrainCounts.{size_before}
use Rattle.operating.proofs.Presidency.{president_stays}
use Rattle.purchases.proofs.TrainSteps.{IsPassedOn}
use Rattle.operating.proofs.TurnEvents.{IsOfTurn}
use Rattle.operating.proofs.TurnGames.{OfEvents, by_each, of_paid_turn}
use Rattle.operating.specs.TurnEnd.{EndLeads}
use Rattle.forced_purchase.specs.Forced.{after_forced, concluded, with_aid}
use Rattle.forced_purchase.specs.Shortfall.{cheapest, falls_short}
use Rattle.purchases.specs.Train.{has_trains}
use Rattle.operating.specs.ForcedLaws.{BankruptcyEndsTurns, EndsBankrupt}
use Rattle.purchases.specs.Train.{after_train}
use Rattle.operating.specs.Pay.{withheld_if_unpaid}
use Rattle.operating.specs.Turn.{CompanyOrdersEnd}
use Rattle.forced_purchase.specs.declared.operator.Operator.{Operator}
use Rattle.sheets.specs.CompanyOrders.{company_orders_for}
use Rattle.sheets.specs.Part.{Numbered}
use Rattle.tables.specs.declared.roster.Company.{Company}
use Rattle.tables.specs.declared.round.Round.{Round}
use Rattle.tables.specs.declared.seat.Seat.{Seat}

-- no other event of a turn says so
tells_none : (company : Company) (game : Game) (its : Event) → IsOfTurn company game its → says_bankrupt its ≡ false
tells_none company game (event.Bankrupt seat) is = absurd is
tells_none company game other is = refl

-- with one more event
one_more : (events : List Event) (its : Event) → says_bankrupt its ≡ false
    → bankrupt_in (events ++ its ∷ []) ≡ bankrupt_in events
one_more events its none =
    list_any-append says_bankrupt events (its ∷ [])
    ∙ ap (λ (b : Bool). bankrupt_in events || (b || false)) none
    ∙ or-false (bankrupt_in events)

-- with a bankruptcy somebody is bankrupt
pub now_bankrupt : (events : List Event) (seat : Seat) → bankrupt_in (events ++ event.Bankrupt seat ∷ []) ≡ true
now_bankrupt events seat = list_any-append says_bankrupt events (event.Bankrupt seat ∷ [])
    ∙ or-true (bankrupt_in events)

-- as many are bankrupt
abbrev Same : Game → Game → Type 0
Same before after = bankrupt_in after.events ≡ bankrupt_in before.events

of_turn_events : (company : Company) → OfEvents company Same
of_turn_events company =
    let on : IsPassedOn Same = record { same = λ game. refl; both = λ a b c one two. two ∙ one } in
    by_each company Same on (λ game its is. one_more game.events its (tells_none company game its is))

of_sales : (by : Operator) → OfSales by Same
of_sales by = of_sale by Same (of_turn_events by.company)
    (λ game company seat. one_more game.events (event.President company seat) refl)

-- nobody is bankrupt, and somebody is
not_both : (before after : Game) → Same before after → bankrupt_in before.events ≡ false
    → bankrupt_in after.events ≡ true → ⊥
not_both before after same solvent bankrupt = false≢true (sym (same ∙ solvent) ∙ bankrupt)

module _ (by : Operator) (new : Game) (presides : president_of new.events by.company ≡ Some by.president)
    (bankrupt : bankrupt_in new.events ≡ true) where
  -- where the purchase ends so, once the money is raised
  of_concluded : (gained : Game) → new ≡ concluded by gained → bankrupt_in gained.events ≡ false
      → has_trains gained.events by.company ≡ false → EndsBankrupt new by.company
  unfolding concluded
  of_concluded gained is solvent none =
      elim (falls_short by gained) as (λ (b : Bool). new
      ≡ (if b then with_event gained (event.Bankrupt by.president) else after_train (with_aid by gained)
      by.company (cheapest gained.events)) → EndsBankrupt new by.company) [
        | true ↦ λ recorded. record {
          before = gained.events;
          president = by.president;
          presides = presides;
          last = ap (λ (game : Game). game.events) recorded;
          first = solvent;
          none = ap (λ (game : Game). has_trains game.events by.company) recorded
              ∙ ap (lt_z (pos 0)) (size_before gained.events (event.Bankrupt by.president) (Some by.company) refl)
              ∙ none;
        }
        | false ↦ λ bought.
            let same : Same gained new = ap (λ (game : Game). bankrupt_in game.events) bought
            ∙ of_bought by Same (of_turn_events by.company) (of_sales by) gained none in
            absurd (not_both gained new same solvent bankrupt)
      ]
      is

  -- where the turn ends so
  of_end : (lines : List Numbered) (game : Game) → EndLeads by lines game new → bankrupt_in game.events ≡ false
      → EndsBankrupt new by.company
  unfolding after_forced
  of_end lines game (inl due) solvent =
      let gained : Game = gained_of by lines game in
      of_concluded gained due.1 (of_gained by Same (of_turn_events by.company) (of_sales by) lines game ∙ solvent)
      (gained_none by lines game due.0.0)
  of_end lines game (inr none) solvent =
      let same : Same game new = ap (λ (after : Game). bankrupt_in after.events) none.1
      ∙ of_raises by Same (of_turn_events by.company) (of_sales by) false lines game in
      absurd (not_both game new same solvent bankrupt)

-- so it is with the orders of the president
of_orders : (file : List ℕ) (round : Round) (company : Company) (game new : Game) (president : Option Seat)
    → president_of new.events company ≡ president →
    CompanyOrdersEnd file round company game president new → bankrupt_in game.events ≡ false
    → bankrupt_in new.events ≡ true → EndsBankrupt new company
of_orders file round company game new None presides ends solvent bankrupt =
    absurd (not_both game new (ap (λ (after : Game). bankrupt_in after.events) ends) solvent bankrupt)
of_orders file round company game new (Some seat) presides ends solvent bankrupt =
    of_end (operator company seat) new presides bankrupt (company_orders_for file round seat.0 company) game ends
    solvent

-- and in each company's turn
pub bankruptcy_ends : BankruptcyEndsTurns
bankruptcy_ends file round company old new turn solvent bankrupt =
    let paid : Game = (withheld_if_unpaid company turn.last).game in
    of_orders file round company paid new (president_of old.events company)
    (president_stays file round company old new turn) turn.after
    (of_paid_turn company Same (of_turn_events company) file round old new turn ∙ solvent) bankrupt
