-- After the purchase of a train by the rules nobody has a negative number of trains of a kind. The
-- bank has sold no more of them than there are.
use Rattle.std.proofs.Common.{◌≡◌, ℕ, zero, suc, ◌≤◌, Option, Some, None, pos, ◌≤ℤ◌, refl, arith}
use Rattle.std.proofs.lemmas.Int.{ints}
use Rattle.events.specs.declared.event.Event.TheVariants as event
use Rattle.events.specs.declared.event.TrainPlace.TheVariants as place
use Rattle.history.proofs.Rolling.{trains_after_move, trains_kept}
use Rattle.history.proofs.TrainActs.{came_held}
use Rattle.totals.specs.LookBack.{Game, with_event}
use Rattle.totals.specs.Trains.{TrainsAreHeld, at_least_zero, trains_held}
use Rattle.purchases.proofs.TrainLemmas.{may_buy, there_traded}
use Rattle.purchases.proofs.PhaseLemmas.{below_many, first_of_either}
use Rattle.purchases.proofs.Rust.{so_many_less}
use Rattle.purchases.proofs.TrainSteps.{IsPassedOn, OfClosings, OfNextDiscards, OfStables, of_bop, of_choice, of_phase}
use Rattle.purchases.specs.Discard.{next_discard, with_discarded}
use Rattle.purchases.specs.Phases.{with_one_rusted, with_phase}
use Rattle.purchases.specs.Train.{after_train, begins_phase, train_bought, train_judgement, train_purchase_cost}
use Rattle.purchases.specs.Train.{with_trade}
use Rattle.purchases.specs.declared.train.TrainPurchase.{TrainPurchase}
use Rattle.tables.specs.Steps.{iterate}
use Rattle.tables.specs.Train.{kinds}
use Rattle.tables.specs.declared.rolling_stock.Kind.{Kind}
use Rattle.tables.specs.declared.roster.Company.{Company}

-- it is so of a later game if it was before
abbrev StillHeld : Game → Game → Type 0
StillHeld before after = TrainsAreHeld before.events → TrainsAreHeld after.events

-- so it is passed on
held_on : IsPassedOn StillHeld
held_on = record { same = λ game held. held; both = λ a b c one two held. two (one held) }

-- after a private has closed
closing_held : OfClosings StillHeld
closing_held game private held = trains_kept game.events (event.Closed private) refl held

-- after some trains of a stable have rusted, no more than it had
some_rusted_held : (owner : Option Company) (kind : Kind) (n : ℕ) (game : Game)
    → n ≤ at_least_zero (trains_held game.events owner kind) → StillHeld game (iterate (with_one_rusted owner kind) n game)
some_rusted_held owner kind zero game few held = held
some_rusted_held owner kind (suc n) game few held =
    let before = iterate (with_one_rusted owner kind) n game in
    let here : pos 1 ≤ℤ trains_held before.events owner kind =
    omega (
      arith,
      ints,
      so_many_less kind owner n game,
      below_many (trains_held game.events owner kind) n
          (omega arith),
    ) in
    trains_after_move before.events (event.Rusted owner kind) owner kind place.OutOfPlay refl here
    (some_rusted_held owner kind n game (omega arith) held)

-- after all of a stable have
train_count_held : (kind : Kind) → OfStables StillHeld kind
train_count_held kind owner game held =
    some_rusted_held owner kind (at_least_zero (trains_held game.events owner kind)) game (omega arith) held

-- after a company has discarded the next
discarded_held : (game : Game) (company : Company) (found : Option Kind) → next_discard game.events company ≡ found
    → StillHeld game (with_discarded game company found)
discarded_held game company None next held = held
discarded_held game company (Some kind) next held =
    let has = first_of_either game.events company _ kinds kind next in
    trains_after_move game.events (event.Discarded company kind) (Some company) kind place.BankPool refl
    (grind (arith, ints, has)) held

next_held : OfNextDiscards StillHeld
next_held company game held = discarded_held game company (next_discard game.events company) refl held

-- after a phase has begun
phase_held : (game : Game) (phase : Kind) → StillHeld game (with_phase game phase)
phase_held game phase held =
    of_phase StillHeld held_on closing_held train_count_held next_held game phase
    (trains_kept game.events (event.Phase phase) refl held)

-- after a train that the company has is traded in
traded_held : (game : Game) (company : Company) (trade_in : Option Kind)
    → ((old : Kind) → trade_in ≡ Some old → pos 1 ≤ℤ trains_held game.events (Some company) old)
    → StillHeld game (with_trade game company trade_in)
traded_held game company None has held = held
traded_held game company (Some kind) has held =
    trains_after_move game.events (event.Traded company kind) (Some company) kind place.BankPool refl (has kind refl)
    held

-- after the company has bought
pub bought_held : (game : Game) (buyer : Company) (purchase : TrainPurchase) → train_judgement game buyer purchase ≡ None
    → StillHeld game (train_bought game buyer purchase)
bought_held game buyer purchase none held =
    let may = may_buy game buyer purchase none in
    let traded = with_trade game buyer purchase.trade_in in
    let price = train_purchase_cost purchase in
    let there = there_traded game buyer purchase.trade_in purchase.from purchase.kind may.another may.there in
    of_bop StillHeld held_on closing_held (with_event traded (event.Train buyer purchase.kind purchase.from price))
    buyer
    (came_held traded.events buyer purchase.kind purchase.from price there
    (traded_held game buyer purchase.trade_in may.trades held))

-- and after all that follows
pub purchase_held : (game : Game) (buyer : Company) (purchase : TrainPurchase) → train_judgement game buyer purchase ≡ None
    → StillHeld game (after_train game buyer purchase)
purchase_held game buyer purchase none =
    let came = train_bought game buyer purchase in
    let first : StillHeld game came = bought_held game buyer purchase none in
    of_choice StillHeld (begins_phase game.events purchase.from purchase.kind) game (with_phase came purchase.kind)
    came (λ held. phase_held came purchase.kind (first held)) first
