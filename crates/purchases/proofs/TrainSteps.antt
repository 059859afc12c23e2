-- What holds of each event that the purchase of a train brings, and of one after the other, holds
-- of all of them.
use Rattle.std.proofs.Common.{◌≡◌, ℕ, zero, suc, ◌≤◌, ◌<◌, ◌==◌, Bool, true, false, nat_lt, if◌then◌else◌, List}
use Rattle.std.proofs.Common.{[], ◌∷◌, ◌++◌, Option, Some, None, is_some, unwrap_or, refl, ap, ◌∙◌, arith}
use Rattle.std.proofs.lemmas.Bool.{and_parts}
use Rattle.std.proofs.lemmas.Bool.Decides.{nat_tests}
use Rattle.std.specs.List.{fold}
use Rattle.events.specs.Event.{phase_set}
use Rattle.events.specs.declared.event.Event.{Event}
use Rattle.events.specs.declared.event.Event.TheVariants as event
use Rattle.events.specs.declared.event.TrainSeller.{TrainSeller}
use Rattle.events.specs.declared.event.TrainSeller.TheVariants as seller
use Rattle.totals.proofs.EventAtEnd.{last_said_at_end, last_said_before}
use Rattle.totals.specs.LookBack.{Game, owner_of, with_event}
use Rattle.totals.specs.Trains.{phase_of, at_least_zero, trains_held, trains_sold}
use Rattle.purchases.specs.Discard.{next_discard, with_discarded, with_next_discarded}
use Rattle.purchases.specs.Phases.{excess_of, rusts_at, with_all_closed, with_closed, with_company_rusted}
use Rattle.purchases.specs.Phases.{with_kind_rusted, with_kind_rusted_at, with_limit_kept, with_limits_kept}
use Rattle.purchases.specs.Phases.{with_one_rusted, with_phase, with_privates_closed, with_rusted, with_trains_rusted}
use Rattle.purchases.specs.Train.{begins_phase, train_bought, train_purchase_cost, with_bop_closed, with_trade}
use Rattle.purchases.specs.TrainLaws.{PhasesGoOn}
use Rattle.purchases.specs.declared.train.TrainPurchase.{TrainPurchase}
use Rattle.tables.specs.Roster.{companies, privates, same_company}
use Rattle.tables.specs.Steps.{iterate}
use Rattle.tables.specs.Train.{kinds, index_of_kind, rusting_of, same_kind}
use Rattle.tables.specs.declared.rolling_stock.Kind.{Kind}
use Rattle.tables.specs.declared.rolling_stock.Kind.TheVariants.{Two, Five}
use Rattle.tables.specs.declared.roster.Company.{Company}
use Rattle.tables.specs.declared.roster.Company.TheVariants as company
use Rattle.tables.specs.declared.roster.Private.{Private}
use Rattle.tables.specs.declared.roster.Private.TheVariants as private

-- it holds between a game and itself, and of one after the other
pub record IsPassedOn (R : Game → Game → Type 0) : Type 0 where
  pub same : (game : Game) → R game game
  pub both : (a b c : Game) → R a b → R b c → R a c

-- it holds of these events
abbrev pub OfTrades : (Game → Game → Type 0) → Type 0
OfTrades R = (game : Game) (company : Company) (kind : Kind) → R game (with_event game (event.Traded company kind))

abbrev pub OfClosings : (Game → Game → Type 0) → Type 0
OfClosings R = (game : Game) (private : Private) → R game (with_event game (event.Closed private))

abbrev pub OfRustings : (Game → Game → Type 0) → Kind → Type 0
OfRustings R kind = (game : Game) (owner : Option Company) → R game (with_event game (event.Rusted owner kind))

abbrev pub OfDiscards : (Game → Game → Type 0) → Type 0
OfDiscards R = (game : Game) (company : Company) (kind : Kind) → R game (with_event game (event.Discarded company kind))

-- of all trains of a kind in a stable that rust, and of the train that a company discards next
abbrev pub OfStables : (Game → Game → Type 0) → Kind → Type 0
OfStables R kind = (owner : Option Company) (game : Game) → R game (with_trains_rusted owner kind game)

abbrev pub OfNextDiscards : (Game → Game → Type 0) → Type 0
OfNextDiscards R = (company : Company) (game : Game) → R game (with_next_discarded company game)

-- of steps for each of a list
pub of_fold : {X : Type 0} (R : Game → Game → Type 0) (step : Game → X → Game) → IsPassedOn R
    → ((game : Game) (x : X) → R game (step game x)) → (game : Game) (xs : List X) → R game (fold step game xs)
of_fold R step on each game [] = on.same game
of_fold R step on each game (x ∷ xs) =
    on.both game (step game x) (fold step (step game x) xs) (each game x) (of_fold R step on each (step game x) xs)

-- of a step that is repeated
pub of_iterate : (R : Game → Game → Type 0) (step : Game → Game) → IsPassedOn R → ((game : Game) → R game (step game))
    → (n : ℕ) (game : Game) → R game (iterate step n game)
of_iterate R step on each zero game = on.same game
of_iterate R step on each (suc n) game =
    on.both game (iterate step n game) (iterate step (suc n) game) (of_iterate R step on each n game)
    (each (iterate step n game))

-- of a choice between two
pub of_choice : (R : Game → Game → Type 0) (test : Bool) (game a b : Game) → R game a → R game b
    → R game (if test then a else b)
of_choice R true game a b first second = first
of_choice R false game a b first second = second

-- of a private that closes
pub of_closed : (R : Game → Game → Type 0) → IsPassedOn R → OfClosings R → (game : Game) (private : Private)
    → R game (with_closed game private)
of_closed R on closes game private =
    of_choice R (is_some (owner_of game.events private)) game (with_event game (event.Closed private)) game
    (closes game private) (on.same game)

-- of those that all close
pub of_privates : (R : Game → Game → Type 0) → IsPassedOn R → OfClosings R → (phase : Kind) (game : Game)
    → R game (with_privates_closed phase game)
of_privates R on closes phase game =
    of_choice R (same_kind phase Five) game (with_all_closed game) game
    (of_fold R with_closed on (of_closed R on closes) game privates) (on.same game)

-- of the trains of a stable that rust
pub of_train_owner : (R : Game → Game → Type 0) → IsPassedOn R → (kind : Kind) → OfRustings R kind → OfStables R kind
of_train_owner R on kind rusts owner game =
    of_iterate R (with_one_rusted owner kind) on (λ now. rusts now owner)
    (at_least_zero (trains_held game.events owner kind)) game

-- of those of a kind
pub of_kind : (R : Game → Game → Type 0) → IsPassedOn R → (kind : Kind) → OfStables R kind → (game : Game)
    → R game (with_kind_rusted game kind)
of_kind R on kind rusts game =
    let there = fold (with_company_rusted kind) game companies in
    on.both game there (with_trains_rusted None kind there)
    (of_fold R (with_company_rusted kind) on (λ now company. rusts (Some company) now) game companies)
    (rusts None there)

-- of all that rust
of_rusted : (R : Game → Game → Type 0) → IsPassedOn R → ((kind : Kind) → OfStables R kind)
    → (new : Kind) (game : Game) → R game (with_rusted new game)
of_rusted R on rusts new game =
    of_fold R (with_kind_rusted_at new) on (λ now kind. of_choice R (rusts_at (rusting_of kind) new) now
    (with_kind_rusted now kind) now (of_kind R on kind (rusts kind) now) (on.same now)) game kinds

-- of a train that is discarded
pub of_discarded : (R : Game → Game → Type 0) → IsPassedOn R → OfDiscards R
    → (game : Game) (company : Company) (kind : Option Kind) → R game (with_discarded game company kind)
of_discarded R on discards game company None = on.same game
of_discarded R on discards game company (Some kind) = discards game company kind

pub of_next : (R : Game → Game → Type 0) → IsPassedOn R → OfDiscards R → OfNextDiscards R
of_next R on discards company game =
    of_discarded R on discards game company (next_discard game.events company)

-- of all that are
pub of_limits : (R : Game → Game → Type 0) → IsPassedOn R → OfNextDiscards R → (game : Game)
    → R game (with_limits_kept game)
of_limits R on discards game =
    of_fold R with_limit_kept on (λ now company. of_iterate R (with_next_discarded company) on (discards company)
    (excess_of now company) now) game companies

-- of all that follows once a phase has begun
pub of_phase : (R : Game → Game → Type 0) → IsPassedOn R → OfClosings R → ((kind : Kind) → OfStables R kind)
    → OfNextDiscards R → (game : Game) (phase : Kind) → R (with_event game (event.Phase phase)) (with_phase game phase)
of_phase R on closes rusts discards game phase =
    let begun = with_event game (event.Phase phase) in
    let rusted = with_rusted phase begun in
    let closed = with_privates_closed phase rusted in
    on.both begun closed (with_limits_kept closed)
    (on.both begun rusted closed (of_rusted R on rusts phase begun) (of_privates R on closes phase rusted))
    (of_limits R on discards closed)

-- of a train that is traded in
pub of_trade : (R : Game → Game → Type 0) → IsPassedOn R → OfTrades R
    → (game : Game) (company : Company) (kind : Option Kind) → R game (with_trade game company kind)
of_trade R on trades game company None = on.same game
of_trade R on trades game company (Some kind) = trades game company kind

-- of BOP, where it closes
pub of_bop : (R : Game → Game → Type 0) → IsPassedOn R → OfClosings R → (game : Game) (buyer : Company)
    → R game (with_bop_closed game buyer)
of_bop R on closes game buyer =
    of_choice R (same_company buyer company.BaltimoreOhio) game (with_closed game private.BaltimoreOhio) game
    (of_closed R on closes game private.BaltimoreOhio) (on.same game)

-- the phase is the same
abbrev SamePhase : Game → Game → Type 0
SamePhase a b = phase_of b.events ≡ phase_of a.events

-- after an event that begins none
phase_before : (game : Game) (event : Event) → phase_set event ≡ None → SamePhase game (with_event game event)
phase_before game event none =
    ap (λ (said : Option Kind). unwrap_or said Two)
    (last_said_before phase_set (game.events ++ event ∷ []) game.events event refl none)

-- so it is passed on
same_phase_on : IsPassedOn SamePhase
same_phase_on = record { same = λ game. refl; both = λ a b c first second. second ∙ first }

-- a purchase by itself begins none
pub phase_bought : (game : Game) (buyer : Company) (purchase : TrainPurchase) → SamePhase game (train_bought game buyer purchase)
phase_bought game buyer purchase =
    let traded = with_trade game buyer purchase.trade_in in
    let price = train_purchase_cost purchase in
    let came = with_event traded (event.Train buyer purchase.kind purchase.from price) in
    of_bop SamePhase same_phase_on (λ now private. phase_before now (event.Closed private) refl) came buyer
    ∙ phase_before traded (event.Train buyer purchase.kind purchase.from price) refl
    ∙ of_trade SamePhase same_phase_on (λ now company kind. phase_before now (event.Traded company kind) refl) game
    buyer purchase.trade_in

-- a phase that begins is the phase
phase_begun : (game : Game) (kind : Kind) → phase_of (with_event game (event.Phase kind)).events ≡ kind
phase_begun game kind =
    ap (λ (said : Option Kind). unwrap_or said Two) (last_said_at_end phase_set game.events (event.Phase kind))

-- and it is the phase after all that follows
pub phase_then : (game : Game) (phase : Kind) → phase_of (with_phase game phase).events ≡ phase
phase_then game phase =
    of_phase SamePhase same_phase_on (λ now private. phase_before now (event.Closed private) refl)
    (λ kind. of_train_owner SamePhase same_phase_on kind
    (λ now owner. phase_before now (event.Rusted owner kind) refl))
    (of_next SamePhase same_phase_on (λ now company kind. phase_before now (event.Discarded company kind) refl))
    game phase
    ∙ phase_begun game phase

-- one that a purchase begins is later
pub later_begins : (events : List Event) (from : TrainSeller) (kind : Kind) → begins_phase events from kind ≡ true
    → index_of_kind (phase_of events) < index_of_kind kind
later_begins events seller.Bank kind begins =
    let both_hold = and_parts (trains_sold events kind == 0)
    (nat_lt (index_of_kind (phase_of events)) (index_of_kind kind)) begins in
    grind (arith, nat_tests, both_hold.1)
later_begins events seller.BankPool kind begins = absurd (cc)
later_begins events (seller.Company owner) kind begins = absurd (cc)

-- the phase after a purchase
phase_after : (game : Game) (buyer : Company) (purchase : TrainPurchase) (begins : Bool)
    → begins_phase game.events purchase.from purchase.kind ≡ begins
    → index_of_kind (phase_of game.events) ≤ index_of_kind
    (phase_of (if begins then with_phase (train_bought game buyer purchase) purchase.kind else train_bought game buyer
    purchase).events)
phase_after game buyer purchase true begins =
    let there = train_bought game buyer purchase in
    let is = phase_then there purchase.kind in
    let later = later_begins game.events purchase.from purchase.kind begins in
    omega (arith, ap index_of_kind is)
phase_after game buyer purchase false begins =
    omega (arith, ap index_of_kind (phase_bought game buyer purchase))

-- phases never go back
pub phases_go_on : PhasesGoOn
phases_go_on game buyer purchase = phase_after game buyer purchase
    (begins_phase game.events purchase.from purchase.kind) refl
