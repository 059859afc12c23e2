-- A train goes from one place to another, so that those that the bank has sold are in play or have
-- left it.
use Rattle.std.proofs.Common.{◌≡◌, ℕ, ◌+◌, inl, inr, Bool, true, false, ◌&&◌, List, [], ◌∷◌, Option, Some, None, pos}
use Rattle.std.proofs.Common.{neg_ℤ, ◌-ℤ◌, ◌+ℤ◌, refl, ap, ◌∙◌, arith}
use Rattle.std.proofs.lemmas.Int.{ints}
use Rattle.std.proofs.lemmas.List.Sums.{sum_by-cons}
use Rattle.std.proofs.lemmas.Bool.{cases_Bool}
use Rattle.events.specs.Event.{train_moved}
use Rattle.events.specs.declared.event.Event.{Event}
use Rattle.events.specs.declared.event.Event.TheVariants as event
use Rattle.events.specs.declared.event.TrainMove.{TrainMove}
use Rattle.events.specs.declared.event.TrainPlace.{TrainPlace}
use Rattle.events.specs.declared.event.TrainPlace.TheVariants as place
use Rattle.totals.specs.Trains.{AllTrainsStay, one_if, same_train_place, train_owners, train_comes, train_goes}
use Rattle.totals.specs.Trains.{trains_at, trains_sold, trains_together}
use Rattle.tables.specs.Train.{same_kind}
use Rattle.tables.specs.declared.rolling_stock.Kind.{Kind}
use Rattle.tables.specs.declared.roster.Company.TheVariants.{Pennsylvania, NewYorkCentral, CanadianPacific}
use Rattle.tables.specs.declared.roster.Company.TheVariants.{BaltimoreOhio, ChesapeakeOhio, Erie, NewHaven, BostonMaine}

-- how many of some places meet a test
abbrev times_where : (TrainPlace → Bool) → List TrainPlace → ℕ
times_where test [] = 0
times_where test (one ∷ others) = one_if (test one) + times_where test others

-- how often a place is among some
abbrev times_among : TrainPlace → List TrainPlace → ℕ
times_among at some = times_where (same_train_place at) some

-- a place is once among the bank, those that have trains in play, and the place of those out of
-- play
once_among : (at : TrainPlace) → one_if (same_train_place at place.Bank)
    + (times_among at train_owners + one_if (same_train_place at place.OutOfPlay)) ≡ 1
once_among place.Bank = refl
once_among place.BankPool = refl
once_among (place.Company Pennsylvania) = refl
once_among (place.Company NewYorkCentral) = refl
once_among (place.Company CanadianPacific) = refl
once_among (place.Company BaltimoreOhio) = refl
once_among (place.Company ChesapeakeOhio) = refl
once_among (place.Company Erie) = refl
once_among (place.Company NewHaven) = refl
once_among (place.Company BostonMaine) = refl
once_among place.OutOfPlay = refl

-- the trains at a place with an event before them
pub trains_in_front : (event : Event) (events : List Event) (place : TrainPlace) (kind : Kind)
    → trains_at (event ∷ events) place kind ≡ (trains_at events place kind +ℤ pos
    (one_if (train_comes place kind (train_moved event)))) -ℤ pos (one_if (train_goes place kind (train_moved event)))
trains_in_front event events place kind =
    omega (
      arith,
      ints,
      sum_by-cons (λ e. one_if (train_comes place kind (train_moved e))) event events,
      sum_by-cons
          (λ e. one_if (train_goes place kind (train_moved e))) event events,
    )

-- how many trains an event adds to some places
abbrev come_to : Kind → Option TrainMove → List TrainPlace → ℕ
come_to kind move some = times_where (λ one. train_comes one kind move) some

-- and how many it takes from them
abbrev go_from : Kind → Option TrainMove → List TrainPlace → ℕ
go_from kind move some = times_where (λ one. train_goes one kind move) some

-- the trains at some places with an event before them
together_in_front : (event : Event) (events : List Event) (some : List TrainPlace) (kind : Kind)
    → trains_together (event ∷ events) some kind ≡ (trains_together events some kind +ℤ pos
    (come_to kind (train_moved event) some)) -ℤ pos (go_from kind (train_moved event) some)
together_in_front event events [] kind = omega (arith, ints)
together_in_front event events (one ∷ others) kind =
    omega (arith, ints, trains_in_front event events one kind, together_in_front event events others kind)

-- a place is among some as often where a further test holds
times_held : (here : Bool) (at : TrainPlace) (some : List TrainPlace) → here ≡ true
    → times_where (λ one. here && same_train_place at one) some ≡ times_among at some
times_held true at some holds = refl
times_held false at some holds = absurd cc

-- and never where it fails
times_failed : (here : Bool) (at : TrainPlace) (some : List TrainPlace) → here ≡ false
    → times_where (λ one. here && same_train_place at one) some ≡ 0
times_failed true at some fails = absurd cc
times_failed false at [] fails = refl
times_failed false at (one ∷ others) fails = omega (arith, times_failed false at others refl)

-- no train goes to the bank
abbrev ComesFromBankAlone : Option TrainMove → Type 0
ComesFromBankAlone None = Unit {0}
ComesFromBankAlone (Some move) = same_train_place move.to place.Bank ≡ false

-- by no event
none_to_bank : (event : Event) → ComesFromBankAlone (train_moved event)
none_to_bank (event.Train company kind from price) = refl
none_to_bank (event.Traded company kind) = refl
none_to_bank (event.Rusted owner kind) = refl
none_to_bank (event.Discarded company kind) = refl
none_to_bank (event.Round round) = tt
none_to_bank (event.Ruled seat line ruling) = tt
none_to_bank (event.Passes seat) = tt
none_to_bank (event.Left seat lines) = tt
none_to_bank (event.Sold private seat price) = tt
none_to_bank (event.Bids private seat amount) = tt
none_to_bank (event.Price price) = tt
none_to_bank (event.Revenue private owner amount) = tt
none_to_bank (event.Given company seat shares) = tt
none_to_bank (event.Par company price) = tt
none_to_bank (event.President company seat) = tt
none_to_bank (event.Bought company seat shares from price) = tt
none_to_bank (event.Sells company seat shares price) = tt
none_to_bank (event.Exchanged seat from) = tt
none_to_bank (event.Floats company amount) = tt
none_to_bank (event.Moves company square) = tt
none_to_bank (event.Home company place) = tt
none_to_bank (event.Laid company lay cost) = tt
none_to_bank (event.Token company place cost) = tt
none_to_bank (event.Withheld company amount) = tt
none_to_bank (event.Runs company revenue) = tt
none_to_bank (event.Dividend company holder amount) = tt
none_to_bank (event.Phase kind) = tt
none_to_bank (event.Closed private) = tt
none_to_bank (event.PrivateBought private company seller price) = tt
none_to_bank (event.Forced company) = tt
none_to_bank (event.Aid seat company amount) = tt
none_to_bank (event.Bankrupt seat) = tt
none_to_bank event.Broken = tt

-- what those in play gain and to the place of those out of play went from there, or from the bank
balanced : (kind : Kind) (move : Option TrainMove) → ComesFromBankAlone move
    → come_to kind move train_owners + one_if (train_comes place.OutOfPlay kind move)
    ≡ (go_from kind move train_owners + one_if (train_goes place.OutOfPlay kind move))
    + one_if (train_goes place.Bank kind move)
balanced kind None apart = refl
balanced kind (Some move) apart =
    elim (cases_Bool (same_kind move.kind kind)) [
      | inl same ↦
          omega (
            arith,
            times_held (same_kind move.kind kind) move.to train_owners same,
            times_held (same_kind move.kind kind) move.from train_owners same,
            ap (λ (is : Bool). one_if (is && same_train_place move.to place.OutOfPlay)) same,
            ap (λ (is : Bool). one_if (is && same_train_place move.from place.OutOfPlay)) same,
            ap (λ (is : Bool). one_if (is && same_train_place move.from place.Bank)) same,
            ap one_if apart,
            once_among move.to,
            once_among move.from,
          )
      | inr other ↦
          omega (
            arith,
            times_failed (same_kind move.kind kind) move.to train_owners other,
            times_failed (same_kind move.kind kind) move.from train_owners other,
            ap (λ (is : Bool). one_if (is && same_train_place move.to place.OutOfPlay)) other,
            ap (λ (is : Bool). one_if (is && same_train_place move.from place.OutOfPlay)) other,
            ap (λ (is : Bool). one_if (is && same_train_place move.from place.Bank)) other,
          )
    ]

-- how many the bank has sold, with an event before them
sold_in_front : (event : Event) (events : List Event) (kind : Kind)
    → trains_sold (event ∷ events) kind ≡ one_if (train_goes place.Bank kind (train_moved event))
    + trains_sold events kind
sold_in_front event events kind = sum_by-cons (λ e. one_if (train_goes place.Bank kind (train_moved e))) event events

-- the trains that the bank has sold are in play or have left it
pub trains_stay : AllTrainsStay
trains_stay [] kind = refl
trains_stay (event ∷ events) kind =
    omega (
      arith,
      ints,
      together_in_front event events train_owners kind,
      trains_in_front event events place.OutOfPlay
          kind,
      sold_in_front event events kind,
      balanced kind (train_moved event) (none_to_bank event),
      trains_stay
          events kind,
    )

-- two tests, one of which fails
not_both : (test : Bool) → one_if (test && false) ≡ 0
not_both true = refl
not_both false = refl

-- so none comes there
none_comes : (kind : Kind) (move : Option TrainMove) → ComesFromBankAlone move
    → one_if (train_comes place.Bank kind move) ≡ 0
none_comes kind None none = refl
none_comes kind (Some move) none = ap (λ (is : Bool). one_if (same_kind move.kind kind && is)) none
    ∙ not_both (same_kind move.kind kind)

-- what the bank has of a kind is under nothing by what it has sold
pub bank_sold : (events : List Event) (kind : Kind)
    → trains_at events place.Bank kind ≡ neg_ℤ (pos (trains_sold events kind))
bank_sold [] kind = refl
bank_sold (event ∷ events) kind =
    omega (
      arith,
      ints,
      trains_in_front event events place.Bank kind,
      sold_in_front event events kind,
      none_comes kind (train_moved event) (none_to_bank event),
      bank_sold events kind,
    )
