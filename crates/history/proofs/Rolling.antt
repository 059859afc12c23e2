-- An event that moves no train leaves all trains where they lie. One that moves a train that is
-- there leaves nobody with a negative number, and the bank has sold no more than there are.
use Rattle.std.proofs.Common.{◌≡◌, ℕ, ◌+◌, ◌<◌, inl, inr, Bool, true, false, ◌&&◌, List, [], ◌∷◌}
use Rattle.std.proofs.Common.{◌++◌, Option, Some, None, pos, ◌≤ℤ◌, refl, subst, ap, ◌∙◌, arith}
use Rattle.std.proofs.lemmas.Int.{ints}
use Rattle.std.proofs.lemmas.List.Sums.{sum_by_push}
use Rattle.std.proofs.lemmas.Bool.{and_parts, cases_Bool}
use Rattle.events.specs.Event.{train_owner_place, train_moved}
use Rattle.events.specs.declared.event.Event.{Event}
use Rattle.events.specs.declared.event.TrainMove.{TrainMove}
use Rattle.events.specs.declared.event.TrainPlace.{TrainPlace}
use Rattle.events.specs.declared.event.TrainPlace.TheVariants as place
use Rattle.totals.proofs.EventAtEnd.{trains_at_before, trains_at_end}
use Rattle.totals.specs.Trains.{TrainsAreHeld, one_if, same_train_place, train_goes, trains_at, trains_held}
use Rattle.totals.specs.Trains.{trains_sold}
use Rattle.tables.specs.Train.{same_kind, trains_of}
use Rattle.tables.specs.declared.rolling_stock.Kind.{Kind}
use Rattle.tables.specs.declared.roster.Company.{Company}
use Rattle.tables.proofs.Companies.{company_is}
use Rattle.tables.proofs.TrainKinds.{kind_is}

-- places that are the same
pub same_train_place_is : (a b : TrainPlace) → same_train_place a b ≡ true → a ≡ b
same_train_place_is place.Bank place.Bank same = refl
same_train_place_is place.BankPool place.BankPool same = refl
same_train_place_is (place.Company a) (place.Company b) same = ap place.Company (company_is a b same)
same_train_place_is place.OutOfPlay place.OutOfPlay same = refl
same_train_place_is a b same = absurd cc

-- how many the bank has sold, once one more event is at the end
pub sold_at_end : (events : List Event) (event : Event) (kind : Kind)
    → trains_sold (events ++ event ∷ []) kind ≡ trains_sold events kind
    + one_if (train_goes place.Bank kind (train_moved event))
sold_at_end events event kind = sum_by_push (λ e. one_if (train_goes place.Bank kind (train_moved e))) events event

-- an event that moves no train leaves all trains where they lie
pub trains_kept : (events : List Event) (event : Event) → train_moved event ≡ None → TrainsAreHeld events
    → TrainsAreHeld (events ++ event ∷ [])
trains_kept events event none before =
    record {
      held = λ owner kind. rw (trains_at_before events event (train_owner_place owner) kind none) (before.held owner kind);
      sold = λ kind number there. let few = before.sold kind number there in omega
          (arith, sold_at_end events event kind, ap (λ move. one_if (train_goes place.Bank kind move)) none);
    }

-- a place keeps no fewer than none where the train that goes is one that is there
still_held : (events : List Event) (event : Event) (move : TrainMove) (place : TrainPlace) (kind : Kind)
    → train_moved event ≡ Some move → pos 1 ≤ℤ trains_at events move.from move.kind
    → pos 0 ≤ℤ trains_at events place kind → pos 0 ≤ℤ trains_at (events ++ event ∷ []) place kind
still_held events event move place kind is there before =
    elim (cases_Bool (train_goes place kind (Some move))) [
      | inl goes ↦
          let same = and_parts (same_kind move.kind kind) (same_train_place move.from place) goes in
          let here : pos 1 ≤ℤ trains_at events place kind =
          rw (← (same_train_place_is move.from place same.1), ← (kind_is move.kind kind same.0)) there in
          let fact = trains_at_end events event place kind in
          let other_fact = ap (λ m. one_if (train_goes place kind m)) is in
          omega (arith, ints, ap one_if goes)
      | inr stays ↦
          let fact = trains_at_end events event place kind in
          let other_fact = ap (λ m. one_if (train_goes place kind m)) is in
          omega (arith, ints, ap one_if stays)
    ]

-- a train that leaves a company or the pool is none that the bank sells
never_of_bank : (owner : Option Company) (kind of : Kind) (to : TrainPlace)
    → train_goes place.Bank kind (Some (record { kind = of; from = train_owner_place owner; to = to })) ≡ false
never_of_bank None kind of to = grind arith
never_of_bank (Some company) kind of to = grind arith

-- a train that is there goes from a company or from the pool
pub trains_after_move : (events : List Event) (event : Event) (owner : Option Company) (kind : Kind) (to : TrainPlace)
    → train_moved event ≡ Some (record { kind = kind; from = train_owner_place owner; to = to })
    → pos 1 ≤ℤ trains_held events owner kind → TrainsAreHeld events → TrainsAreHeld (events ++ event ∷ [])
trains_after_move events event owner kind to is there before =
    let move : TrainMove = record { kind = kind; from = train_owner_place owner; to = to } in
    record {
      held = λ other of. still_held events event move (train_owner_place other) of is there (before.held other of);
      sold = λ of number has. let few = before.sold of number has in
          let fact = sold_at_end events event of in
          let other_fact = ap (λ m. one_if (train_goes place.Bank of m)) is in
          omega (arith, ap one_if (never_of_bank owner of kind to));
    }

-- the bank is neither of them
none_from_train_owner : (owner : Option Company) (kind of : Kind) (to : TrainPlace)
    → train_goes (train_owner_place owner) kind (Some (record { kind = of; from = place.Bank; to = to })) ≡ false
none_from_train_owner None kind of to = grind arith
none_from_train_owner (Some company) kind of to = grind arith

-- a train is sold that the bank still has
pub trains_after_sale : (events : List Event) (event : Event) (kind : Kind) (to : TrainPlace)
    → train_moved event ≡ Some (record { kind = kind; from = place.Bank; to = to })
    → ((number : ℕ) → (trains_of kind).number ≡ Some number → trains_sold events kind < number) → TrainsAreHeld events
    → TrainsAreHeld (events ++ event ∷ [])
trains_after_sale events event kind to is left before =
    let move : TrainMove = record { kind = kind; from = place.Bank; to = to } in
    record {
      held = λ other of. let had = before.held other of in
          let fact = trains_at_end events event (train_owner_place other) of in
          let other_fact = ap (λ m. one_if (train_goes (train_owner_place other) of m)) is in
          omega (arith, ints, ap one_if (none_from_train_owner other of kind to));
      sold = λ of number has. elim (cases_Bool (same_kind kind of)) [
        | inl same ↦
            let fewer = left number (ap (λ k. (trains_of k).number) (kind_is kind of same) ∙ has) in
            let sold = subst (λ k. trains_sold events k < number) (kind_is kind of same) fewer in
            let fact = sold_at_end events event of in
            let other_fact = ap (λ m. one_if (train_goes place.Bank of m)) is in
            omega (arith, ap (λ (test : Bool). one_if (test && true)) same)
        | inr other ↦
            let few = before.sold of number has in
            let fact = sold_at_end events event of in
            let other_fact = ap (λ m. one_if (train_goes place.Bank of m)) is in
            omega (arith, ap (λ (test : Bool). one_if (test && true)) other)
      ];
    }

-- at first nobody has trains
pub no_trains : TrainsAreHeld []
no_trains =
    record {
      held = λ owner kind. omega (arith, ints);
      sold = λ kind number there. omega arith;
    }
