-- The trains of a kind that are with the bank, the pool and the companies are as many as there were
-- at first until they rust, and none after.
use Rattle.std.proofs.Common.{◌≡◌, ℕ, ◌<◌, Bool, true, false, ◌&&◌, List, [], ◌∷◌, ◌++◌, Option, None, unwrap_or, pos}
use Rattle.std.proofs.Common.{◌-ℤ◌, ℤ, refl, sym, ap, subst, ◌∙◌, arith}
use Rattle.std.proofs.lemmas.Int.{ints}
use Rattle.std.proofs.Math.Bool.{and-false}
use Rattle.events.specs.Event.{phase_set, train_owner_place, train_moved}
use Rattle.events.specs.declared.event.Event.{Event}
use Rattle.events.specs.declared.event.Event.TheVariants as event
use Rattle.events.specs.declared.event.TrainPlace.TheVariants as place
use Rattle.totals.proofs.AllTrains.{trains_stay}
use Rattle.totals.proofs.EventAtEnd.{last_said_before, trains_at_before, trains_at_end}
use Rattle.history.proofs.Rolling.{no_trains, sold_at_end, trains_kept}
use Rattle.totals.specs.LookBack.{Game, with_event}
use Rattle.totals.specs.Trains.{one_if, phase_of, same_train_place, train_comes, train_goes, trains_at, trains_sold}
use Rattle.purchases.proofs.TrainSteps.{IsPassedOn, OfClosings, OfDiscards, OfRustings, OfTrades}
use Rattle.purchases.specs.TrainLaws.{AllTrainsAreThereAtFirst, OthersKeepAll, OthersKeepStanding, TrainsAreAll}
use Rattle.purchases.specs.TrainLaws.{has_come, trains_there}
use Rattle.tables.specs.Train.{index_of_kind, rusting_of, same_kind}
use Rattle.tables.specs.declared.rolling_stock.Kind.{Kind}
use Rattle.tables.specs.declared.rolling_stock.Kind.TheVariants.{Two, Three, Four, Five, Six, Diesel}

-- those that are there are all but those that have left play
pub there_is : (events : List Event) (kind : Kind) (number : ℕ)
    → trains_there events kind number ≡ pos number -ℤ trains_at events place.OutOfPlay kind
there_is events kind number = omega (arith, ints, trains_stay events kind)

-- as many are there where as many have left play
pub as_many : (before after : List Event) (kind : Kind) (number : ℕ)
    → trains_at after place.OutOfPlay kind ≡ trains_at before place.OutOfPlay kind
    → trains_there after kind number ≡ trains_there before kind number
as_many before after kind number out =
    there_is after kind number ∙ ap (λ (left : ℤ). pos number -ℤ left) out ∙ sym (there_is before kind number)

-- between a game and a later one the bank sells none of a kind, and none of it is removed from the game
pub record Alike (kind : Kind) (before after : Game) : Type 0 where
  pub sold : trains_sold after.events kind ≡ trains_sold before.events kind
  pub out : trains_at after.events place.OutOfPlay kind ≡ trains_at before.events place.OutOfPlay kind

-- it is passed on
pub alike_on : (kind : Kind) → IsPassedOn (Alike kind)
alike_on kind =
    record {
      same = λ game. record { sold = refl; out = refl };
      both = λ a b c one two. record { sold = two.sold ∙ one.sold; out = two.out ∙ one.out };
    }

-- of an event that neither takes such a train from the bank nor out of play
alike_by : (kind : Kind) (game : Game) (event : Event) → train_goes place.Bank kind (train_moved event) ≡ false
    → train_comes place.OutOfPlay kind (train_moved event) ≡ false
    → train_goes place.OutOfPlay kind (train_moved event) ≡ false → Alike kind game (with_event game event)
alike_by kind game event sells comes goes =
    record {
      sold = omega (arith, sold_at_end game.events event kind, ap one_if sells);
      out = omega (arith, ints, trains_at_end game.events event place.OutOfPlay kind, ap one_if comes, ap one_if goes);
    }

pub alike_traded : (kind : Kind) → OfTrades (Alike kind)
alike_traded kind game company old =
    alike_by kind game (event.Traded company old) (and-false (same_kind old kind)) (and-false (same_kind old kind))
    (and-false (same_kind old kind))

pub alike_discarded : (kind : Kind) → OfDiscards (Alike kind)
alike_discarded kind game company old =
    alike_by kind game (event.Discarded company old) (and-false (same_kind old kind)) (and-false (same_kind old kind))
    (and-false (same_kind old kind))

pub alike_closed : (kind : Kind) → OfClosings (Alike kind)
alike_closed kind game private = alike_by kind game (event.Closed private) refl refl refl

pub alike_phase : (kind : Kind) (game : Game) (phase : Kind) → Alike kind game (with_event game (event.Phase phase))
alike_phase kind game phase = alike_by kind game (event.Phase phase) refl refl refl

-- trains of another kind rust
pub alike_rusted : (kind other : Kind) → same_kind other kind ≡ false → OfRustings (Alike kind) other
alike_rusted kind other apart game owner =
    alike_by kind game (event.Rusted owner other) (ap
    (λ (b : Bool). b && same_train_place (train_owner_place owner) place.Bank) apart)
    (ap (λ (b : Bool). b && true) apart) (ap (λ (b : Bool). b
    && same_train_place (train_owner_place owner) place.OutOfPlay) apart)

-- no kind has rusted in the phase of the 2
none_gone : (kind : Kind) → has_come Two (rusting_of kind) ≡ true → ⊥
none_gone Two gone = absurd (cc)
none_gone Three gone = absurd (cc)
none_gone Four gone = absurd (cc)
none_gone Five gone = absurd (cc)
none_gone Six gone = absurd (cc)
none_gone Diesel gone = absurd (cc)

-- at first all are there
all_at_first : TrainsAreAll []
all_at_first =
    record {
      until = λ kind number there stays. omega (arith, ints, there_is [] kind number);
      after = λ kind number there gone. absurd (none_gone kind gone);
      begun = λ later. absurd (omega arith);
      latest = λ kind sold. absurd (omega arith);
      in_order = λ earlier later number there numbered before sold. absurd (omega arith);
    }

pub stand_at_first : AllTrainsAreThereAtFirst
stand_at_first = record { held = no_trains; all = all_at_first }

-- an event that begins no phase
pub phase_kept : (events : List Event) (event : Event) → phase_set event ≡ None
    → phase_of (events ++ event ∷ []) ≡ phase_of events
phase_kept events event none =
    ap (λ (said : Option Kind). unwrap_or said Two)
    (last_said_before phase_set (events ++ event ∷ []) events event refl none)

-- an event by which no train moves
sold_same : (events : List Event) (event : Event) (kind : Kind) → train_moved event ≡ None
    → trains_sold (events ++ event ∷ []) kind ≡ trains_sold events kind
sold_same events event kind none =
    omega (arith, sold_at_end events event kind, ap (λ move. one_if (train_goes place.Bank kind move)) none)

-- an event by which no train moves and no phase begins
pub others_keep_all : OthersKeepAll
others_keep_all events event none no_phase all =
    let phase = phase_kept events event no_phase in
    let still : (kind : Kind) (number : ℕ) → trains_there (events ++ event ∷ []) kind number
    ≡ trains_there events kind number = λ kind number. as_many events (events ++ event ∷ []) kind number
    (trains_at_before events event place.OutOfPlay kind none) in
    record {
      until = λ kind number there stays. still kind number
          ∙ all.until kind number there (ap (λ p. has_come p (rusting_of kind)) (sym phase) ∙ stays);
      after = λ kind number there gone. still kind number
          ∙ all.after kind number there (ap (λ p. has_come p (rusting_of kind)) (sym phase) ∙ gone);
      begun = λ later. subst (λ p. 0 < trains_sold (events ++ event ∷ []) p) (sym phase)
          (let was = all.begun (subst (λ p. 0 < index_of_kind p) phase later) in omega
          (arith, sold_same events event (phase_of events) none));
      latest = λ kind sold. let was = all.latest kind
          (subst (λ n. 0 < n) (sold_same events event kind none) sold) in omega (arith, ap index_of_kind phase);
      in_order = λ earlier later number there numbered before sold. sold_same events event earlier none
          ∙ all.in_order earlier later number there numbered before
          (subst (λ n. 0 < n) (sold_same events event later none) sold);
    }

-- and nobody has a negative number then
pub others_keep_standing : OthersKeepStanding
others_keep_standing events event none no_phase are_there =
    record {
      held = trains_kept events event none are_there.held;
      all = others_keep_all events event none no_phase are_there.all;
    }
