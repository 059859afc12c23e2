-- A ruling among the events of a game says nothing of what anybody has, wherever it stands.
use Rattle.std.proofs.Common.{◌≡◌, ℕ, ◌+◌, cond, List, [], ◌∷◌, ◌++◌}
use Rattle.std.proofs.Common.{Option, None, pos, ◌-ℤ◌, unwrap_or, sum_by, refl, ap, ◌∙◌, arith}
use Rattle.std.proofs.lemmas.List.Sums.{sum_by-append, sum_by-cons}
use Rattle.std.specs.Option.{option_flatten, option_or}
use Rattle.events.specs.Event.{office_of, ownership_of, payment_of, phase_set, train_moved, train_owner_place}
use Rattle.events.specs.declared.event.Event.{Event}
use Rattle.events.specs.declared.event.Event.TheVariants.{Ruled}
use Rattle.events.specs.declared.event.Party.{Party}
use Rattle.events.specs.declared.event.TrainPlace.TheVariants as train_place
use Rattle.events.specs.declared.ruling.Ruling.{Ruling}
use Rattle.purchases.proofs.TrainsAlike.{AreTrainsAlike}
use Rattle.tables.specs.declared.rolling_stock.Kind.{Kind}
use Rattle.tables.specs.declared.rolling_stock.Kind.TheVariants.{Two}
use Rattle.tables.specs.declared.roster.Company.{Company}
use Rattle.tables.specs.declared.roster.Private.{Private}
use Rattle.tables.specs.declared.seat.Seat.{Seat}
use Rattle.totals.proofs.EventAtEnd.{option_or_none}
use Rattle.totals.specs.LookBack.{balance, cash_of, last_said, owner_of, owner_said, paid_by, paid_to, start_of}
use Rattle.totals.specs.Shares.{president_of, president_said}
use Rattle.totals.specs.Trains.{one_if, phase_of, train_comes, train_goes}

-- an event that says nothing of a thing leaves what was said last
said_between : {A : Type 0} (says : Event → Option A) (event : Event) → says event ≡ None
    → (before after : List Event) → last_said says (before ++ event ∷ after) ≡ last_said says (before ++ after)
said_between says event silent [] after =
    ap (λ earlier. option_or (last_said says after) earlier) silent ∙ option_or_none (last_said says after)
said_between says event silent (first ∷ before) after =
    ap (λ later. option_or later (says first)) (said_between says event silent before after)

-- one that counts for nothing leaves the sum
sum_between : (count : Event → ℕ) (event : Event) → count event ≡ 0
    → (before after : List Event) → sum_by count (before ++ event ∷ after) ≡ sum_by count (before ++ after)
sum_between count event none before after =
    let whole : sum_by count (before ++ event ∷ after) ≡ sum_by count before + sum_by count (event ∷ after) =
    sum_by-append count before (event ∷ after) in
    let rest : sum_by count (event ∷ after) ≡ count event + sum_by count after = sum_by-cons count event after in
    let short : sum_by count (before ++ after) ≡ sum_by count before + sum_by count after =
    sum_by-append count before after in
    omega (arith, whole, rest, short, none)

module _ (before after : List Event) (seat : Seat) (number : ℕ) (ruling : Ruling) where
  -- the events, and the same with a ruling between
  abbrev old : List Event
  old = before ++ after

  abbrev new : List Event
  new = before ++ Ruled seat number ruling ∷ after

  same_said : {A : Type 0} (says : Event → Option A) → says (Ruled seat number ruling) ≡ None
      → last_said says new ≡ last_said says old
  same_said says silent = said_between says (Ruled seat number ruling) silent before after

  same_sum : (count : Event → ℕ) → count (Ruled seat number ruling) ≡ 0 → sum_by count new ≡ sum_by count old
  same_sum count none = sum_between count (Ruled seat number ruling) none before after

  same_balance : (start : ℕ) (brings takes : Event → ℕ) → brings (Ruled seat number ruling) ≡ 0
      → takes (Ruled seat number ruling) ≡ 0 → balance start brings takes new ≡ balance start brings takes old
  same_balance start brings takes none_in none_out =
      ap (λ (sum : ℕ). pos (start + sum) -ℤ pos (sum_by takes new)) (same_sum brings none_in)
      ∙ ap (λ (sum : ℕ). pos (start + sum_by brings old) -ℤ pos sum) (same_sum takes none_out)

  -- everybody has the same cash
  pub same_cash : (seats : ℕ) (party : Party) → cash_of seats new party ≡ cash_of seats old party
  same_cash seats party =
      same_balance (start_of seats party) (λ event. paid_to party (payment_of event))
      (λ event. paid_by party (payment_of event)) refl refl

  -- the same owns a private, and presides over a company
  pub same_owner : (private : Private) → owner_of new private ≡ owner_of old private
  same_owner private =
      ap option_flatten (same_said (λ event. owner_said private (ownership_of event)) refl)

  pub same_president : (company : Company) → president_of new company ≡ president_of old company
  same_president company = same_said (λ event. president_said company (office_of event)) refl

  -- as many trains are sold, and lie with each company and in the pool
  pub trains_alike : AreTrainsAlike old new
  trains_alike =
      record {
        sold = λ kind. same_sum (λ event. cond (train_goes train_place.Bank kind (train_moved event)) 1 0) refl;
        held = λ owner kind.
            same_balance 0 (λ event. one_if (train_comes (train_owner_place owner) kind (train_moved event)))
            (λ event. one_if (train_goes (train_owner_place owner) kind (train_moved event))) refl refl;
      }

  -- the phase is the same
  pub same_phase : phase_of new ≡ phase_of old
  same_phase = ap (λ (said : Option Kind). unwrap_or said Two) (same_said phase_set refl)
