-- Within an opening round the list of events grows, and its new events stand aside.
use Rattle.std.proofs.Common.{◌≡◌, ℕ, Bool, true, List, [], ◌∷◌, ◌++◌, refl}
use Rattle.std.proofs.lemmas.Bool.{and_parts}
use Rattle.events.specs.declared.event.Event.{Event}
use Rattle.events.specs.declared.event.Event.TheVariants as event
use Rattle.events.specs.declared.ruling.Refusal.TheVariants as refusal
use Rattle.totals.specs.LookBack.{Game}
use Rattle.privates.specs.Opening.{IsOpeningRound}
use Rattle.privates.specs.Standing.{has_place_before_turns, opening_standing_judgement, opening_standing_refusal}
use Rattle.privates.specs.Standing.{opening_standing_ruling}
use Rattle.privates.specs.Turn.{opening_judgement, opening_line_ruling, opening_refusal, opening_rules}
use Rattle.privates.specs.Turn.{turn_after_opening_order}
use Rattle.rounds.proofs.Growing.{◌⨾◌, Grows, GrowsBy, and_plain, by_one_event, is_aside, is_still}
use Rattle.rounds.proofs.Growing.{stays}
use Rattle.rounds.proofs.Growing.{still_and_plain_is_aside}
use Rattle.rounds.proofs.OpeningSteps.{AnyPrivate, AnySeat, OfOpening, of_act, of_close, of_opening}
use Rattle.rounds.proofs.PlainRounds.{of_mapped, recorded_plain, ruled_plain, ruling_plain}
use Rattle.rounds.proofs.PlainRounds.{AddsPlain}
use Rattle.rounds.specs.PlainLines.{is_plain}
use Rattle.tables.specs.declared.roster.Private.{Private}
use Rattle.tables.specs.declared.round.Round.{Round}
use Rattle.tables.specs.declared.seat.Seat.{Seat}
use Rattle.turns.specs.Ruling.{has_place_in_turn}

-- the parts of an opening round add events that pass a test, if what is still and plain does, and
-- sales and bids do
parts_grow : (test : Event → Bool) → ((its : Event) → and_plain is_still its ≡ true → test its ≡
    true) →
    ((private : Private) (buyer : Seat) (price : ℕ) → test (event.Sold private buyer price) ≡
    true) →
    ((private : Private) (seat : Seat) (amount : ℕ) → test (event.Bids private seat amount) ≡
    true) →
    OfOpening AnySeat AnyPrivate (GrowsBy test)
parts_grow test quiet sold bids =
    record {
      same = λ events. stays;
      both = λ a b c one two. one ⨾ two;
      quiet = λ events its is. by_one_event events its (quiet its is);
      unsold = λ events private unsold. tt;
      sold = λ events private buyer price sells. by_one_event events (event.Sold private buyer
          price)
          (sold private buyer price);
      bids = λ events private seat amount sits. by_one_event events (event.Bids private seat amount)
          (bids private seat amount);
    }

-- an opening round adds its own ROUND event, and then events that stand aside
pub opening_grows : (file : List ℕ) (round : Round) (old new : Game) → IsOpeningRound file round old new →
    Grows (old.events ++ event.Round round ∷ []) new.events
opening_grows =
    of_opening AnySeat AnyPrivate Grows
    (parts_grow is_aside still_and_plain_is_aside (λ private buyer price. refl) (λ private seat
    amount. refl))
    (λ events seat number ruling. by_one_event events (event.Ruled seat number ruling) refl)
    (λ seat. tt)

-- the parts of a round that are no rulings add but plain events
parts_plain : OfOpening AnySeat AnyPrivate (GrowsBy is_plain)
parts_plain =
    parts_grow is_plain (λ its both. (and_parts (is_still its) (is_plain its) both).1)
    (λ private buyer price. refl)
    (λ private seat amount. refl)

-- a line without a condition adds but plain events, and so does the close
pub opening_adds : AddsPlain opening_rules
opening_adds =
    record {
      standing = λ seat events line plain.
          recorded_plain seat line.number (opening_standing_ruling events line) events
          (ruling_plain has_place_before_turns (opening_standing_refusal events) events line plain
          (λ its. of_mapped refusal.Opening (λ rule. tt) (opening_standing_judgement events its)));
      line = λ seats seat turn line plain.
          ruled_plain (turn_after_opening_order seats seat)
          (λ at done. of_act AnySeat AnyPrivate (GrowsBy is_plain) parts_plain seats seat at.events
          done tt
          (λ private is. tt))
          seat turn line.number (opening_line_ruling seats seat turn line)
          (ruling_plain has_place_in_turn (opening_refusal seats turn.events seat turn.actions) turn.events line plain
          (λ its. of_mapped refusal.Opening (λ rule. tt) (opening_judgement seats turn.events seat turn.actions its)));
      closed = of_close AnySeat AnyPrivate (GrowsBy is_plain) parts_plain;
    }
