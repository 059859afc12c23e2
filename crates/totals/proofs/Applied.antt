-- What the totals have after one more event.
use Rattle.std.proofs.Common.{◌≡◌, ℕ, ◌+◌, ◌^◌, ◌<◌, ◌||◌, Bool, true, false, if◌then◌else◌, List, [], ◌∷◌, ◌++◌}
use Rattle.std.proofs.Common.{Option, Some, None, is_some, ℤ, pos, ◌≤◌, ◌+ℤ◌, ◌-ℤ◌, length, unwrap_or, refl, ap, sym}
use Rattle.std.proofs.Common.{◌∙◌, arith, length-append}
use Rattle.std.proofs.lemmas.List.Folds.{list_any-append}
use Rattle.std.proofs.lemmas.Int.{ints}
use Rattle.std.specs.List.{list_any}
use Rattle.std.specs.Option.{option_flatten, option_map, option_or}
use Rattle.std.proofs.Math.Bool.{or-true, or-false}
use Rattle.events.specs.Event.{bidding_of, round_begun_by}
use Rattle.events.specs.declared.event.Bidding.{Bidding}
use Rattle.events.specs.declared.event.Event.{Event}
use Rattle.totals.proofs.EventAtEnd.{bid_of_at_end, now_said_at_end, balance_at_end, last_said_at_end}
use Rattle.totals.proofs.InOrder.{rulings_at_end, tokens_at_end}
use Rattle.totals.proofs.Places.{last_place_at_end}
use Rattle.totals.specs.Bids.{bid_made, bid_of, bid_said, greater_bid, greatest_bid_from, greatest_bid_of}
use Rattle.totals.specs.Totals.{IsBalance, IsCounted, flag_then, here_if}
use Rattle.totals.specs.LookBack.{IsModerate, in_round, last_place_from, last_said, now_said}
use Rattle.totals.specs.Operating.{rulings_in_round, rulings_then, tokens_placed}
use Rattle.totals.specs.Trains.{one_if}
use Rattle.tables.specs.declared.roster.Company.{Company}
use Rattle.tables.specs.declared.roster.Private.{Private}
use Rattle.tables.specs.declared.seat.Seat.{Seat}

-- the last word is that of the event, or else the one before
pub word_applied :
    {A : Type 0} (says : Event → Option A) (events : List Event) (event : Event) (old new : Option A)
    → new ≡ option_or (says event) old →
    old ≡ last_said says events → new ≡ last_said says (events ++ event ∷ [])
word_applied says events event old new applied before =
    applied ∙ ap (option_or (says event)) before ∙ sym (last_said_at_end says events event)

-- so it is where the word of the event was looked at first
pub said_applied :
    {A : Type 0} (says : Event → Option A) (events : List Event) (event : Event) (said old new : Option A)
    → said ≡ says event → new ≡ option_or said old →
    old ≡ last_said says events → new ≡ last_said says (events ++ event ∷ [])
said_applied says events event said old new is applied before =
    word_applied says events event old new (applied ∙ ap (λ word. option_or word old) is) before

-- the place of the event that speaks last
pub place_applied :
    {A : Type 0} (says : Event → Option A) (events : List Event) (event : Event) (place : ℕ) (old new : Option ℕ)
    → place ≡ length events →
    new ≡ option_or (here_if (says event) place) old → old ≡ last_place_from says 0 events
    → new ≡ last_place_from says 0 (events ++ event ∷ [])
place_applied says events event place old new at applied before =
    let from_start : length events ≡ 0 + length events = omega arith in
    applied
    ∙ ap (λ n. option_or (here_if (says event) n) old) (at ∙ from_start)
    ∙ ap (option_or (here_if (says event) (0 + length events))) before
    ∙ sym (last_place_at_end says 0 events event)

-- a bid on a private is what the event says, or else the one before
pub bid_applied :
    (events : List Event) (event : Event) (private : Private) (seat : Seat) (bidding : Option Bidding)
    (old new : Option ℕ) → bidding ≡ bidding_of event →
    new ≡ unwrap_or (bid_said private seat bidding) old → old ≡ bid_of events private seat
    → new ≡ bid_of (events ++ event ∷ []) private seat
bid_applied events event private seat bidding old new is applied before =
    applied
    ∙ ap (λ recorded. unwrap_or (bid_said private seat recorded) old) is
    ∙ ap (unwrap_or (bid_said private seat (bidding_of event))) before
    ∙ sym (bid_of_at_end events event private seat)

-- a bid that is made at the end of a list
greatest_at_end : (private : Private) (bid : Option ℕ) (events : List Event) (event : Event)
    → greatest_bid_from private bid (events ++ event ∷ [])
    ≡ greater_bid (bid_made private (bidding_of event)) (greatest_bid_from private bid events)
greatest_at_end private bid [] event = refl
greatest_at_end private bid (first ∷ events) event =
    greatest_at_end private (greater_bid (bid_made private (bidding_of first)) bid) events event

-- the greatest bid on a private
pub greatest_applied :
    (events : List Event) (event : Event) (private : Private) (bidding : Option Bidding) (old new : Option ℕ)
    → bidding ≡ bidding_of event → new ≡ greater_bid (bid_made private bidding) old
    → old ≡ greatest_bid_of events private → new ≡ greatest_bid_of (events ++ event ∷ []) private
greatest_applied events event private bidding old new is applied before =
    applied
    ∙ ap (λ recorded. greater_bid (bid_made private recorded) old) is
    ∙ ap (greater_bid (bid_made private (bidding_of event))) before
    ∙ sym (greatest_at_end private None events event)

-- a word of the round that began last
pub round_word_applied :
    {A : Type 0} (says : Event → Option A) (events : List Event) (event : Event) (old new : Option A) →
    new ≡ unwrap_or (in_round says event) old → old ≡ now_said (in_round says) events
    → new ≡ now_said (in_round says) (events ++ event ∷ [])
round_word_applied says events event old new applied before =
    applied ∙ ap (unwrap_or (in_round says event)) before ∙ sym (now_said_at_end (in_round says) events event)

-- a test that some event has met
pub flag_applied :
    (says : Event → Bool) (events : List Event) (event : Event) (old new : Bool) → new ≡ (old || says event)
    → old ≡ list_any says events →
    new ≡ list_any says (events ++ event ∷ [])
flag_applied says events event old new applied before =
    applied
    ∙ ap (λ flag. flag || says event) before
    ∙ sym (list_any-append says events (event ∷ []) ∙ ap (λ flag. list_any says events || flag) (or-false (says event)))

-- a flag is down where a round begins; otherwise it is up where the event speaks or where it was
-- before
flag_or :
    {A : Type 0} (begins : Bool) (said : Option A) (before : Option (Option A)) →
    (if begins then false else (is_some (option_flatten before) || is_some said))
    ≡ is_some (option_flatten (option_or (if begins then Some None else option_map Some said) before))
flag_or true said before = refl
flag_or false None before = or-false (is_some (option_flatten before))
flag_or false (Some word) before = or-true (is_some (option_flatten before))

-- an event adds at most one to a count of rulings
ruling_at_most_one : (seat : Seat) (count : ℕ) (event : Event) → rulings_then seat count event ≤ count + 1
ruling_at_most_one seat count event = grind arith

-- and one to a count of tokens
token_at_most_one : (event : Event) (company : Company) → tokens_placed (event ∷ []) company ≤ 1
token_at_most_one event company = grind arith

-- one train is few
pub one_low : (test : Bool) → one_if test < 2 ^ 32
one_low test = grind arith

-- the entry of an account
pub balance_applied :
    (brings takes : Event → ℕ) (events : List Event) (event : Event) (old new : ℤ) → length events < 2 ^ 63
    → brings event < 2 ^ 32 → takes event < 2 ^ 32 →
    (IsModerate old → new ≡ (old +ℤ pos (brings event)) -ℤ pos (takes event)) → IsBalance brings takes events old
    → IsBalance brings takes (events ++ event ∷ []) new
balance_applied brings takes events event old new short few_in few_out moves before =
    let moderate : IsModerate old = record {
      not_under = omega (arith, ints, short, before.not_under);
      not_over = omega (arith, ints, short, before.not_over);
    } in
    let moved = moves moderate in
    let longer : length (events ++ event ∷ []) ≡ length events + 1 = length-append events (event ∷ []) in
    record {
      is = moved ∙ ap (λ balance. (balance +ℤ pos (brings event)) -ℤ pos (takes event)) before.is
          ∙ sym (balance_at_end 0 brings takes events event);
      not_under = omega (arith, ints, moved, longer, few_in, few_out, before.not_under);
      not_over = omega (arith, ints, moved, longer, few_in, few_out, before.not_over);
    }

-- a flag of a round that some event of it has put up
pub round_flag_applied :
    {A : Type 0} (says : Event → Option A) (events : List Event) (event : Event) (old new : Bool)
    → new ≡ flag_then event (is_some (says event)) old →
    old ≡ is_some (now_said (in_round says) events) → new ≡ is_some (now_said (in_round says) (events ++ event ∷ []))
round_flag_applied says events event old new applied before =
    applied
    ∙ ap (flag_then event (is_some (says event))) before
    ∙ flag_or (is_some (round_begun_by event)) (says event) (last_said (in_round says) events)
    ∙ sym (ap (λ said. is_some (option_flatten said)) (last_said_at_end (in_round says) events event))

-- a count of a seat's rulings
pub rulings_applied :
    (events : List Event) (event : Event) (seat : Seat) (old new : ℕ) → length events < 2 ^ 63
    → (old < 2 ^ 63 → new ≡ rulings_then seat old event) →
    IsCounted (rulings_in_round events seat) events old
    → IsCounted (rulings_in_round (events ++ event ∷ []) seat) (events ++ event ∷ []) new
rulings_applied events event seat old new short counts before =
    let counted = counts (omega (arith, short, before.few)) in
    record {
      is = counted ∙ ap (λ (n : ℕ). rulings_then seat n event) before.is ∙ sym (rulings_at_end events event seat);
      few = omega (arith, counted, ruling_at_most_one seat old event, before.few, length-append events (event ∷ []));
    }

-- a count of a company's tokens
pub tokens_applied :
    (events : List Event) (event : Event) (company : Company) (old new : ℕ) → length events < 2 ^ 63 →
    (old < 2 ^ 63 → new ≡ old + tokens_placed (event ∷ []) company)
    → IsCounted (tokens_placed events company) events old →
    IsCounted (tokens_placed (events ++ event ∷ []) company) (events ++ event ∷ []) new
tokens_applied events event company old new short counts before =
    let counted = counts (omega (arith, short, before.few)) in
    record {
      is = omega (arith, counted, before.is, tokens_at_end events event company);
      few = omega (arith, counted, token_at_most_one event company, before.few, length-append events (event ∷ []));
    }
