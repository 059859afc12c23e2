-- A bid that breaks no rule can be made, and keeps the round under way. A bid that stands was made,
-- so a sum that is near it is near some earlier bid; and what is near some bid is near the greatest.
use Rattle.std.proofs.Common.{◌≡◌, ℕ, ◌+◌, ◌<◌, ◌≤◌, max, ◌==◌, ◌⊎◌, inl, inr, Bool, true, false, ◌||◌, ◌&&◌, nat_lt}
use Rattle.std.proofs.Common.{if◌then◌else◌, List, [], ◌∷◌, ◌++◌, Option, Some, None, refl, sym, ap, ◌∙◌, arith}
use Rattle.std.proofs.lemmas.Bool.{or_left, or_parts, or_right}
use Rattle.std.proofs.lemmas.Bool.Decides.{nat_tests}
use Rattle.std.proofs.lemmas.List.Folds.{list_any-append}
use Rattle.std.specs.Option.{option_flatten, option_or}
use Rattle.std.proofs.Math.Bool.{or_assoc, or-false}
use Rattle.events.specs.Event.{IsQuiet, bidding_of}
use Rattle.events.specs.RuleCodes.{code_of_opening_rule}
use Rattle.events.specs.declared.event.Bidding.{Bidding}
use Rattle.events.specs.declared.event.Bidding.TheVariants.{Made, Ended}
use Rattle.events.specs.declared.event.Event.{Event}
use Rattle.events.specs.declared.event.Event.TheVariants as event
use Rattle.events.specs.declared.ruling.OpeningRule.TheVariants.{Sold, BidTooLow, CashTooSmall}
use Rattle.totals.specs.Bids.{bid_made, bid_of, bid_said, greater_bid, greatest_bid_from, greatest_bid_of}
use Rattle.totals.specs.AtEnd.{SaysTheSame}
use Rattle.totals.specs.LookBack.{Game, last_said, with_event}
use Rattle.history.proofs.Acts.{bid_sound}
use Rattle.history.specs.Sound.{IsSound}
use Rattle.privates.proofs.BankLemmas.{same_pay, within}
use Rattle.privates.specs.Bid.{MayBid, bid_rules, is_near, is_near_some}
use Rattle.privates.specs.Underway.{IsUnderway}
use Rattle.privates.specs.UnderwayKept.{event_underway}
use Rattle.tables.proofs.Rules.{not_broken}
use Rattle.tables.specs.Roster.{face_of, same_private}
use Rattle.tables.specs.Rules.{first_broken}
use Rattle.tables.specs.declared.roster.Private.{Private}
use Rattle.tables.specs.declared.seat.Seat.{Seat}

-- the word that holds is one of the later or of the earlier
flatten_cases : (later earlier : Option (Option ℕ)) (amount : ℕ)
    → option_flatten (option_or later earlier) ≡ Some amount →
    (option_flatten later ≡ Some amount) ⊎ (option_flatten earlier ≡ Some amount)
flatten_cases None earlier amount holds = inr holds
flatten_cases (Some word) earlier amount holds = inl holds

-- a bid that is said here is the one that was made here
made_here : (here seat : Bool) (made amount sum : ℕ)
    → option_flatten (if here && seat then Some (Some made) else None) ≡ Some amount →
    nat_lt sum (amount + 5) ≡ true → is_near sum (if here then Some made else None) ≡ true
made_here true true made amount sum said near = let same : made ≡ amount =
    cc in ap (λ (n : ℕ). nat_lt sum (n + 5)) same ∙ near
made_here true false made amount sum said near = absurd (cc)
made_here false seat made amount sum said near = absurd (cc)

-- an end is no bid
no_bid_at_end : (here : Bool) (amount : ℕ) → option_flatten (if here then Some None else None) ≡ Some amount
    → false ≡ true
no_bid_at_end true amount said = absurd (cc)
no_bid_at_end false amount said = absurd (cc)

-- a sum near a bid that is said here is near the bid that was made here
near_here : (private : Private) (seat : Seat) (amount sum : ℕ) (word : Option Bidding)
    → option_flatten (bid_said private seat word) ≡ Some amount →
    nat_lt sum (amount + 5) ≡ true → is_near sum (bid_made private word) ≡ true
near_here private seat amount sum None said near = absurd (cc)
near_here private seat amount sum (Some (Made other bid)) said near =
    made_here (same_private other private) (bid.seat.0 == seat.0) bid.amount amount sum said near
near_here private seat amount sum (Some (Ended other)) said near =
    no_bid_at_end (same_private other private) amount said

-- a bid that stands was made
pub standing_was_made : (events : List Event) (private : Private) (seat : Seat) (amount sum : ℕ)
    → bid_of events private seat ≡ Some amount →
    nat_lt sum (amount + 5) ≡ true → is_near_some sum events private ≡ true
standing_was_made [] private seat amount sum is_bid near = absurd (cc)
standing_was_made (event ∷ events) private seat amount sum is_bid near =
    let here : Bool = is_near sum (bid_made private (bidding_of event)) in
    let rest : Bool = is_near_some sum events private in
    elim (flatten_cases (last_said (λ e. bid_said private seat (bidding_of e)) events)
    (bid_said private seat (bidding_of event)) amount is_bid) [
      | inl later ↦ or_right here rest (standing_was_made events private seat amount sum later near)
      | inr now ↦ or_left here rest (near_here private seat amount sum (bidding_of event) now near)
    ]

-- near the greater of two sums is near one of them
near_max : (sum a b : ℕ) → nat_lt sum (max a b + 5) ≡ (nat_lt sum (a + 5) || nat_lt sum (b + 5))
near_max sum a b = grind (arith, nat_tests)

-- near the greater of two bids is near one of them
near_greater : (sum : ℕ) (earlier later : Option ℕ)
    → is_near sum (greater_bid later earlier) ≡ (is_near sum earlier || is_near sum later)
near_greater sum None None = refl
near_greater sum None (Some later) = refl
near_greater sum (Some earlier) None = sym (or-false (nat_lt sum (earlier + 5)))
near_greater sum (Some earlier) (Some later) = near_max sum earlier later

-- near the greatest of a bid and those of a list is near one of them
near_from : (private : Private) (sum : ℕ) (bid : Option ℕ) (events : List Event)
    → is_near sum (greatest_bid_from private bid events) ≡ (is_near sum bid || is_near_some sum events private)
near_from private sum bid [] = sym (or-false (is_near sum bid))
near_from private sum bid (event ∷ events) =
    let made : Option ℕ = bid_made private (bidding_of event) in
    near_from private sum (greater_bid made bid) events
    ∙ ap (λ (b : Bool). b || is_near_some sum events private) (near_greater sum bid made)
    ∙ or_assoc (is_near sum bid) (is_near sum made) (is_near_some sum events private)

-- a sum is near the greatest bid on a private where it is near some bid on it
pub near_greatest : (private : Private) (sum : ℕ) (events : List Event)
    → is_near sum (greatest_bid_of events private) ≡ is_near_some sum events private
near_greatest private sum events = near_from private sum None events

-- an event that is no bid leaves the bids that a sum is near
pub near_after : (private : Private) (sum : ℕ) (events : List Event) (event : Event) → IsQuiet event
    → is_near_some sum (events ++ event ∷ []) private ≡ is_near_some sum events private
near_after private sum events event quiet =
    let near : Event → Bool = λ its. is_near sum (bid_made private (bidding_of its)) in
    list_any-append near events (event ∷ [])
    ∙ ap (λ word. is_near_some sum events private || (is_near sum (bid_made private word) || false)) quiet.bidding
    ∙ or-false (is_near_some sum events private)

-- a bid that breaks no rule can be made
pub may_bid : (seats : ℕ) (events : List Event) (seat : Seat) (used : Bool) (private : Private) (amount : ℕ)
    → first_broken (bid_rules seats events seat used private amount) ≡ None
    → MayBid seats events seat private amount
may_bid seats events seat used private amount none =
    let kept = not_broken code_of_opening_rule (bid_rules seats events seat used private amount) none in
    record {
      pays = record { unsold = kept Sold; free = within seats events seat private amount (kept CashTooSmall) };
      high = kept BidTooLow;
    }

-- and still can where a list says the same
pub still_may_bid : (seats : ℕ) (before after : List Event) (seat : Seat) (private : Private) (amount : ℕ)
    → SaysTheSame before after → is_near_some amount after private ≡ is_near_some amount before private
    → MayBid seats before seat private amount → MayBid seats after seat private amount
still_may_bid seats before after seat private amount same near may =
    record {
      pays = same_pay seats before after seat private amount amount same refl may.pays;
      high = ap (λ (b : Bool). nat_lt amount (face_of private + 5) || b) near ∙ may.high;
    }

-- no other seat has bid what a seat may bid
no_other_bid : (game : Game) (private : Private) (seat : Seat) (amount : ℕ)
    → MayBid game.seats game.events seat private amount → IsSound game → (other : Seat)
    → bid_of game.events private other ≡ Some amount → other ≡ seat
no_other_bid game private seat amount may sound other is =
    let far = (or_parts (nat_lt amount (face_of private + 5)) (is_near_some amount game.events private) may.high).1 in
    let itself : nat_lt amount (amount + 5) ≡ true = grind (arith, nat_tests) in
    let near = standing_was_made game.events private other amount amount is itself in
    let wrong : true ≡ false = sym near ∙ far in
    cc

-- a bid keeps the round under way
pub bid_underway : (game new : Game) (private : Private) (seat : Seat) (amount : ℕ) → amount ≤ 99999
    → seat.0 < game.seats → MayBid game.seats game.events seat private amount
    → new ≡ with_event game (event.Bids private seat amount) → IsUnderway game → IsUnderway new
bid_underway game new private seat amount small seated may recorded before =
    event_underway game new (event.Bids private seat amount) refl (λ its other. refl) recorded
    (bid_sound game private seat amount small seated (no_other_bid game private seat amount may before.game.sound)
    may.pays.free before.game.sound) before
