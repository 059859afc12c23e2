-- The standing bids on a private, in the order of the seats at the table.
use Rattle.std.proofs.Common.{◌≡◌, ◌≢◌, ℕ, zero, suc, ◌+◌, ◌<◌, ◌≤◌, Bool, true, false, if◌then◌else◌, List, [], ◌∷◌}
use Rattle.std.proofs.Common.{◌++◌, length, map, get_or, Option, Some, None, unwrap_or, pos, ◌≤ℤ◌, refl, sym, subst, ap}
use Rattle.std.proofs.Common.{◌∙◌, arith, length-append}
use Rattle.std.specs.List.{flat_map, range_with_len}
use Rattle.std.proofs.lemmas.Int.{ints}
use Rattle.events.specs.declared.event.Bid.{Bid}
use Rattle.events.specs.declared.event.Event.{Event}
use Rattle.totals.proofs.Standing.{bids_split}
use Rattle.totals.specs.Bids.{as_bid, bid_of, bids_on, free_cash_of, free_for, tied_on}
use Rattle.totals.specs.LookBack.{Game, cheapest_of, first_unsold, is_sold}
use Rattle.history.specs.Games.{IsGame}
use Rattle.history.specs.Sound.{IsSound}
use Rattle.privates.specs.Bank.{MayPay}
use Rattle.tables.specs.Roster.{privates}
use Rattle.tables.specs.Seat.{seat_at}
use Rattle.tables.specs.declared.roster.Private.{Private}
use Rattle.tables.specs.declared.seat.Seat.{Seat}

-- this holds of each of some bids
abbrev pub EachBid : (Bid → Type 0) → List Bid → Type 0
EachBid holds [] = Unit {0}
EachBid holds (bid ∷ bids) = holds bid × EachBid holds bids

-- what holds of each, where it follows
pub each_bid : {P Q : Bid → Type 0} → ((bid : Bid) → P bid → Q bid) → (bids : List Bid) → EachBid P bids
    → EachBid Q bids
each_bid follows [] all = tt
each_bid follows (bid ∷ bids) all = (follows bid all.0, each_bid follows bids all.1)

-- a bid on a private that stands, of a seat from one number on and under another
pub record IsStandingBid (events : List Event) (private : Private) (first last : ℕ) (bid : Bid) : Type 0 where
  pub is_bid : bid_of events private bid.seat ≡ Some bid.amount
  pub from : first ≤ bid.seat.0
  pub under : bid.seat.0 < last

-- later seats are seats
later : {events : List Event} {private : Private} (first last : ℕ) (bid : Bid)
    → IsStandingBid events private (first + 1) last bid → IsStandingBid events private first last bid
later first last bid is = let from = is.from in record { is_bid = is.is_bid; from = omega arith; under = is.under }

-- a seat's bid, if it has one, before those of later seats
bid_first : (events : List Event) (private : Private) (first last : ℕ) (found : Option ℕ) (bids : List Bid)
    → bid_of events private (seat_at first) ≡ found → first < last
    → EachBid (IsStandingBid events private (first + 1) last) bids
    → EachBid (IsStandingBid events private first last) (as_bid (seat_at first) found ++ bids)
bid_first events private first last None bids is within others = each_bid (later first last) bids others
bid_first events private first last (Some amount) bids is within others =
    (record { is_bid = is; from = omega arith; under = within }, each_bid (later first last) bids others)

-- the bids of seats from one on
abbrev pub bids_from : List Event → Private → ℕ → ℕ → List Bid
bids_from events private first count = flat_map (λ seat. as_bid seat (bid_of events private seat))
    (map seat_at (range_with_len first count))

-- each stands
all_stand : (events : List Event) (private : Private) (first count last : ℕ) → first + count ≤ last
    → EachBid (IsStandingBid events private first last) (bids_from events private first count)
all_stand events private first zero last within = tt
all_stand events private first (suc count) last within =
    bid_first events private first last (bid_of events private (seat_at first))
    (bids_from events private (first + 1) count) refl (omega arith)
    (all_stand events private (first + 1) count last (omega arith))

-- each of the bids on a private stands
pub bids_stand : (seats : ℕ) (events : List Event) (private : Private)
    → EachBid (IsStandingBid events private 0 seats) (bids_on seats events private)
bids_stand seats events private = all_stand events private 0 seats seats (omega arith)

-- a seat has at most one bid on a private
one_most : (seat : Seat) (found : Option ℕ) → length (as_bid seat found) ≤ 1
one_most seat None = omega arith
one_most seat (Some amount) = omega arith

-- so there are no more bids than seats
bids_most : (events : List Event) (private : Private) (first count : ℕ)
    → length (bids_from events private first count) ≤ count
bids_most events private first zero = omega arith
bids_most events private first (suc count) =
    let here : List Bid = as_bid (seat_at first) (bid_of events private (seat_at first)) in
    let others : List Bid = bids_from events private (first + 1) count in
    let one : length here ≤ 1 = one_most (seat_at first) (bid_of events private (seat_at first)) in
    let rest : length others ≤ count = bids_most events private (first + 1) count in
    let all : length (bids_from events private first (suc count)) ≡ length here + length others =
    length-append here others in
    omega arith

-- at most six in a game
pub six_bids : (game : Game) (private : Private) (bids : List Bid)
    → bids ≡ bids_on game.seats game.events private → IsGame game → length bids ≤ 6
six_bids game private bids are its =
    let few = its.few in
    let most = bids_most game.events private 0 game.seats in
    subst (λ (all : List Bid). length all ≤ 6) (sym are) (omega arith)

-- each is of another amount than those after it
abbrev pub AmountsDiffer : List Bid → Type 0
AmountsDiffer [] = Unit {0}
AmountsDiffer (bid ∷ bids) = EachBid (λ other. other.amount ≢ bid.amount) bids × AmountsDiffer bids

-- no two seats bid the same
abbrev SeatsDiffer : ℕ → List Event → Private → Type 0
SeatsDiffer last events private = (a b : Seat) (amount : ℕ) → a.0 < last → b.0 < last
    → bid_of events private a ≡ Some amount → bid_of events private b ≡ Some amount → a ≡ b

-- a seat's bid is another than those of later seats
other_amount : (events : List Event) (private : Private) (first last amount : ℕ) → SeatsDiffer last events private
    → first < last → bid_of events private (seat_at first) ≡ Some amount → (bid : Bid)
    → IsStandingBid events private (first + 1) last bid → bid.amount ≢ amount
other_amount events private first last amount differ within mine bid is same =
    let one : bid.seat ≡ seat_at first = differ bid.seat (seat_at first) amount is.under within
    (is.is_bid ∙ ap (λ (n : ℕ). Some n) same) mine in
    let number : bid.seat.0 ≡ first = ap (λ (s : Seat). s.0) one in
    let from = is.from in
    absurd (omega arith)

-- a seat's bid, if it has one, before others
amount_first : (events : List Event) (private : Private) (first last : ℕ) (found : Option ℕ) (bids : List Bid)
    → SeatsDiffer last events private → first < last → bid_of events private (seat_at first) ≡ found
    → EachBid (IsStandingBid events private (first + 1) last) bids → AmountsDiffer bids
    → AmountsDiffer (as_bid (seat_at first) found ++ bids)
amount_first events private first last None bids differ within is stand others = others
amount_first events private first last (Some amount) bids differ within is stand others =
    (each_bid (other_amount events private first last amount differ within is) bids stand, others)

-- the bids of seats from one on differ
all_differ : (events : List Event) (private : Private) (first count last : ℕ) → SeatsDiffer last events private
    → first + count ≤ last → AmountsDiffer (bids_from events private first count)
all_differ events private first zero last differ within = tt
all_differ events private first (suc count) last differ within =
    amount_first events private first last (bid_of events private (seat_at first))
    (bids_from events private (first + 1) count) differ (omega arith) refl
    (all_stand events private (first + 1) count last (omega arith))
    (all_differ events private (first + 1) count last differ (omega arith))

-- the bids on a private differ
pub bids_differ : (seats : ℕ) (events : List Event) (private : Private) → SeatsDiffer seats events private
    → AmountsDiffer (bids_on seats events private)
bids_differ seats events private differ = all_differ events private 0 seats seats differ (omega arith)

-- the first that is unsold is unsold
first_is_unsold : (sold : Private → Bool) (some : List Private) (first : Private)
    → first_unsold sold some ≡ Some first → sold first ≡ false
first_is_unsold sold [] first found = cc
first_is_unsold sold (private ∷ others) first found =
    elim (sold private) as (λ (b : Bool). sold private ≡ b
    → (if b then first_unsold sold others else Some private) ≡ Some first → sold first ≡ false) [
      | true ↦ λ here later. first_is_unsold sold others first later
      | false ↦ λ here now. let same : private ≡ first = cc in subst (λ (p : Private). sold p ≡ false) same here
    ]
    refl found

-- the cheapest private is unsold
pub cheapest_unsold : (events : List Event) (private : Private) → cheapest_of events ≡ Some private
    → is_sold events private ≡ false
cheapest_unsold events private cheapest = first_is_unsold (is_sold events) privates private cheapest

-- a seat has its bid free of its other bids
pub bid_free : (seats : ℕ) (events : List Event) (private : Private) (seat : Seat) (amount : ℕ)
    → bid_of events private seat ≡ Some amount → pos 0 ≤ℤ free_cash_of seats events seat
    → pos amount ≤ℤ free_for seats events seat private
bid_free seats events private seat amount bids solvent =
    let tied : tied_on events seat private ≡ amount = ap (λ bid. unwrap_or bid 0) bids in
    let split = bids_split events seat private in
    omega (arith, ints)

-- a bidder for the cheapest private can pay the bid
pub may_pay_bid : (game : Game) (private : Private) (bid : Bid) → cheapest_of game.events ≡ Some private
    → IsStandingBid game.events private 0 game.seats bid → IsSound game
    → MayPay game.seats game.events bid.seat private bid.amount
may_pay_bid game private bid cheapest is_bid sound =
    record {
      unsold = cheapest_unsold game.events private cheapest;
      free = bid_free game.seats game.events private bid.seat bid.amount is_bid.is_bid (sound.solvent bid.seat);
    }

-- what holds of each holds of the first
first_bid : (holds : Bid → Type 0) (bids : List Bid) (d : Bid) → 1 ≤ length bids → EachBid holds bids
    → holds (get_or bids 0 d)
first_bid holds [] d some all = absurd (omega arith)
first_bid holds (bid ∷ bids) d some all = all.0

-- the first of the bids on a private stands
pub first_is_standing : (game : Game) (private : Private) (bids : List Bid) (d : Bid)
    → bids ≡ bids_on game.seats game.events private → 1 ≤ length bids
    → IsStandingBid game.events private 0 game.seats (get_or bids 0 d)
first_is_standing game private bids d are some =
    first_bid (IsStandingBid game.events private 0 game.seats) bids d some
    (subst (EachBid (IsStandingBid game.events private 0 game.seats)) (sym are)
    (bids_stand game.seats game.events private))
