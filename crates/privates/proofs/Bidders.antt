-- The bidders of an auction that follows from a sale, and what its winner pays.
use Rattle.std.proofs.Common.{◌≡◌, ◌≢◌, ℕ, ◌<◌, ◌≤◌, List, [], ◌∷◌, length, map, Some, ℤ, pos, negsuc}
use Rattle.std.proofs.Common.{◌≤ℤ◌, inl, inr, refl, sym, subst, ap, ◌∙◌, arith}
use Rattle.std.specs.Int.RustNames.{unsigned_abs}
use Rattle.std.proofs.lemmas.Int.{ints}
use Rattle.std.proofs.lemmas.List.{length-map}
use Rattle.events.specs.declared.event.Bid.{Bid}
use Rattle.events.specs.declared.event.Event.{Event}
use Rattle.totals.specs.Bids.{bid_of, bids_on, free_for}
use Rattle.totals.specs.LookBack.{Game, cheapest_of}
use Rattle.totals.specs.Orders.{bid_limit_of}
use Rattle.privates.proofs.Auctions.{auction_won}
use Rattle.privates.proofs.LimitLemmas.{limit_in_cash, limit_is_small, limit_over_bid}
use Rattle.privates.proofs.StandingBids.{AmountsDiffer, EachBid, IsStandingBid, bid_free, bids_differ, bids_stand}
use Rattle.privates.proofs.StandingBids.{cheapest_unsold}
use Rattle.privates.specs.Bank.{MayPay}
use Rattle.privates.specs.Auction.{Bidder, BidsDiffer, EachBidder, IsAmong, LimitsHold, auction_of, bid_by, limit_by}
use Rattle.privates.specs.Sale.{after_auction, after_private_sale, bidder_of, settled_by}
use Rattle.privates.specs.Underway.{IsUnderway}
use Rattle.tables.specs.declared.roster.Private.{Private}
use Rattle.tables.specs.declared.seat.Seat.{Seat}

-- the limits of bidders hold
pub limits_hold : (seats : ℕ) (events : List Event) (private : Private) (bids : List Bid)
    → LimitsHold (map (bidder_of seats events private) bids)
limits_hold seats events private [] = tt
limits_hold seats events private (bid ∷ bids) = (
  limit_over_bid (pos bid.amount) (bid_limit_of events private bid.seat) (free_for seats events bid.seat private),
  limits_hold seats events private bids,
)

-- sums are the same as signed numbers where they are
same_sum : (a b : ℕ) → pos a ≡ pos b → a ≡ b
same_sum a b same = cc

-- bidders whose amounts differ from one bid differently
bidders_apart : (seats : ℕ) (events : List Event) (private : Private) (one : Bid) (bids : List Bid)
    → EachBid (λ other. other.amount ≢ one.amount) bids
    → EachBidder (λ other. bid_by other ≢ bid_by (bidder_of seats events private one))
    (map (bidder_of seats events private) bids)
bidders_apart seats events private one [] apart = tt
bidders_apart seats events private one (bid ∷ bids) apart =
    (λ same. apart.0 (same_sum bid.amount one.amount same), bidders_apart seats events private one bids apart.1)

-- the bids of bidders differ
bidders_differ : (seats : ℕ) (events : List Event) (private : Private) (bids : List Bid) → AmountsDiffer bids
    → BidsDiffer (map (bidder_of seats events private) bids)
bidders_differ seats events private [] differ = tt
bidders_differ seats events private (bid ∷ bids) differ =
    (bidders_apart seats events private bid bids differ.0, bidders_differ seats events private bids differ.1)

-- the bidder that a bid is made of, of which something holds
record IsMadeOf (holds : Bid → Type 0) (made : Bid → Bidder) (winner : Bidder) : Type 0 where
  pub bid : Bid
  pub is : made bid ≡ winner
  pub so : holds bid

-- one of the bidders is made of one of the bids
made_of : (holds : Bid → Type 0) (made : Bid → Bidder) (winner : Bidder) (bids : List Bid)
    → IsAmong (map made bids) winner → EachBid holds bids → IsMadeOf holds made winner
made_of holds made winner [] among all = absurd among
made_of holds made winner (bid ∷ bids) among all =
    elim among [
      | inl same ↦ record { bid = bid; is = same; so = all.0 }
      | inr rest ↦ made_of holds made winner bids
          rest all.1
    ]

-- what holds of each bidder holds of one of them
of_one : (holds : Bidder → Type 0) (bidders : List Bidder) (one : Bidder) → IsAmong bidders one
    → EachBidder holds bidders → holds one
of_one holds [] one among all = absurd among
of_one holds (bidder ∷ bidders) one among all =
    elim among [ inl same ↦ subst holds same all.0 | inr rest ↦ of_one holds bidders one rest all.1 ]

-- a price over a natural is its own size
size_of : (price : ℤ) (least : ℕ) → pos least ≤ℤ price → pos (unsigned_abs price) ≡ price
size_of (pos price) least over = refl
size_of (negsuc price) least over = absurd (omega (arith, ints))

-- what the winner pays can be paid
pub record IsPayable (game : Game) (private : Private) (won : Seat × ℤ) : Type 0 where
  pub small : unsigned_abs won.1 ≤ 99999
  pub is_price : pos (unsigned_abs won.1) ≡ won.1
  pub at_table : won.0.0 < game.seats
  pub may : MayPay game.seats game.events won.0 private (unsigned_abs won.1)

-- the winner of the auction of the cheapest private can pay
pub winner_pays : (game : Game) (private : Private) (bids : List Bid) → bids ≡ bids_on game.seats game.events private
    → 1 ≤ length bids → cheapest_of game.events ≡ Some private → IsUnderway game
    → IsPayable game private (auction_of (map (bidder_of game.seats game.events private) bids))
winner_pays game private bids are some cheapest underway =
    let made : Bid → Bidder = bidder_of game.seats game.events private in
    let bidders : List Bidder = map made bids in
    let won : Seat × ℤ = auction_of bidders in
    let is_won = auction_won bidders (omega (arith, length-map bids made))
    (limits_hold game.seats game.events private bids) in
    let all : EachBid (IsStandingBid game.events private 0 game.seats) bids =
    subst (EachBid (IsStandingBid game.events private 0 game.seats)) (sym are)
    (bids_stand game.seats game.events private) in
    let one = made_of (IsStandingBid game.events private 0 game.seats) made is_won.winner bids is_won.bids all in
    let its : Bid = one.bid in
    let free : pos its.amount ≤ℤ free_for game.seats game.events its.seat private =
    bid_free game.seats game.events private its.seat its.amount one.so.is_bid (underway.game.sound.solvent its.seat) in
    let least : pos its.amount ≤ℤ won.1 = subst (λ (b : Bidder). bid_by b ≤ℤ won.1) (sym one.is)
    (of_one (λ (other : Bidder). bid_by other ≤ℤ won.1) bidders is_won.winner is_won.bids
    is_won.at_least_each_bid) in
    let limit : won.1 ≤ℤ limit_by (made its) = subst (λ (b : Bidder). won.1 ≤ℤ limit_by b) (sym one.is)
    is_won.within_limit in
    let in_cash = limit_in_cash (pos its.amount) (bid_limit_of game.events private its.seat)
    (free_for game.seats game.events its.seat private) free in
    let small = limit_is_small its.amount (bid_limit_of game.events private its.seat)
    (free_for game.seats game.events its.seat private)
    (underway.game.sound.bids_small private its.seat its.amount one.so.is_bid)
    (underway.waiting.limits private its.seat) in
    let size = size_of won.1 its.amount least in
    let seat : its.seat ≡ won.0 = ap (λ (b : Bidder). b.0) one.is ∙ sym is_won.buys in
    let under = one.so.under in
    record {
      small = omega (arith, ints);
      is_price = size;
      at_table = subst (λ (s : Seat). s.0 < game.seats) seat under;
      may = subst (λ (s : Seat). MayPay game.seats game.events s private (unsigned_abs won.1)) seat
          (record { unsold = cheapest_unsold game.events private cheapest; free = omega (arith, ints) });
    }

-- two bids or more are settled by an auction
pub by_auction : (seats : ℕ) (events : List Event) (private : Private) (bids : List Bid) → 2 ≤ length bids
    → settled_by seats events private bids ≡ after_auction events private
    (auction_of (map (bidder_of seats events private) bids))
by_auction seats events private [] two = absurd (omega arith)
by_auction seats events private (bid ∷ []) two = absurd (omega arith)
by_auction seats events private (bid ∷ other ∷ bids) two = refl

-- the conditions of an auction of the cheapest private
pub auction_differs : (game : Game) (private : Private) (bids : List Bid)
    → bids ≡ bids_on game.seats game.events private
    → ((a b : Seat) (amount : ℕ) → a.0 < game.seats → b.0 < game.seats → bid_of game.events private a ≡ Some amount
    → bid_of game.events private b ≡ Some amount → a ≡ b)
    → BidsDiffer (map (bidder_of game.seats game.events private) bids)
auction_differs game private bids are differ =
    bidders_differ game.seats game.events private bids
    (subst AmountsDiffer (sym are) (bids_differ game.seats game.events private differ))

-- bidders made of a list as it is now
pub same_bidders : (game now : Game) (private : Private) (bids : List Bid) (items slice : List Bidder)
    → now ≡ game → items ≡ map (bidder_of now.seats now.events private) bids → slice ≡ items
    → slice ≡ map (bidder_of game.seats game.events private) bids
same_bidders game now private bids items slice same made sliced =
    sliced ∙ made ∙ ap (λ (game : Game). map (bidder_of game.seats game.events private) bids) same

-- the winner among them can pay
pub payable : (game : Game) (private : Private) (bids : List Bid) (bidders : List Bidder) (won : Seat × ℤ)
    → bidders ≡ map (bidder_of game.seats game.events private) bids → won ≡ auction_of bidders
    → bids ≡ bids_on game.seats game.events private → 2 ≤ length bids → cheapest_of game.events ≡ Some private
    → IsUnderway game → IsPayable game private won
payable game private bids bidders won made is_won are two cheapest underway =
    subst (λ (w : Seat × ℤ). IsPayable game private w) (sym (is_won ∙ ap auction_of made))
    (winner_pays game private bids are (omega arith) cheapest underway)

-- the sale to the winner settles the bids
pub auction_settles : (game : Game) (private : Private) (bids : List Bid) (bidders : List Bidder) (won : Seat × ℤ)
    (price : ℕ) → bidders ≡ map (bidder_of game.seats game.events private) bids → won ≡ auction_of bidders
    → price ≡ unsigned_abs won.1 → 2 ≤ length bids
    → after_private_sale game.events private won.0 price ≡ settled_by game.seats game.events private bids
auction_settles game private bids bidders won price made is_won is_price two =
    ap (λ (n : ℕ). after_private_sale game.events private won.0 n) is_price
    ∙ ap (λ (w : Seat × ℤ). after_auction game.events private w) (is_won ∙ ap auction_of made)
    ∙ sym (by_auction game.seats game.events private bids two)
