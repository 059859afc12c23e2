-- What a bid or a sale makes of the standing bids.
use Rattle.std.proofs.Common.{◌<◌, ◌≡◌, ℕ, ◌≤◌, ◌==◌, ◌⊎◌, inl, inr, Bool, true, false, ◌&&◌, if◌then◌else◌, List, []}
use Rattle.std.proofs.Common.{◌∷◌, ◌++◌, Option, Some, None, unwrap_or, sum_by, refl, sym, subst, ap, ◌∙◌, arith}
use Rattle.std.proofs.lemmas.Bool.Decides.{Decides-eqb, nat_tests}
use Rattle.std.proofs.lemmas.Bool.{and_parts}
use std.Path.{fun_ext}
use Rattle.events.specs.Event.{bidding_of}
use Rattle.events.specs.declared.event.Event.{Event}
use Rattle.events.specs.declared.event.Event.TheVariants.{Bids, Sold}
use Rattle.totals.proofs.EventAtEnd.{bid_of_at_end, now_said_before}
use Rattle.totals.proofs.Privates.{private_itself, same_private_is}
use Rattle.totals.specs.Bids.{bid_of, bid_said, bids_elsewhere_of, tied_on}
use Rattle.totals.specs.LookBack.{Game, with_event}
use Rattle.history.proofs.Soundness.{BidsStand}
use Rattle.history.specs.Sound.{BiddersAreSeated, BidsAreSmall, BidsDiffer}
use Rattle.tables.specs.Roster.{index_of_private, privates, same_private}
use Rattle.tables.specs.Seat.{seat_at}
use Rattle.tables.specs.declared.roster.Private.{Private}
use Rattle.tables.specs.declared.seat.Seat.{Seat}

-- whichever is named first
same_either_way : (i k : ℕ) → (i == k) ≡ (k == i)
same_either_way i k = grind (arith, nat_tests)

-- seats of one number are the same
pub same_seat_is : (a b : Seat) → (a.0 == b.0) ≡ true → a ≡ b
same_seat_is a b same = ap seat_at ((Decides-eqb a.0 b.0).0 same)

-- a sum that leaves out one private
skip_same : (same : Bool) (a b : ℕ) → (same ≡ false → a ≡ b) → (if same then 0 else a) ≡ (if same then 0 else b)
skip_same true a b agree = refl
skip_same false a b agree = agree refl

-- an event that speaks of bids on one private alone leaves the others
pub elsewhere_kept : (events : List Event) (event : Event) (seat : Seat) (private : Private)
    → ((other : Private) → same_private other private ≡ false → bid_said other seat (bidding_of event) ≡ None)
    → bids_elsewhere_of (events ++ event ∷ []) seat private ≡ bids_elsewhere_of events seat private
elsewhere_kept events event seat private silent =
    ap (λ tied. sum_by tied privates) (fun_ext (λ other. skip_same (same_private other private)
    (tied_on (events ++ event ∷ []) seat other) (tied_on events seat other)
    (λ apart. ap (λ bid. unwrap_or bid 0) (now_said_before (λ e. bid_said other seat (bidding_of e)) events event
    (silent other apart)))))

-- a bid speaks of one private
pub bid_silent : (private : Private) (seat : Seat) (amount : ℕ) (by : Seat) (other : Private)
    → same_private other private ≡ false → bid_said other by (bidding_of (Bids private seat amount)) ≡ None
bid_silent private seat amount by other apart =
    ap (λ same. if same && (seat.0 == by.0) then Some (Some amount) else None)
    (same_either_way (index_of_private private) (index_of_private other) ∙ apart)

-- and so does a sale
pub sale_silent : (private : Private) (seat : Seat) (price : ℕ) (by : Seat) (other : Private)
    → same_private other private ≡ false → bid_said other by (bidding_of (Sold private seat price)) ≡ None
sale_silent private seat price by other apart =
    ap (λ same. if same then Some None else None) (same_either_way (index_of_private private) (index_of_private other)
    ∙ apart)

-- what a bid ties
tied_by : (here : Bool) (amount : ℕ) (earlier : Option ℕ)
    → unwrap_or (unwrap_or (if here then Some (Some amount) else None) earlier) 0
    ≡ (if here then amount else unwrap_or earlier 0)
tied_by true amount earlier = refl
tied_by false amount earlier = refl

-- a bid ties its sum for the seat that bids, and leaves the others
pub tied_by_bid : (events : List Event) (private : Private) (seat : Seat) (amount : ℕ) (by : Seat)
    → tied_on (events ++ Bids private seat amount ∷ []) by private
    ≡ (if seat.0 == by.0 then amount else tied_on events by private)
tied_by_bid events private seat amount by =
    ap (λ bid. unwrap_or bid 0) (bid_of_at_end events (Bids private seat amount) private by
    ∙ ap (λ same. unwrap_or (if same && (seat.0 == by.0) then Some (Some amount) else None)
    (bid_of events private by)) (private_itself private))
    ∙ tied_by (seat.0 == by.0) amount (bid_of events private by)

-- a sale unties all bids on the private
pub untied_by_sale : (events : List Event) (private : Private) (seat : Seat) (price : ℕ) (by : Seat)
    → tied_on (events ++ Sold private seat price ∷ []) by private ≡ 0
untied_by_sale events private seat price by =
    ap (λ bid. unwrap_or bid 0) (bid_of_at_end events (Sold private seat price) private by
    ∙ ap (λ same. unwrap_or (if same then Some None else None) (bid_of events private by)) (private_itself private))

-- a bid that is after a bid is that one, or one before
bid_cases : (here : Bool) (amount : ℕ) (earlier : Option ℕ) (said : ℕ)
    → unwrap_or (if here then Some (Some amount) else None) earlier ≡ Some said
    → ((here ≡ true) × (amount ≡ said)) ⊎ ((here ≡ false) × (earlier ≡ Some said))
bid_cases true amount earlier said is = inl (refl, cc)
bid_cases false amount earlier said is = inr (refl, is)

-- a bid that is after a sale was before it
pub sale_cases : (here : Bool) (earlier : Option ℕ) (said : ℕ)
    → unwrap_or (if here then Some None else None) earlier ≡ Some said → earlier ≡ Some said
sale_cases true earlier said is = absurd (cc)
sale_cases false earlier said is = is

-- so a seat has the bid that was made, or the one that it had
bid_after : (events : List Event) (private : Private) (seat : Seat) (amount : ℕ) (on : Private) (by : Seat) (said : ℕ)
    → bid_of (events ++ Bids private seat amount ∷ []) on by ≡ Some said
    → ((seat ≡ by) × (private ≡ on) × (amount ≡ said)) ⊎ (bid_of events on by ≡ Some said)
bid_after events private seat amount on by said is =
    elim (bid_cases (same_private private on && (seat.0 == by.0)) amount (bid_of events on by) said
    (sym (bid_of_at_end events (Bids private seat amount) on by) ∙ is)) [
      | inl new ↦
          let here = and_parts (same_private private on) (seat.0 == by.0) new.0 in
          inl (same_seat_is seat by here.1, same_private_is private on here.0, new.1)
      | inr old ↦ inr old.1
    ]

-- so bids differ after a bid that differs from those of the other seats
pub differ_after_bid : (events : List Event) (private : Private) (seat : Seat) (amount : ℕ)
    → ((other : Seat) → bid_of events private other ≡ Some amount → other ≡ seat) → BidsDiffer events
    → BidsDiffer (events ++ Bids private seat amount ∷ [])
differ_after_bid events private seat amount apart differ on a b said of_a of_b =
    elim (bid_after events private seat amount on a said of_a) [
      | inl new_a ↦ elim (bid_after events private seat amount on b said of_b) [
        | inl new_b ↦ sym new_a.0 ∙ new_b.0
        | inr old_b ↦ sym new_a.0 ∙ sym (apart b (rw (new_a.1, new_a.2) old_b))
      ]
      | inr old_a ↦ elim (bid_after events private seat amount on b said of_b) [
        | inl new_b ↦ apart a (rw (new_b.1, new_b.2) old_a) ∙ new_b.0
        | inr old_b ↦ differ on a b said old_a old_b
      ]
    ]

-- and are small after a small bid
pub small_after_bid : (events : List Event) (private : Private) (seat : Seat) (amount : ℕ) → amount ≤ 99999
    → BidsAreSmall events → BidsAreSmall (events ++ Bids private seat amount ∷ [])
small_after_bid events private seat amount low small on by said is =
    elim (bid_after events private seat amount on by said is) [
      | inl new ↦ omega (arith, new.2)
      | inr old ↦ small on by said old
    ]

-- and are of seats at the table after the bid of one
pub seated_after_bid : (seats : ℕ) (events : List Event) (private : Private) (seat : Seat) (amount : ℕ)
    → seat.0 < seats → BiddersAreSeated seats events → BiddersAreSeated seats (events ++ Bids private seat amount ∷ [])
seated_after_bid seats events private seat amount under seated on by said is =
    elim (bid_after events private seat amount on by said is) [
      | inl new ↦ subst (λ (one : Seat). one.0 < seats) new.0 under
      | inr old ↦ seated on by said old
    ]

-- after a sale bids stand as before on the other privates
pub bids_after_sale : (game : Game) (private : Private) (seat : Seat) (price : ℕ) → BidsStand game
    → BidsStand (with_event game (Sold private seat price))
bids_after_sale game private seat price bids =
    let was : (on : Private) (by : Seat) (said : ℕ)
    → bid_of (game.events ++ Sold private seat price ∷ []) on by ≡ Some said → bid_of game.events on by ≡ Some said =
    λ on by said is. sale_cases (same_private private on) (bid_of game.events on by) said
    (sym (bid_of_at_end game.events (Sold private seat price) on by) ∙ is) in (
      λ on a b said of_a of_b. bids.0 on a b said (was on a said of_a) (was on b said of_b),
      λ on by said is. bids.1 on by said (was on by said is),
      λ on by said is. bids.2 on by said (was on by said is),
    )
