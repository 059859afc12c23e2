-- The standing bids on a private, seat by seat.
use Rattle.std.proofs.Common.{◌≡◌, ℕ, ◌+◌, List, [], ◌∷◌, ◌++◌, Some, None, sym, ap, ◌∙◌, arith, ℤ, pos, ◌-ℤ◌, ◌<◌, ◌^◌}
use Rattle.std.proofs.Common.{sum_by}
use Rattle.std.proofs.lemmas.List.{append-nil}
use Rattle.std.proofs.lemmas.List.FromFn.{map-range_with_len_more}
use Rattle.std.proofs.lemmas.Grind.{flat_map-append}
use Rattle.std.proofs.lemmas.List.Concat.{flat_map-cons}
use Rattle.std.proofs.lemmas.Int.{ints}
use Rattle.std.specs.List.{flat_map}
use mir.Syntax.{w128}
use mir.Val.{to_z, of_z}
use Rattle.events.specs.declared.event.Bid.{Bid}
use Rattle.events.specs.declared.event.Event.{Event}
use Rattle.totals.specs.LookBack.{IsModerate}
use Rattle.std.proofs.lemmas.List.Sums.{sum_by-cons}
use Rattle.totals.specs.Bids.{as_bid, bid_of, bids_elsewhere_of, bids_of, bids_on, tied_elsewhere, tied_on}
use Rattle.tables.specs.Seat.{all_seats, seat_at}
use Rattle.tables.specs.Roster.{privates}
use Rattle.tables.specs.declared.roster.Private.{Private}
use Rattle.tables.specs.declared.roster.Private.TheVariants.{SchuylkillValley, ChamplainStLawrence, DelawareHudson}
use Rattle.tables.specs.declared.roster.Private.TheVariants.{MohawkHudson, CamdenAmboy, BaltimoreOhio}
use Rattle.tables.specs.declared.seat.Seat.{Seat}

-- one more seat
pub bids_on_more : (count : ℕ) (events : List Event) (private : Private)
    → bids_on (count + 1) events private ≡ bids_on count events private
    ++ as_bid (seat_at count) (bid_of events private (seat_at count))
bids_on_more count events private =
    ap (flat_map (λ seat. as_bid seat (bid_of events private seat)))
    (map-range_with_len_more seat_at 0 count count (omega arith))
    ∙ (flat_map-append (λ seat. as_bid seat (bid_of events private seat)) (all_seats count) (seat_at count ∷ [])
    ∙ ap (λ last. bids_on count events private ++ last)
    (flat_map-cons (λ seat. as_bid seat (bid_of events private seat)) (seat_at count) [] ∙ append-nil _))

-- a seat with a bid
pub bid_added : (count : ℕ) (events : List Event) (private : Private) (bids : List Bid) (seat : Seat) (amount : ℕ)
    → bids ≡ bids_on count events private → seat ≡ seat_at count → Some amount ≡ bid_of events private seat
    → bids ++ record { seat = seat; amount = amount } ∷ [] ≡ bids_on (count + 1) events private
bid_added count events private bids seat amount before here is_bid =
    ap (λ list. list ++ record { seat = seat; amount = amount } ∷ []) before
    ∙ sym (bids_on_more count events private ∙ ap (λ at. bids_on count events private
    ++ as_bid at (bid_of events private at)) (sym here)
    ∙ ap (λ bid. bids_on count events private ++ as_bid seat bid) (sym is_bid))

-- a seat without one
pub bid_missing : (count : ℕ) (events : List Event) (private : Private) (bids : List Bid) (seat : Seat)
    → bids ≡ bids_on count events private → seat ≡ seat_at count → None ≡ bid_of events private seat
    → bids ≡ bids_on (count + 1) events private
bid_missing count events private bids seat before here none =
    before ∙ sym (bids_on_more count events private
    ∙ ap (λ at. bids_on count events private ++ as_bid at (bid_of events private at)) (sym here)
    ∙ ap (λ bid. bids_on count events private ++ as_bid seat bid) (sym none) ∙ append-nil _)

-- a sum over the six privates
sum_of_six : (f : Private → ℕ) → sum_by f privates
    ≡ f SchuylkillValley + (f ChamplainStLawrence + (f DelawareHudson
    + (f MohawkHudson + (f CamdenAmboy + f BaltimoreOhio))))
sum_of_six f = omega (
  arith,
  sum_by-cons f SchuylkillValley
      (ChamplainStLawrence ∷ DelawareHudson ∷ MohawkHudson ∷ CamdenAmboy ∷ BaltimoreOhio ∷ []),
  sum_by-cons f
      ChamplainStLawrence (DelawareHudson ∷ MohawkHudson ∷ CamdenAmboy ∷ BaltimoreOhio ∷ []),
  sum_by-cons f
      DelawareHudson (MohawkHudson ∷ CamdenAmboy ∷ BaltimoreOhio ∷ []),
  sum_by-cons f MohawkHudson
      (CamdenAmboy ∷ BaltimoreOhio ∷ []),
  sum_by-cons f CamdenAmboy (BaltimoreOhio ∷ []),
  sum_by-cons f BaltimoreOhio [],
)

-- a seat's bids are those elsewhere, and the one on a private
pub bids_split : (events : List Event) (seat : Seat) (private : Private)
    → bids_of events seat ≡ bids_elsewhere_of events seat private + tied_on events seat private
bids_split events seat SchuylkillValley = omega
    (arith, sum_of_six (tied_on events seat), sum_of_six (tied_elsewhere events seat SchuylkillValley))
bids_split events seat ChamplainStLawrence = omega
    (arith, sum_of_six (tied_on events seat), sum_of_six (tied_elsewhere events seat ChamplainStLawrence))
bids_split events seat DelawareHudson = omega (
  arith,
  sum_of_six (tied_on events seat),
  sum_of_six
      (tied_elsewhere events seat DelawareHudson),
)
bids_split events seat MohawkHudson = omega (
  arith,
  sum_of_six (tied_on events seat),
  sum_of_six
      (tied_elsewhere events seat MohawkHudson),
)
bids_split events seat CamdenAmboy = omega (
  arith,
  sum_of_six (tied_on events seat),
  sum_of_six
      (tied_elsewhere events seat CamdenAmboy),
)
bids_split events seat BaltimoreOhio = omega (
  arith,
  sum_of_six (tied_on events seat),
  sum_of_six
      (tied_elsewhere events seat BaltimoreOhio),
)

-- cash less bids fits
pub less_bids : (cash tied : ℤ) (bids : ℕ) → IsModerate cash → tied ≡ pos bids → bids < 2 ^ 35
    → to_z w128 (of_z w128 (to_z w128 (of_z w128 cash) -ℤ to_z w128 (of_z w128 tied))) ≡ cash -ℤ pos bids
less_bids cash tied bids moderate is few = omega (arith, ints, moderate.not_under, moderate.not_over)
