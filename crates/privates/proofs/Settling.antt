-- The sales that follow from a sale reach an end: each sells one of the six privates.
use Rattle.std.proofs.Common.{◌≡◌, ◌⊎◌, ℕ, zero, suc, ◌+◌, ◌≤◌, Bool, true, false, if◌then◌else◌, List, [], ◌∷◌, ◌++◌}
use Rattle.std.proofs.Common.{Option, Some, None, is_some, append-nil, append_assoc, inl, inr, refl, sym, subst, ap}
use Rattle.std.proofs.Common.{◌∙◌, arith}
use Rattle.events.specs.Event.{ownership_of}
use Rattle.events.specs.declared.event.Bid.{Bid}
use Rattle.events.specs.declared.event.Event.{Event}
use Rattle.events.specs.declared.event.Event.TheVariants.{Sold}
use Rattle.history.proofs.Acts.{stays_sold}
use Rattle.totals.proofs.EventAtEnd.{last_said_at_end}
use Rattle.totals.specs.Bids.{bids_on}
use Rattle.totals.specs.LookBack.{cheapest_of, is_sold, owner_said}
use Rattle.privates.proofs.StandingBids.{cheapest_unsold}
use Rattle.privates.specs.Sale.{settle_auctions, settled, settled_by, settled_of}
use Rattle.tables.specs.Steps.{iterate}
use Rattle.tables.specs.declared.roster.Private.{Private}
use Rattle.tables.specs.declared.roster.Private.TheVariants.{SchuylkillValley, ChamplainStLawrence, DelawareHudson}
use Rattle.tables.specs.declared.roster.Private.TheVariants.{MohawkHudson, CamdenAmboy, BaltimoreOhio}
use Rattle.tables.specs.declared.seat.Seat.{Seat}

-- 1 for a private that is unsold
abbrev one_unsold : List Event → Private → ℕ
one_unsold events private = if is_sold events private then 0 else 1

-- how many privates are unsold
abbrev unsold : List Event → ℕ
unsold events =
    one_unsold events SchuylkillValley + one_unsold events ChamplainStLawrence + one_unsold events DelawareHudson
    + one_unsold events MohawkHudson + one_unsold events CamdenAmboy + one_unsold events BaltimoreOhio

-- at most one is counted
one_most : (events : List Event) (private : Private) → one_unsold events private ≤ 1
one_most events private =
    elim (is_sold events private) as (λ (b : Bool). (if b then 0 else 1) ≤ 1)
    [ true ↦ omega arith | false ↦ omega arith ]

-- a private that is sold stays so
later_sold : (events more : List Event) (private : Private) → is_sold events private ≡ true
    → is_sold (events ++ more) private ≡ true
later_sold events [] private sold = ap (λ (all : List Event). is_sold all private) (append-nil events) ∙ sold
later_sold events (event ∷ more) private sold =
    ap (λ (all : List Event). is_sold all private) (sym (append_assoc events (event ∷ []) more))
    ∙ later_sold (events ++ event ∷ []) more private (stays_sold events event private sold)

-- a choice that is no more where more is sold
no_more : (before after : Bool) → (before ≡ true → after ≡ true) → (if after then 0 else 1) ≤ (if before then 0 else 1)
no_more true after stays = subst (λ (b : Bool). (if b then 0 else 1) ≤ 0) (sym (stays refl)) (omega arith)
no_more false true stays = omega arith
no_more false false stays = omega arith

-- no more are unsold later
one_later : (events more : List Event) (private : Private)
    → one_unsold (events ++ more) private ≤ one_unsold events private
one_later events more private = no_more (is_sold events private) (is_sold (events ++ more) private)
    (later_sold events more private)

-- a private that an event sells is sold
sold_here : (events : List Event) (private : Private) (buyer : Seat) (price : ℕ)
    → is_sold (events ++ Sold private buyer price ∷ []) private ≡ true
sold_here events SchuylkillValley buyer price =
    ap is_some (last_said_at_end (λ e. owner_said SchuylkillValley (ownership_of e)) events
    (Sold SchuylkillValley buyer price))
sold_here events ChamplainStLawrence buyer price =
    ap is_some (last_said_at_end (λ e. owner_said ChamplainStLawrence (ownership_of e)) events
    (Sold ChamplainStLawrence buyer price))
sold_here events DelawareHudson buyer price = ap is_some
    (last_said_at_end (λ e. owner_said DelawareHudson (ownership_of e)) events (Sold DelawareHudson buyer price))
sold_here events MohawkHudson buyer price = ap is_some
    (last_said_at_end (λ e. owner_said MohawkHudson (ownership_of e)) events (Sold MohawkHudson buyer price))
sold_here events CamdenAmboy buyer price = ap is_some
    (last_said_at_end (λ e. owner_said CamdenAmboy (ownership_of e)) events (Sold CamdenAmboy buyer price))
sold_here events BaltimoreOhio buyer price = ap is_some
    (last_said_at_end (λ e. owner_said BaltimoreOhio (ownership_of e)) events (Sold BaltimoreOhio buyer price))

-- and is not counted from then on
none_here : (events more : List Event) (private : Private) (buyer : Seat) (price : ℕ)
    → one_unsold (events ++ Sold private buyer price ∷ more) private ≡ 0
none_here events more private buyer price =
    ap (λ (b : Bool). if b then 0 else 1)
    (ap (λ (all : List Event). is_sold all private) (sym (append_assoc events (Sold private buyer price ∷ []) more))
    ∙ later_sold (events ++ Sold private buyer price ∷ []) more private (sold_here events private buyer price))

-- so a sale of one that was unsold leaves one fewer
one_fewer : (events more : List Event) (private : Private) (buyer : Seat) (price : ℕ) → one_unsold events private ≡ 1
    → unsold (events ++ Sold private buyer price ∷ more) + 1 ≤ unsold events
one_fewer events more SchuylkillValley buyer price one =
    let rest : List Event = Sold SchuylkillValley buyer price ∷ more in
    omega (
      arith,
      none_here events more SchuylkillValley buyer price,
      one_later events rest ChamplainStLawrence,
      one_later events rest DelawareHudson,
      one_later events rest MohawkHudson,
      one_later events rest CamdenAmboy,
      one_later events rest BaltimoreOhio,
    )
one_fewer events more ChamplainStLawrence buyer price one =
    let rest : List Event = Sold ChamplainStLawrence buyer price ∷ more in
    omega (
      arith,
      none_here events more ChamplainStLawrence buyer price,
      one_later events rest SchuylkillValley,
      one_later events rest DelawareHudson,
      one_later events rest MohawkHudson,
      one_later events rest CamdenAmboy,
      one_later events rest BaltimoreOhio,
    )
one_fewer events more DelawareHudson buyer price one =
    let rest : List Event = Sold DelawareHudson buyer price ∷ more in
    omega (
      arith,
      none_here events more DelawareHudson buyer price,
      one_later events rest SchuylkillValley,
      one_later
          events rest ChamplainStLawrence,
      one_later events rest MohawkHudson,
      one_later events rest CamdenAmboy,
      one_later events rest BaltimoreOhio,
    )
one_fewer events more MohawkHudson buyer price one =
    let rest : List Event = Sold MohawkHudson buyer price ∷ more in
    omega (
      arith,
      none_here events more MohawkHudson buyer price,
      one_later events rest SchuylkillValley,
      one_later
          events rest ChamplainStLawrence,
      one_later events rest DelawareHudson,
      one_later events rest CamdenAmboy,
      one_later events rest BaltimoreOhio,
    )
one_fewer events more CamdenAmboy buyer price one =
    let rest : List Event = Sold CamdenAmboy buyer price ∷ more in
    omega (
      arith,
      none_here events more CamdenAmboy buyer price,
      one_later events rest SchuylkillValley,
      one_later
          events rest ChamplainStLawrence,
      one_later events rest DelawareHudson,
      one_later events rest MohawkHudson,
      one_later events rest BaltimoreOhio,
    )
one_fewer events more BaltimoreOhio buyer price one =
    let rest : List Event = Sold BaltimoreOhio buyer price ∷ more in
    omega (
      arith,
      none_here events more BaltimoreOhio buyer price,
      one_later events rest SchuylkillValley,
      one_later
          events rest ChamplainStLawrence,
      one_later events rest DelawareHudson,
      one_later events rest MohawkHudson,
      one_later events rest CamdenAmboy,
    )

-- a step changes nothing, or leaves one fewer unsold
abbrev Steps : ℕ → List Event → Type 0
Steps seats events = (settle_auctions seats events ≡ events)
    ⊎ (unsold (settle_auctions seats events) + 1 ≤ unsold events)

-- so do the bids on the cheapest private
bids_step : (seats : ℕ) (events : List Event) (private : Private) (bids : List Bid) → one_unsold events private ≡ 1
    → (settled_by seats events private bids ≡ events)
    ⊎ (unsold (settled_by seats events private bids) + 1 ≤ unsold events)
bids_step seats events private [] one = inl refl
bids_step seats events private (bid ∷ []) one = inr (one_fewer events _ private bid.seat bid.amount one)
bids_step seats events private (bid ∷ other ∷ bids) one = inr (one_fewer events _ private _ _ one)

-- of the cheapest private, if there is one
cheapest_step : (seats : ℕ) (events : List Event) (found : Option Private) → cheapest_of events ≡ found
    → (settled_of seats events found ≡ events) ⊎ (unsold (settled_of seats events found) + 1 ≤ unsold events)
cheapest_step seats events None found = inl refl
cheapest_step seats events (Some private) found =
    bids_step seats events private (bids_on seats events private)
    (ap (λ (b : Bool). if b then 0 else 1) (cheapest_unsold events private found))

one_step : (seats : ℕ) (events : List Event) → Steps seats events
one_step seats events = cheapest_step seats events (cheapest_of events) refl

-- this many steps leave this many fewer, unless nothing was left to settle
all_steps : (seats n : ℕ) (events : List Event)
    → (settle_auctions seats (iterate (settle_auctions seats) n events) ≡ iterate (settle_auctions seats) n events)
    ⊎ (unsold (iterate (settle_auctions seats) n events) + n ≤ unsold events)
all_steps seats zero events = inr (omega arith)
all_steps seats (suc n) events =
    let here : List Event = iterate (settle_auctions seats) n events in
    elim (all_steps seats n events) [
      | inl same ↦ inl (ap (settle_auctions seats) same)
      | inr fewer ↦ elim (one_step seats here) [
        | inl same ↦ inl (ap (settle_auctions seats) same)
        | inr less ↦ inr
            (omega arith)
      ]
    ]

-- six are unsold at most
six_most : (events : List Event) → unsold events ≤ 6
six_most events =
    omega (
      arith,
      one_most events SchuylkillValley,
      one_most events ChamplainStLawrence,
      one_most events
          DelawareHudson,
      one_most events MohawkHudson,
      one_most events CamdenAmboy,
      one_most events BaltimoreOhio,
    )

-- after six steps nothing is left to settle
pub nothing_left : (seats : ℕ) (events : List Event)
    → settle_auctions seats (settled seats events) ≡ settled seats events
unfolding settled
nothing_left seats events =
    elim (all_steps seats 6 events) [
      | inl same ↦ same
      | inr fewer ↦
          elim (one_step seats (iterate (settle_auctions seats) 6 events)) [
            | inl same ↦ same
            | inr less ↦ let most = six_most events in absurd (omega arith)
          ]
    ]
