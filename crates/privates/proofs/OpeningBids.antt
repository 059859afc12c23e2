-- Within an opening round bids rise: a bid that is obeyed is at least 5 over every earlier one on
-- its private.
use Rattle.std.proofs.Common.{◌≡◌, ℕ, zero, suc, ◌+◌, ◌-◌, ◌<◌, ◌==◌, ◌||◌, nat_lt, Bool, true, false, List, [], ◌∷◌}
use Rattle.std.proofs.Common.{◌++◌, Option, Some, None, append-nil, unwrap_or, refl, sym, subst, ap, ◌∙◌, if◌then◌else◌}
use Rattle.std.proofs.lemmas.List.{append_assoc}
use Rattle.std.proofs.lemmas.List.Folds.{list_any-append}
use Rattle.std.specs.List.{list_all, list_any}
use Rattle.std.proofs.lemmas.Bool.{and_parts, or_parts, ltb-true}
use Rattle.events.specs.Event.{bidding_of, order_obeyed}
use Rattle.events.specs.declared.event.Bid.{Bid}
use Rattle.events.specs.declared.event.Bidding.{Bidding}
use Rattle.events.specs.declared.event.Bidding.TheVariants.{Made, Ended}
use Rattle.events.specs.declared.event.Event.{Event}
use Rattle.events.specs.declared.event.Event.TheVariants as event
use Rattle.events.specs.declared.event.Holder.{Holder}
use Rattle.events.specs.declared.ruling.Refusal.TheVariants.{Opening}
use Rattle.events.specs.declared.ruling.Ruling.{Ruling}
use Rattle.events.specs.declared.ruling.Ruling.TheVariants.{Obeyed}
use Rattle.history.proofs.BidWords.{seated_after_bid, sale_cases}
use Rattle.history.proofs.NearlySound.{ruling_quiet}
use Rattle.totals.proofs.EventAtEnd.{bid_of_at_end}
use Rattle.totals.specs.Bids.{bid_of, bid_said, bids_on}
use Rattle.totals.specs.LookBack.{cheapest_of, is_sold, owner_of, priority_of, sv_price_of}
use Rattle.history.specs.Sound.{BiddersAreSeated}
use Rattle.history.specs.Record.{after_revenues, breaks, paid_to_owner, with_broken}
use Rattle.order_grammar.specs.declared.condition.Condition.{Condition}
use Rattle.order_grammar.specs.declared.order.Order.{Order}
use Rattle.order_grammar.specs.declared.order.Order.TheVariants as order
use Rattle.order_grammar.specs.declared.play.PlayOrder.TheVariants as play
use Rattle.privates.proofs.RulesAtTable.{by_rules, rules_at}
use Rattle.privates.proofs.TurnLemmas.{may_act_after}
use Rattle.privates.specs.Bid.{MayBid, is_near_some}
use Rattle.privates.specs.BidsRise.{BidsRise, OpeningBidsRise, is_near_earlier}
use Rattle.privates.specs.Closing.{after_fall, after_passing, all_sold, given_away, opening_round_closed}
use Rattle.privates.specs.Bank.{price_of_private}
use Rattle.privates.specs.Sale.{after_private_sale, gifts, settle_auctions, settled, settled_by, settled_of}
use Rattle.privates.specs.Standing.{opening_standing_ruling}
use Rattle.privates.specs.Turn.{InOpeningTurn, after_opening_line, after_opening_ruling, opening_judgement}
use Rattle.privates.specs.Turn.{opening_refusal, turn_after_opening_order}
use Rattle.sheets.specs.Part.{Numbered}
use Rattle.tables.specs.Roster.{face_of, privates, revenue_of, same_private}
use Rattle.tables.specs.Steps.{iterate}
use Rattle.tables.specs.declared.roster.Private.{Private}
use Rattle.tables.specs.declared.roster.Private.TheVariants as private
use Rattle.tables.specs.declared.seat.Seat.{Seat}
use Rattle.turns.proofs.RoundLeads.{round_leads}
use Rattle.turns.proofs.Ruled.{none_as_refusal, of_ruled}
use Rattle.turns.specs.Ruling.{has_place_in_turn}

-- bids rise, and those that stand are of seats at the table
record RiseAt (seats : ℕ) (events : List Event) : Type 0 where
  rise : BidsRise events
  seated : BiddersAreSeated seats events

-- no bid is made
abbrev is_no_bid : Option Bidding → Bool
is_no_bid None = true
is_no_bid (Some (Made private bid)) = false
is_no_bid (Some (Ended private)) = true

-- bids rise with one more event that is near no earlier bid
rise_more : (events : List Event) (new : Event)
    → list_any (λ e. is_near_earlier (bidding_of e) (bidding_of new)) events ≡ false → BidsRise events →
    BidsRise (events ++ new ∷ [])
rise_more [] new far rise = (refl, tt)
rise_more (event ∷ events) new far rise =
    let parts = or_parts (is_near_earlier (bidding_of event) (bidding_of new))
    (list_any (λ e. is_near_earlier (bidding_of e) (bidding_of new)) events) far in (
      list_any-append (λ e. is_near_earlier (bidding_of event) (bidding_of e)) events (new ∷ [])
          ∙ ap (λ (b : Bool). b || (is_near_earlier (bidding_of event) (bidding_of new) || false)) rise.0
          ∙ ap (λ (b : Bool). b || false) parts.0,
      rise_more events new parts.1 rise.1,
    )

-- what is no bid is near none
never_near : (word : Option Bidding) (events : List Event) → is_no_bid word ≡ true
    → list_any (λ e. is_near_earlier (bidding_of e) word) events ≡ false
never_near word [] none = refl
never_near None (event ∷ events) none = never_near None events none
never_near (Some (Made private bid)) (event ∷ events) none = absurd (cc)
never_near (Some (Ended private)) (event ∷ events) none = never_near (Some (Ended private)) events none

-- a bid that is after what is no bid was before
stood : (word : Option Bidding) (private : Private) (seat : Seat) (before : Option ℕ) (amount : ℕ)
    → is_no_bid word ≡ true →
    unwrap_or (bid_said private seat word) before ≡ Some amount → before ≡ Some amount
stood None private seat before amount none is_bid = is_bid
stood (Some (Made other bid)) private seat before amount none is_bid = absurd (cc)
stood (Some (Ended other)) private seat before amount none is_bid =
    sale_cases (same_private other private) before amount is_bid

-- bids rise with one more event that is no bid
with_other : (seats : ℕ) (events : List Event) (event : Event) → is_no_bid (bidding_of event) ≡ true
    → RiseAt seats events → RiseAt seats (events ++ event ∷ [])
with_other seats events event none before =
    record {
      rise = rise_more events event (never_near (bidding_of event) events none) before.rise;
      seated = λ private seat amount is_bid.
          before.seated private seat amount
          (stood (bidding_of event) private seat (bid_of events private seat) amount none
          (sym (bid_of_at_end events event private seat) ∙ is_bid));
    }

-- with some events that are no bids
with_others : (seats : ℕ) (events more : List Event) → list_all (λ e. is_no_bid (bidding_of e)) more ≡ true
    → RiseAt seats events →
    RiseAt seats (events ++ more)
with_others seats events [] none before = subst (λ (list : List Event). RiseAt seats list) (sym (append-nil events))
    before
with_others seats events (event ∷ more) none before =
    let parts = and_parts (is_no_bid (bidding_of event)) (list_all (λ e. is_no_bid (bidding_of e)) more) none in
    subst (λ (list : List Event). RiseAt seats list) (append_assoc events (event ∷ []) more)
    (with_others seats (events ++ event ∷ []) more parts.1 (with_other seats events event parts.0 before))

-- in either of two cases
in_either : (seats : ℕ) (b : Bool) (one other : List Event) → RiseAt seats one → RiseAt seats other
    → RiseAt seats (if b then one else other)
in_either seats true one other first second = first
in_either seats false one other first second = second

-- a sale and what comes with it are no bids
sale_bids_nothing : (events : List Event) (private : Private) (buyer : Seat) (price : ℕ) →
    list_all (λ e. is_no_bid (bidding_of e)) (event.Sold private buyer price ∷ gifts events private buyer) ≡ true
sale_bids_nothing events private.SchuylkillValley buyer price = refl
sale_bids_nothing events private.ChamplainStLawrence buyer price = refl
sale_bids_nothing events private.DelawareHudson buyer price = refl
sale_bids_nothing events private.MohawkHudson buyer price = refl
sale_bids_nothing events private.CamdenAmboy buyer price = refl
sale_bids_nothing events private.BaltimoreOhio buyer price = refl

-- after a sale
after_sale_rise : (seats : ℕ) (events : List Event) (private : Private) (buyer : Seat) (price : ℕ)
    → RiseAt seats events →
    RiseAt seats (after_private_sale events private buyer price)
after_sale_rise seats events private buyer price before =
    with_others seats events (event.Sold private buyer price ∷ gifts events private buyer)
    (sale_bids_nothing events private buyer price) before

-- after the sale that follows from the bids on a private
after_bids_rise : (seats : ℕ) (events : List Event) (private : Private) (bids : List Bid) → RiseAt seats events →
    RiseAt seats (settled_by seats events private bids)
after_bids_rise seats events private [] before = before
after_bids_rise seats events private (bid ∷ []) before = after_sale_rise seats events private bid.seat bid.amount before
after_bids_rise seats events private (bid ∷ other ∷ bids) before = after_sale_rise seats events private _ _ before

-- after that of the cheapest private
after_cheapest_rise : (seats : ℕ) (events : List Event) (cheapest : Option Private) → RiseAt seats events
    → RiseAt seats (settled_of seats events cheapest)
after_cheapest_rise seats events None before = before
after_cheapest_rise seats events (Some private) before =
    after_bids_rise seats events private (bids_on seats events private) before

-- after some of these
after_steps_rise : (seats n : ℕ) (events : List Event) → RiseAt seats events
    → RiseAt seats (iterate (settle_auctions seats) n events)
after_steps_rise seats zero events before = before
after_steps_rise seats (suc n) events before =
    after_cheapest_rise seats (iterate (settle_auctions seats) n events)
    (cheapest_of (iterate (settle_auctions seats) n events)) (after_steps_rise seats n events before)

-- after the sales that follow from a sale
settled_rise : (seats : ℕ) (events : List Event) → RiseAt seats events → RiseAt seats (settled seats events)
unfolding settled
settled_rise seats events before = after_steps_rise seats 6 events before

-- after BROKEN, where the bank breaks
broken_rise : (seats : ℕ) (events : List Event) → RiseAt seats events → RiseAt seats (with_broken seats events)
broken_rise seats events before =
    in_either seats (breaks seats events) (events ++ event.Broken ∷ []) events
    (with_other seats events event.Broken refl before) before

-- after a revenue
revenue_rise : (seats : ℕ) (events : List Event) (private : Private) (owner : Option Holder) → RiseAt seats events →
    RiseAt seats (paid_to_owner seats events private owner)
revenue_rise seats events private None before = before
revenue_rise seats events private (Some owner) before =
    broken_rise seats (events ++ event.Revenue private owner (revenue_of private) ∷ [])
    (with_other seats events (event.Revenue private owner (revenue_of private)) refl before)

-- after the revenues of some privates
revenues_rise : (seats : ℕ) (events : List Event) (paying : List Private) → RiseAt seats events
    → RiseAt seats (after_revenues seats events paying)
revenues_rise seats events [] before = before
revenues_rise seats events (private ∷ others) before =
    revenues_rise seats (paid_to_owner seats events private (owner_of events private)) others
    (revenue_rise seats events private (owner_of events private) before)

-- after the fall of SV's price
fall_rise : (seats : ℕ) (events : List Event) (price : ℕ) (holder : Seat) → RiseAt seats events
    → RiseAt seats (after_fall seats events price holder)
fall_rise seats events price holder before =
    in_either seats (price == 0) (settled seats (given_away events holder)) (events ++ event.Price price ∷ [])
    (settled_rise seats (given_away events holder)
    (after_sale_rise seats (events ++ event.Price 0 ∷ []) private.SchuylkillValley holder 0
    (with_other seats events (event.Price 0) refl before)))
    (with_other seats events (event.Price price) refl before)

-- after the close
closed_rise : (seats : ℕ) (events : List Event) → RiseAt seats events → RiseAt seats (opening_round_closed seats events)
closed_rise seats events before =
    in_either seats (all_sold events) events (after_passing seats events) before
    (in_either seats (is_sold events private.SchuylkillValley) (after_revenues seats events privates)
    (after_fall seats events (sv_price_of events - 5) (priority_of seats events))
    (revenues_rise seats events privates before)
    (fall_rise seats events (sv_price_of events - 5) (priority_of seats events) before))

-- after a bid that a seat at the table may make
bid_rise : (seats : ℕ) (events : List Event) (seat : Seat) (private : Private) (amount : ℕ)
    → MayBid seats events seat private amount →
    seat.0 < seats → RiseAt seats events → RiseAt seats (events ++ event.Bids private seat amount ∷ [])
bid_rise seats events seat private amount may under before =
    let far : is_near_some amount events private ≡ false =
    (or_parts (nat_lt amount (face_of private + 5)) (is_near_some amount events private) may.high).1
    in
    record {
      rise = rise_more events (event.Bids private seat amount) far before.rise;
      seated = seated_after_bid seats events private seat amount under before.seated;
    }

-- after a line whose order is done
order_rise : (seats : ℕ) (seat : Seat) (turn : InOpeningTurn) (number : ℕ) → seat.0 < seats → RiseAt seats turn.events
    → (condition : Option Condition) (done : Order) →
    opening_refusal seats turn.events seat turn.actions done ≡ None
    → RiseAt seats (after_opening_ruling seats seat turn number (Obeyed condition done)).events
order_rise seats seat turn number under before condition (order.Play (play.BuyPrivate private)) kept =
    let recorded : Event = event.Ruled seat number (Obeyed condition (order.Play (play.BuyPrivate private))) in
    let ruled : List Event = turn.events ++ recorded ∷ [] in
    settled_rise seats (after_private_sale ruled private seat (price_of_private ruled private))
    (after_sale_rise seats ruled private seat (price_of_private ruled private) (with_other seats turn.events recorded refl
    before))
order_rise seats seat turn number under before condition (order.Play (play.Bid private amount)) kept =
    let recorded : Event = event.Ruled seat number (Obeyed condition (order.Play (play.Bid private amount))) in
    let ruled : List Event = turn.events ++ recorded ∷ [] in
    let none = none_as_refusal Opening (opening_judgement seats turn.events seat turn.actions (order.Play (play.Bid private amount)))
    kept in
    bid_rise seats ruled seat private amount
    (may_act_after (record { seats = seats; events = turn.events }) (record { seats = seats; events = ruled }) recorded
    seat turn.actions (order.Play (play.Bid private amount)) refl
    (ruling_quiet seat number (Obeyed condition (order.Play (play.Bid private amount)))) none)
    under (with_other seats turn.events recorded refl before)
order_rise seats seat turn number under before condition other kept = absurd (cc)

-- after a line
line_rise : (seats : ℕ) (seat : Seat) (turn : InOpeningTurn) (line : Numbered) → seat.0 < seats → RiseAt seats turn.events →
    RiseAt seats (after_opening_line seats seat turn line).events
line_rise seats seat turn line under before =
    of_ruled (turn_after_opening_order seats seat) (opening_refusal seats turn.events seat turn.actions) seat turn line.number
    (λ (after : InOpeningTurn). RiseAt seats after.events)
    (λ (ruling : Ruling) (none : order_obeyed ruling ≡ None). with_other seats turn.events
    (event.Ruled seat line.number ruling) refl before)
    (order_rise seats seat turn line.number under before) has_place_in_turn turn.events line

-- after a line where the test of its seat passes
tested_rise : (seats : ℕ) (seat : Seat) (turn : InOpeningTurn) (line : Numbered) (b : Bool) → (b ≡ true → seat.0 < seats)
    → RiseAt seats turn.events →
    RiseAt seats (if b then after_opening_line seats seat turn line else turn).events
tested_rise seats seat turn line true under before =
    line_rise seats seat turn line (under refl) before
tested_rise seats seat turn line false under before = before

-- bids rise over an opening round
pub opening_bids_rise : OpeningBidsRise
opening_bids_rise file round old new played some seated rise =
    let seats : ℕ = old.seats in
    let begun : RiseAt seats (old.events ++ event.Round round ∷ []) =
    with_other seats old.events (event.Round round) refl (record { rise = rise; seated = seated })
    in
    let kept : RiseAt seats new.events =
    round_leads (rules_at seats) (λ (a b : List Event). RiseAt seats a → RiseAt seats b)
    (record {
      stays = λ events before. before;
      further = λ a b c first second before. second (first before);
      standing = λ seat events line before. with_other seats events
          (event.Ruled seat line.number (opening_standing_ruling events line)) refl before;
      line = λ any seat turn line before. tested_rise seats seat turn line (nat_lt seat.0 seats)
          (λ under. ltb-true seat.0 seats under) before;
      passes = λ events seat before. with_other seats events (event.Passes seat) refl before;
      closed = λ any events before. closed_rise seats events before;
      leaves = λ events seat lines before. with_other seats events (event.Left seat lines) refl before;
    })
    file round old new (by_rules file round old new played some) begun
    in
    kept.rise
