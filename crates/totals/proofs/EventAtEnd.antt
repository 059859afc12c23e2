-- What a list of events says once one more event is at its end: what that event says, and what the
-- list said before.
use Rattle.std.proofs.Common.{◌≡◌, ℕ, List, [], ◌∷◌, ◌++◌, Option, Some, None, Bool, pos, ◌-ℤ◌, ◌+ℤ◌, unwrap_or}
use Rattle.std.proofs.Common.{is_some, is_none, ◌&&◌, sum_by, refl, ap, ◌∙◌, sym, arith}
use Rattle.std.proofs.lemmas.Int.{ints}
use Rattle.std.proofs.lemmas.List.Sums.{sum_by_push}
use Rattle.std.specs.Option.{option_or, option_flatten}
use std.Path.{fun_ext}
use Rattle.std.specs.List.{flat_map}
use Rattle.events.specs.Event.{bidding_of, floated_by, office_of, ownership_of, par_set, payment_of, square_set}
use Rattle.events.specs.Event.{sv_price_set, train_moved, transfer_of}
use Rattle.events.specs.declared.event.Event.{Event}
use Rattle.events.specs.declared.event.Holder.{Holder}
use Rattle.events.specs.declared.event.Party.{Party}
use Rattle.events.specs.declared.event.Shareholder.{Shareholder}
use Rattle.events.specs.declared.event.TrainPlace.{TrainPlace}
use Rattle.totals.specs.Bids.{as_bid, bid_of, bid_said, bids_of, bids_on}
use Rattle.totals.specs.AtEnd.{CashMoves, LastWordIsLast, QuietSaysTheSame}
use Rattle.totals.specs.LookBack.{balance, cash_of, first_unsold, is_closed, is_sold, last_said, now_said, owner_of}
use Rattle.totals.specs.LookBack.{owner_said, paid_by, paid_to, sv_price_of}
use Rattle.totals.specs.Shares.{brought_to, float_said, is_floated, par_of, par_said, president_of, president_said}
use Rattle.totals.specs.Shares.{shares_of, square_of, square_said, taken_from}
use Rattle.totals.specs.Trains.{one_if, train_comes, train_goes, trains_at}
use Rattle.tables.specs.Roster.{face_of, privates}
use Rattle.tables.specs.Seat.{all_seats}
use Rattle.tables.specs.declared.rolling_stock.Kind.{Kind}
use Rattle.tables.specs.declared.roster.Company.{Company}
use Rattle.tables.specs.declared.roster.Private.{Private}
use Rattle.tables.specs.declared.roster.Private.TheVariants.{SchuylkillValley}
use Rattle.tables.specs.declared.seat.Seat.{Seat}

-- nothing is before the first word
pub option_or_none : {A : Type 0} (a : Option A) → option_or a None ≡ a
option_or_none (Some a) = refl
option_or_none None = refl

-- the latest of three words
pub option_or_assoc : {A : Type 0} (a b c : Option A) → option_or (option_or a b) c ≡ option_or a (option_or b c)
option_or_assoc (Some a) b c = refl
option_or_assoc None b c = refl

-- a default is before the first word
unwrap_or_earlier : {A : Type 0} (a b : Option A) (default : A)
    → unwrap_or (option_or a b) default ≡ unwrap_or a (unwrap_or b default)
unwrap_or_earlier (Some a) b default = refl
unwrap_or_earlier None b default = refl

-- what was said last: what the event at the end says, or else what was said before it
pub last_said_at_end : {A : Type 0} → LastWordIsLast A
last_said_at_end says [] event = sym (option_or_none (says event))
last_said_at_end says (first ∷ events) event =
    ap (λ later. option_or later (says first)) (last_said_at_end says events event)
    ∙ option_or_assoc (says event) (last_said says events) (says first)

-- an event that speaks says the last of it
pub last_said_here : {A : Type 0} (says : Event → Option A) (events before : List Event) (event : Event) (said : A)
    → events ≡ before ++ event ∷ [] → says event ≡ Some said → last_said says events ≡ Some said
last_said_here says events before event said ends speaks =
    ap (last_said says) ends ∙ last_said_at_end says before event
    ∙ ap (λ later. option_or later (last_said says before)) speaks

-- an event that doesn't leaves what was said before it
pub last_said_before : {A : Type 0} (says : Event → Option A) (events before : List Event) (event : Event)
    → events ≡ before ++ event ∷ [] → says event ≡ None → last_said says events ≡ last_said says before
last_said_before says events before event ends silent =
    ap (last_said says) ends ∙ last_said_at_end says before event
    ∙ ap (λ later. option_or later (last_said says before)) silent

-- what holds now is what an event that speaks says
pub now_said_here : {A : Type 0} (says : Event → Option (Option A)) (events : List Event) (event : Event)
    (said : Option A) → says event ≡ Some said → now_said says (events ++ event ∷ []) ≡ said
now_said_here says events event said speaks =
    ap option_flatten (last_said_here says (events ++ event ∷ []) events event said refl speaks)

-- what holds now is what held before an event that doesn't speak
pub now_said_before : {A : Type 0} (says : Event → Option (Option A)) (events : List Event) (event : Event)
    → says event ≡ None → now_said says (events ++ event ∷ []) ≡ now_said says events
now_said_before says events event silent =
    ap option_flatten (last_said_before says (events ++ event ∷ []) events event refl silent)

-- what holds is the later word, or what held before
flatten_or : {A : Type 0} (later earlier : Option (Option A))
    → option_flatten (option_or later earlier) ≡ unwrap_or later (option_flatten earlier)
flatten_or None earlier = refl
flatten_or (Some word) earlier = refl

-- what holds now is what the event at the end says, or what held before it
pub now_said_at_end : {A : Type 0} (says : Event → Option (Option A)) (events : List Event) (event : Event)
    → now_said says (events ++ event ∷ []) ≡ unwrap_or (says event) (now_said says events)
now_said_at_end says events event =
    ap option_flatten (last_said_at_end says events event) ∙ flatten_or (says event) (last_said says events)

-- an account: what the event adds is added, and what it takes is taken off
pub balance_at_end : (start : ℕ) (brings takes : Event → ℕ) (events : List Event) (event : Event)
    → balance start brings takes (events ++ event ∷ [])
    ≡ (balance start brings takes events +ℤ pos (brings event)) -ℤ pos (takes event)
balance_at_end start brings takes events event =
    omega (arith, ints, sum_by_push brings events event, sum_by_push takes events event)

-- an account that an event doesn't speak of
pub balance_before : (start : ℕ) (brings takes : Event → ℕ) (events : List Event) (event : Event) → brings event ≡ 0
    → takes event ≡ 0 → balance start brings takes (events ++ event ∷ []) ≡ balance start brings takes events
balance_before start brings takes events event none_in none_out =
    omega (arith, ints, balance_at_end start brings takes events event)

-- a party's cash: what the event adds is added, and what it takes is taken off
pub cash_of_at_end : CashMoves
cash_of_at_end seats events event party =
    balance_at_end _ (λ e. paid_to party (payment_of e)) (λ e. paid_by party (payment_of e)) events event

-- no payment leaves each party's cash
pub cash_of_before : (seats : ℕ) (events : List Event) (event : Event) (party : Party) → payment_of event ≡ None
    → cash_of seats (events ++ event ∷ []) party ≡ cash_of seats events party
cash_of_before seats events event party none =
    balance_before _ (λ e. paid_to party (payment_of e)) (λ e. paid_by party (payment_of e)) events event
    (ap (paid_to party) none) (ap (paid_by party) none)

-- where an event doesn't speak of any private, each word on one stays
pub owner_word_before : (events : List Event) (event : Event) (private : Private) → ownership_of event ≡ None
    → last_said (λ e. owner_said private (ownership_of e)) (events ++ event ∷ [])
    ≡ last_said (λ e. owner_said private (ownership_of e)) events
owner_word_before events event private none =
    last_said_before (λ e. owner_said private (ownership_of e)) _ events event refl (ap (owner_said private) none)

-- and each owner
pub owner_of_before : (events : List Event) (event : Event) (private : Private) → ownership_of event ≡ None
    → owner_of (events ++ event ∷ []) private ≡ owner_of events private
owner_of_before events event private none = ap option_flatten (owner_word_before events event private none)

-- and each is sold as before
pub is_sold_before : (events : List Event) (event : Event) (private : Private) → ownership_of event ≡ None
    → is_sold (events ++ event ∷ []) private ≡ is_sold events private
is_sold_before events event private none = ap is_some (owner_word_before events event private none)

-- and each is closed as before
pub is_closed_before : (events : List Event) (event : Event) (private : Private) → ownership_of event ≡ None
    → is_closed (events ++ event ∷ []) private ≡ is_closed events private
is_closed_before events event private none =
    ap (λ (word : Option (Option Holder)). is_some word && is_none (option_flatten word))
    (owner_word_before events event private none)

-- SV's price: the one that the event sets, or else the one before
pub sv_price_of_at_end : (events : List Event) (event : Event)
    → sv_price_of (events ++ event ∷ []) ≡ unwrap_or (sv_price_set event) (sv_price_of events)
sv_price_of_at_end events event =
    ap (λ said. unwrap_or said (face_of SchuylkillValley)) (last_said_at_end sv_price_set events event)
    ∙ unwrap_or_earlier (sv_price_set event) (last_said sv_price_set events) (face_of SchuylkillValley)

-- no new price leaves it
pub sv_price_of_before : (events : List Event) (event : Event) → sv_price_set event ≡ None
    → sv_price_of (events ++ event ∷ []) ≡ sv_price_of events
sv_price_of_before events event none =
    sv_price_of_at_end events event ∙ ap (λ price. unwrap_or price (sv_price_of events)) none

-- the first that is unsold, by two tests that agree
pub first_unsold_same : (a b : Private → Bool) → ((private : Private) → a private ≡ b private) → (some : List Private)
    → first_unsold a some ≡ first_unsold b some
first_unsold_same a b same some = ap (λ sold. first_unsold sold some) (fun_ext same)

-- a seat's bid: what the event at the end says, or the bid before
pub bid_of_at_end : (events : List Event) (event : Event) (private : Private) (seat : Seat)
    → bid_of (events ++ event ∷ []) private seat ≡ unwrap_or (bid_said private seat (bidding_of event))
    (bid_of events private seat)
bid_of_at_end events event private seat = now_said_at_end (λ e. bid_said private seat (bidding_of e)) events event

-- where an event doesn't speak of bids, each stands as before
pub bid_of_before : (events : List Event) (event : Event) (private : Private) (seat : Seat) → bidding_of event ≡ None
    → bid_of (events ++ event ∷ []) private seat ≡ bid_of events private seat
bid_of_before events event private seat none =
    now_said_before (λ e. bid_said private seat (bidding_of e)) events event (ap (bid_said private seat) none)

-- and each seat's sum
pub bids_of_before : (events : List Event) (event : Event) (seat : Seat) → bidding_of event ≡ None
    → bids_of (events ++ event ∷ []) seat ≡ bids_of events seat
bids_of_before events event seat none =
    ap (λ tied. sum_by tied privates) (fun_ext (λ private. ap (λ bid. unwrap_or bid 0)
    (bid_of_before events event private seat none)))

-- and the bids on each private
pub bids_on_before : (seats : ℕ) (events : List Event) (event : Event) (private : Private) → bidding_of event ≡ None
    → bids_on seats (events ++ event ∷ []) private ≡ bids_on seats events private
bids_on_before seats events event private none =
    ap (λ bids. flat_map bids (all_seats seats)) (fun_ext
    (λ seat. ap (as_bid seat) (bid_of_before events event private seat none)))

-- where an event moves no shares, they lie as before
pub shares_of_before : (events : List Event) (event : Event) (company : Company) (place : Shareholder)
    → transfer_of event ≡ None → shares_of (events ++ event ∷ []) company place ≡ shares_of events company place
shares_of_before events event company place none =
    balance_before _ (λ e. brought_to company place (transfer_of e)) (λ e. taken_from company place (transfer_of e))
    events event (ap (brought_to company place) none) (ap (taken_from company place) none)

-- the shares at a place: what the event adds is added, and what it takes is taken off
pub shares_of_at_end : (events : List Event) (event : Event) (company : Company) (place : Shareholder)
    → shares_of (events ++ event ∷ []) company place
    ≡ (shares_of events company place +ℤ pos (brought_to company place (transfer_of event))) -ℤ pos
    (taken_from company place (transfer_of event))
shares_of_at_end events event company place =
    balance_at_end _ (λ e. brought_to company place (transfer_of e)) (λ e. taken_from company place (transfer_of e))
    events event

-- where an event sets no par value, each stands as before
pub par_of_before : (events : List Event) (event : Event) (company : Company) → par_set event ≡ None
    → par_of (events ++ event ∷ []) company ≡ par_of events company
par_of_before events event company none =
    last_said_before (λ e. par_said company (par_set e)) _ events event refl (ap (par_said company) none)

-- where an event sets no square, each token stands as before
pub square_of_before : (events : List Event) (event : Event) (company : Company) → square_set event ≡ None
    → square_of (events ++ event ∷ []) company ≡ square_of events company
square_of_before events event company none =
    last_said_before (λ e. square_said company (square_set e)) _ events event refl (ap (square_said company) none)

-- where an event names no president, each stays
pub president_of_before : (events : List Event) (event : Event) (company : Company) → office_of event ≡ None
    → president_of (events ++ event ∷ []) company ≡ president_of events company
president_of_before events event company none =
    last_said_before (λ e. president_said company (office_of e)) _ events event refl (ap (president_said company) none)

-- where no company floats, each has floated as before
pub is_floated_before : (events : List Event) (event : Event) (company : Company) → floated_by event ≡ None
    → is_floated (events ++ event ∷ []) company ≡ is_floated events company
is_floated_before events event company none =
    ap is_some (last_said_before (λ e. float_said company (floated_by e)) _ events event refl
    (ap (float_said company) none))

-- the trains of a kind at a place: one that the event adds is added, and one that it takes is taken
-- off
pub trains_at_end : (events : List Event) (event : Event) (place : TrainPlace) (kind : Kind)
    → trains_at (events ++ event ∷ []) place kind ≡ (trains_at events place kind +ℤ pos
    (one_if (train_comes place kind (train_moved event)))) -ℤ pos (one_if (train_goes place kind (train_moved event)))
trains_at_end events event place kind =
    balance_at_end 0 (λ e. one_if (train_comes place kind (train_moved e)))
    (λ e. one_if (train_goes place kind (train_moved e))) events event

-- where an event moves no train, they lie as before
pub trains_at_before : (events : List Event) (event : Event) (place : TrainPlace) (kind : Kind)
    → train_moved event ≡ None → trains_at (events ++ event ∷ []) place kind ≡ trains_at events place kind
trains_at_before events event place kind none =
    balance_before 0 (λ e. one_if (train_comes place kind (train_moved e)))
    (λ e. one_if (train_goes place kind (train_moved e))) events event
    (ap (λ move. one_if (train_comes place kind move)) none) (ap (λ move. one_if (train_goes place kind move)) none)

-- a quiet event changes nothing of what parties have and own
pub quiet_same : QuietSaysTheSame
quiet_same events event quiet =
    record {
      cash = λ seats party. cash_of_before seats events event party quiet.payment;
      owner = λ private. owner_of_before events event private quiet.ownership;
      sold = λ private. is_sold_before events event private quiet.ownership;
      cheapest = first_unsold_same _ _ (λ private. is_sold_before events event private quiet.ownership) privates;
      bid = λ private seat. bid_of_before events event private seat quiet.bidding;
      bids = λ seat. bids_of_before events event seat quiet.bidding;
      bids_on = λ seats private. bids_on_before seats events event private quiet.bidding;
      shares = λ company place. shares_of_before events event company place quiet.transfer;
      par = λ company. par_of_before events event company quiet.par;
      square = λ company. square_of_before events event company quiet.square;
      president = λ company. president_of_before events event company quiet.office;
      floated = λ company. is_floated_before events event company quiet.float;
      sv_price = sv_price_of_before events event quiet.sv_price;
      trains = λ place kind. trains_at_before events event place kind quiet.train;
    }
