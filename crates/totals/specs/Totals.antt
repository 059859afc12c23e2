-- The totals of a list of events: what its readers return, kept while the events come. Tables are
-- by the places of the privates and the companies in the roster, and by the numbers of the six
-- seats that a table has.
use Rattle.std.specs.Prelude.{◌≡◌, ℕ, ◌<◌, ◌≤◌, ◌+◌, ◌*◌, ◌^◌, ℤ, pos, neg_ℤ, ◌≤ℤ◌, [], List, length, Bool, true, false}
use Rattle.std.specs.Prelude.{◌||◌, Option, Some, None, is_some, if◌then◌else◌, slice_index_or}
use Rattle.events.specs.Event.{actor_of, floated_by, ownership_of, payment_of, phase_set, round_begun_by, square_set}
use Rattle.events.specs.Event.{train_owner_place, sv_price_set, train_moved, transfer_of}
use Rattle.events.specs.declared.event.Event.{Event}
use Rattle.events.specs.declared.event.Event.TheVariants.{Left, Passes, Ruled}
use Rattle.events.specs.declared.event.Holder.{Holder}
use Rattle.events.specs.declared.event.Holder.TheVariants as holder
use Rattle.events.specs.declared.event.Party.{Party}
use Rattle.events.specs.declared.event.Party.TheVariants as party
use Rattle.events.specs.declared.event.Shareholder.{Shareholder}
use Rattle.events.specs.declared.event.Shareholder.TheVariants.{InitialOffering, BankPool, Seat as OfSeat}
use Rattle.events.specs.declared.event.TrainPlace.{TrainPlace}
use Rattle.events.specs.declared.event.TrainPlace.TheVariants as train_place
use Rattle.totals.specs.Bids.{bid_of, greatest_bid_of}
use Rattle.totals.specs.LookBack.{balance, bankrupt_in, broken_in, last_place_from, last_said, owner_said, paid_by}
use Rattle.totals.specs.LookBack.{paid_to}
use Rattle.totals.specs.Operating.{has_operated, rulings_in_round, tokens_placed}
use Rattle.totals.specs.Orders.{bid_limit_of, par_ordered_of}
use Rattle.totals.specs.Shares.{brought_to, float_said, has_sold_in_round, par_of, president_of, square_of, square_said}
use Rattle.totals.specs.Shares.{taken_from}
use Rattle.totals.specs.Trains.{any_comes, any_goes, one_if, train_comes, train_goes}
use Rattle.totals.specs.declared.totals.Totals.{Totals}
use Rattle.totals.specs.declared.owners.Owners.{Owners}
use Rattle.tables.specs.Roster.{index_of_company, index_of_private}
use Rattle.tables.specs.Seat.{seat_at}
use Rattle.tables.specs.Train.{index_of_kind}
use Rattle.tables.specs.declared.rolling_stock.Kind.{Kind}
use Rattle.tables.specs.declared.roster.Company.{Company}
use Rattle.tables.specs.declared.roster.Private.{Private}
use Rattle.tables.specs.declared.seat.Seat.{Seat}

-- what the totals have as the last word on a private's owner
abbrev pub word_in : Owners → Private → Option (Option Holder)
word_in owners private = slice_index_or owners.said (index_of_private private) None

-- what the list says last of a private's owner
abbrev pub word_on : List Event → Private → Option (Option Holder)
word_on events private = last_said (λ event. owner_said private (ownership_of event)) events

-- what the list says last of a company's float
abbrev pub float_on : List Event → Company → Option Company
float_on events company = last_said (λ event. float_said company (floated_by event)) events

-- what a table has for a company
abbrev pub at_company : {A : Type 0} → List (Option A) → Company → Option A
at_company table company = slice_index_or table (index_of_company company) None

-- what a table has as a seat's standing bid on a private, or as its limit for one
abbrev pub bid_in : List (List (Option ℕ)) → Private → ℕ → Option ℕ
bid_in bids private number = slice_index_or (slice_index_or bids (index_of_private private) []) number None

-- what a table has for a private
abbrev pub at_private : {A : Type 0} → List (Option A) → Private → Option A
at_private table private = slice_index_or table (index_of_private private) None

-- this place, if an event speaks
abbrev pub here_if : {A : Type 0} → Option A → ℕ → Option ℕ
here_if said place = if is_some said then Some place else None

-- where the list sets the square of a company last
abbrev pub arrival_on : List Event → Company → Option ℕ
arrival_on events company = last_place_from (λ event. square_said company (square_set event)) 0 events

-- the entry of a party in a table of cash
abbrev pub party_entry : Party → ℕ
party_entry party.Bank = 0
party_entry (party.Holder (holder.Company company)) = 1 + index_of_company company
party_entry (party.Holder (holder.Seat seat)) = 9 + seat.0

-- the party has an entry: a seat is one of six
abbrev pub HasEntry : Party → Type 0
HasEntry party = party_entry party < 15

-- the row of a place in a table of shares
abbrev pub shares_row : Shareholder → ℕ
shares_row InitialOffering = 0
shares_row BankPool = 1
shares_row (OfSeat seat) = 2 + seat.0

-- the entry of the shares of a company at a place
abbrev pub shares_entry : Company → Shareholder → ℕ
shares_entry company place = 8 * shares_row place + index_of_company company

-- the place has entries: a seat is one of six
abbrev pub HasShares : Shareholder → Type 0
HasShares place = shares_row place < 8

-- the row of a place in a table of trains
abbrev pub train_row : TrainPlace → ℕ
train_row train_place.Bank = 0
train_row train_place.BankPool = 1
train_row (train_place.Company company) = 2 + index_of_company company
train_row train_place.OutOfPlay = 10

-- the entry of the trains of a kind at a place
abbrev pub train_entry : TrainPlace → Kind → ℕ
train_entry place kind = 8 * train_row place + index_of_kind kind

-- an entry of a table of counts
abbrev pub count_at : List ℕ → ℕ → ℕ
count_at counts entry = slice_index_or counts entry 0

-- what a table has of a company's turn
abbrev pub flag_of : List Bool → Company → Bool
flag_of flags company = slice_index_or flags (index_of_company company) false

-- what a table has of a seat's sale of shares of a company
abbrev pub sale_in : List (List Bool) → Company → Seat → Bool
sale_in sales company seat = slice_index_or (slice_index_or sales (index_of_company company) []) seat.0 false

-- the event says no more than what became of a line, that a seat passes, or how many lines are left
abbrev pub says_little : Event → Bool
says_little (Ruled seat line ruling) = true
says_little (Passes seat) = true
says_little (Left seat lines) = true
says_little other = false

-- a flag after an event: one that begins a round takes it down, and one that speaks puts it up
abbrev pub flag_then : Event → Bool → Bool → Bool
flag_then event speaks flag = if is_some (round_begun_by event) then false else (flag || speaks)

-- an entry of a table of balances
abbrev pub balance_at : List ℤ → ℕ → ℤ
balance_at balances entry = slice_index_or balances entry (pos 0)

-- a change by a sum of money keeps it in reach of a number
pub record IsSafe (total : ℤ) : Type 0 where
  pub not_under : neg_ℤ (pos (2 ^ 110)) ≤ℤ total
  pub not_over : total ≤ℤ pos (2 ^ 110)

-- what came to a party minus what went from it, as a table has it
abbrev pub cash_balance : List ℤ → Party → ℤ
cash_balance balances party = balance_at balances (party_entry party)

-- how many shares of a company came to a place minus how many went from it, as a table has it
abbrev pub shares_balance : List ℤ → Company → Shareholder → ℤ
shares_balance balances company place = balance_at balances (shares_entry company place)

-- how many trains of a kind came to a place minus how many went from it, as a table has it
abbrev pub train_balance : List ℤ → TrainPlace → Kind → ℤ
train_balance balances place kind = balance_at balances (train_entry place kind)

-- how many trains a company has, or the bank pool if there is no owner, as a table has it
abbrev pub train_count_balance : List ℤ → Option Company → ℤ
train_count_balance balances owner = balance_at balances (train_row (train_owner_place owner))

-- a number is a count of events
pub record IsCounted (count : ℕ) (events : List Event) (kept : ℕ) : Type 0 where
  pub is : kept ≡ count
  pub few : kept ≤ length events

-- a balance is what came in minus what went out, and no further from 0 than the events can move it
pub record IsBalance (brings takes : Event → ℕ) (events : List Event) (total : ℤ) : Type 0 where
  pub is : total ≡ balance 0 brings takes events
  pub not_under : neg_ℤ (pos (2 ^ 32 * length events)) ≤ℤ total
  pub not_over : total ≤ℤ pos (2 ^ 32 * length events)

-- the totals have what the list says
pub record AreTotalsOf (totals : Totals) (events : List Event) : Type 0 where
  pub event_count : totals.event_count ≡ length events
  pub owners : (private : Private) → word_in totals.owners private ≡ word_on events private
  pub bids : (private : Private) (number : ℕ) → number < 6
      → bid_in totals.bids private number ≡ bid_of events private (seat_at number)
  pub greatest_bids : (private : Private) → at_private totals.greatest_bids private ≡ greatest_bid_of events private
  pub sv_price : totals.sv_price ≡ last_said sv_price_set events
  pub actor : totals.actor ≡ last_said actor_of events
  pub round : totals.round ≡ last_said round_begun_by events
  pub phase : totals.phase ≡ last_said phase_set events
  pub broken : totals.broken ≡ broken_in events
  pub bankrupt : totals.bankrupt ≡ bankrupt_in events
  pub pars : (company : Company) → at_company totals.pars company ≡ par_of events company
  pub squares : (company : Company) → at_company totals.squares company ≡ square_of events company
  pub presidents : (company : Company) → at_company totals.presidents company ≡ president_of events company
  pub arrivals : (company : Company) → at_company totals.arrivals company ≡ arrival_on events company
  pub floats : (company : Company) → at_company totals.floats company ≡ float_on events company
  pub cash : (party : Party) → HasEntry party → IsBalance (λ e. paid_to party (payment_of e))
      (λ e. paid_by party (payment_of e)) events (cash_balance totals.cash party)
  pub shares :
      (company : Company) (place : Shareholder) → HasShares place →
      IsBalance (λ e. brought_to company place (transfer_of e)) (λ e. taken_from company place (transfer_of e)) events
      (shares_balance totals.shares company place)
  pub trains :
      (place : TrainPlace) (kind : Kind) →
      IsBalance (λ e. one_if (train_comes place kind (train_moved e)))
      (λ e. one_if (train_goes place kind (train_moved e))) events
      (train_balance totals.trains place kind)
  pub train_owners :
      (owner : Option Company) →
      IsBalance (λ e. one_if (any_comes owner (train_moved e))) (λ e. one_if (any_goes owner (train_moved e))) events
      (train_count_balance totals.train_owners owner)
  pub tokens : (company : Company) → IsCounted (tokens_placed events company) events
      (count_at totals.tokens (index_of_company company))
  pub operated : (company : Company) → flag_of totals.operated company ≡ has_operated events company
  pub sales : (company : Company) (seat : Seat) → seat.0 < 6
      → sale_in totals.sales company seat ≡ has_sold_in_round events company seat
  pub rulings : (seat : Seat) → seat.0 < 6 → IsCounted (rulings_in_round events seat) events
      (count_at totals.rulings seat.0)
  pub limits : (private : Private) (seat : Seat) → seat.0 < 6
      → bid_in totals.limits private seat.0 ≡ bid_limit_of events private seat
  pub par_orders : (seat : Seat) → seat.0 < 6 → slice_index_or totals.par_orders seat.0 None
      ≡ par_ordered_of events seat
