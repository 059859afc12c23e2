-- What becomes of the shares of the companies where an event moves some: they leave one place and
-- go to another, and ten stay ten. Enough are left in each initial offering, if there were. Where
-- they come from the bank, each president has at least as many as before.
use Rattle.std.proofs.Common.{◌≡◌, ◌≢◌, ℕ, zero, suc, ◌+◌, ◌≤◌, ◌<◌, inl, inr, true, if◌then◌else◌, List, [], ◌∷◌}
use Rattle.std.proofs.Common.{◌++◌, Some, map, pos, ◌≤ℤ◌, ◌-ℤ◌, ◌+ℤ◌, refl, ap, arith, Bool, None, subst}
use Rattle.std.proofs.lemmas.Bool.{cases_eq, cases_Bool}
use Rattle.std.proofs.lemmas.Bool.Decides.{Decides-eqb}
use Rattle.std.proofs.lemmas.Int.{ints}
use Rattle.std.specs.List.{range_with_len}
use Rattle.events.specs.Event.{transfer_of, floated_by, office_of, ownership_of, par_set, place_of_source, square_set}
use Rattle.events.specs.declared.event.Event.{Event}
use Rattle.events.specs.declared.event.Shareholder.{Shareholder}
use Rattle.events.specs.declared.event.Shareholder.TheVariants.{InitialOffering, BankPool, Seat as OfSeat}
use Rattle.events.specs.declared.event.Transfer.{Transfer}
use Rattle.totals.proofs.Choices.{chosen, either_order, nothing_there, passed_over}
use Rattle.totals.proofs.EventAtEnd.{shares_of_at_end, par_of_before, president_of_before}
use Rattle.totals.specs.LookBack.{Game, with_event}
use Rattle.totals.specs.Shares.{brought_to, held_by, same_shareholder, shares_of, taken_from, square_of}
use Rattle.history.specs.Sound.{AreTenInAll, SharesAreHeld, AreLed, AreOffered, FloatedAreLed, IsSound, least_offered}
use Rattle.tables.specs.Roster.{same_company}
use Rattle.tables.specs.Seat.{all_seats, seat_at}
use Rattle.tables.specs.declared.roster.Company.{Company}
use Rattle.tables.specs.declared.seat.Seat.{Seat}
use Rattle.history.proofs.Soundness.{IsNearlySound, StayLed, closed_kept, floated_kept, least_after, led_kept}
use Rattle.history.proofs.Soundness.{still_led, unplaced_before}
use Rattle.order_grammar.specs.declared.order.ShareSource.{ShareSource}
use Rattle.order_grammar.specs.declared.order.ShareSource.TheVariants as source
use Rattle.tables.proofs.Companies.{company_is}

-- places that are the same
same_shareholder_is : (a b : Shareholder) → same_shareholder a b ≡ true → a ≡ b
same_shareholder_is InitialOffering InitialOffering same = refl
same_shareholder_is BankPool BankPool same = refl
same_shareholder_is (OfSeat a) (OfSeat b) same = ap (λ number. OfSeat (seat_at number)) ((Decides-eqb a.0 b.0).0 same)
same_shareholder_is a b same = absurd cc

-- what of this many shares, all at one place, lies at a place
abbrev pub part : Shareholder → Shareholder → ℕ → ℕ
part at place shares = if same_shareholder at place then shares else 0

-- and with some seats
abbrev pub parts : Shareholder → ℕ → List Seat → ℕ
parts at shares [] = 0
parts at shares (seat ∷ others) = part at (OfSeat seat) shares + parts at shares others

-- how many shares of a company a transfer moves
abbrev pub moved : Company → Transfer → ℕ
moved company transfer = if same_company transfer.company company then transfer.shares else 0

-- the shares at a place: what it gains is added, and what leaves it is taken off
pub shares_after : (events : List Event) (event : Event) (transfer : Transfer) (company : Company)
    (place : Shareholder) → transfer_of event ≡ Some transfer
    → shares_of (events ++ event ∷ []) company place
    ≡ (shares_of events company place +ℤ pos (part transfer.to place (moved company transfer))) -ℤ pos
    (part transfer.from place (moved company transfer))
shares_after events event transfer company place is =
    let fact = shares_of_at_end events event company place in
    let other_fact = ap (brought_to company place) is in
    let third_fact = ap (taken_from company place) is in
    let fourth_fact = either_order (same_company transfer.company company) (same_shareholder transfer.to place) transfer.shares in
    let fifth_fact = either_order (same_company transfer.company company) (same_shareholder transfer.from place) transfer.shares in
    omega (arith, ints)

-- seats together
held_by_after : (events : List Event) (event : Event) (transfer : Transfer) (company : Company) (seats : List Seat)
    → transfer_of event ≡ Some transfer → held_by (events ++ event ∷ []) company seats
    ≡ (held_by events company seats +ℤ pos (parts transfer.to (moved company transfer) seats)) -ℤ pos
    (parts transfer.from (moved company transfer) seats)
held_by_after events event transfer company [] is = omega (arith, ints)
held_by_after events event transfer company (seat ∷ others) is =
    let fact = shares_after events event transfer company (OfSeat seat) is in
    omega (arith, ints, held_by_after events event transfer company others is)

-- the place is one of a table
abbrev pub IsAtTable : ℕ → Shareholder → Type 0
IsAtTable seats InitialOffering = Unit {0}
IsAtTable seats BankPool = Unit {0}
IsAtTable seats (OfSeat seat) = seat.0 < seats

-- what the initial offering has is with no seat
none_offered : (shares : ℕ) (seats : List Seat) → parts InitialOffering shares seats ≡ 0
none_offered shares [] = refl
none_offered shares (seat ∷ others) = omega (arith, none_offered shares others)

-- nor what the pool has
none_pooled : (shares : ℕ) (seats : List Seat) → parts BankPool shares seats ≡ 0
none_pooled shares [] = refl
none_pooled shares (seat ∷ others) = omega (arith, none_pooled shares others)

-- what a seat has is with no later one
none_later : (seat : Seat) (shares from count : ℕ) → seat.0 < from
    → parts (OfSeat seat) shares (map seat_at (range_with_len from count)) ≡ 0
none_later seat shares from zero before = refl
none_later seat shares from (suc count) before =
    let apart : seat.0 ≢ from = omega arith in
    omega (arith, passed_over seat.0 from shares 0 apart, none_later seat shares (from + 1) count (omega arith))

-- it is with the seats among whom the one is
pub with_seats : (seat : Seat) (shares from count : ℕ) → from ≤ seat.0 → seat.0 < from + count
    → parts (OfSeat seat) shares (map seat_at (range_with_len from count)) ≡ shares
with_seats seat shares from zero low high = absurd (omega arith)
with_seats seat shares from (suc count) low high =
    elim (cases_eq seat.0 from) [
      | inl same ↦
          let fact = chosen seat.0 from shares 0 same in
          omega (arith, none_later seat shares (from + 1) count (omega arith))
      | inr apart ↦
          let fact = passed_over seat.0 from shares 0 apart in
          omega (arith, with_seats seat shares (from + 1) count (omega arith) (omega arith))
    ]

-- shares at one place of a table are somewhere
all_there : (seats : ℕ) (at : Shareholder) (shares : ℕ) → IsAtTable seats at
    → (part at InitialOffering shares + part at BankPool shares) + parts at shares (all_seats seats) ≡ shares
all_there seats InitialOffering shares there = omega (arith, none_offered shares (all_seats seats))
all_there seats BankPool shares there = omega (arith, none_pooled shares (all_seats seats))
all_there seats (OfSeat seat) shares there = omega (arith, with_seats seat shares 0 seats (omega arith) (omega arith))

-- ten shares stay ten
pub ten_after : (game : Game) (event : Event) (transfer : Transfer) → transfer_of event ≡ Some transfer
    → IsAtTable game.seats transfer.from → IsAtTable game.seats transfer.to → AreTenInAll game
    → AreTenInAll (with_event game event)
ten_after game event transfer is from to ten company =
    let fact = ten company in
    let other_fact = shares_after game.events event transfer company InitialOffering is in
    let third_fact = shares_after game.events event transfer company BankPool is in
    let fourth_fact = held_by_after game.events event transfer company (all_seats game.seats) is in
    let fifth_fact = all_there game.seats transfer.from (moved company transfer) from in
    omega (arith, ints, all_there game.seats transfer.to (moved company transfer) to)

-- no more leave a place than it has
taken_low : (events : List Event) (transfer : Transfer) (company : Company) (place : Shareholder)
    → pos transfer.shares ≤ℤ shares_of events transfer.company transfer.from → pos 0 ≤ℤ shares_of events company place
    → pos (part transfer.from place (moved company transfer)) ≤ℤ shares_of events company place
taken_low events transfer company place enough held =
    elim (cases_Bool (same_company transfer.company company)) [
      | inl same ↦
          elim (cases_Bool (same_shareholder transfer.from place)) [
            | inl here ↦ rw (same, here) (rw (
              ← (company_is transfer.company company same),
              ← (same_shareholder_is transfer.from place here),
            ) enough)
            | inr elsewhere ↦ rw (same, elsewhere) held
          ]
      | inr apart ↦ rw (apart, nothing_there (same_shareholder transfer.from place)) held
    ]

-- shares are held as before, where there were this many
pub held_after : (events : List Event) (event : Event) (transfer : Transfer) → transfer_of event ≡ Some transfer
    → pos transfer.shares ≤ℤ shares_of events transfer.company transfer.from → SharesAreHeld events
    → SharesAreHeld (events ++ event ∷ [])
held_after events event transfer is enough held company place =
    let fact = shares_after events event transfer company place is in
    omega (arith, ints, taken_low events transfer company place enough (held company place))

-- the place is with the bank
abbrev pub IsOfBank : Shareholder → Type 0
IsOfBank InitialOffering = Unit {0}
IsOfBank BankPool = Unit {0}
IsOfBank (OfSeat seat) = ⊥

-- a purchase is from there
pub source_of_bank : (from : ShareSource) → IsOfBank (place_of_source from)
source_of_bank source.InitialOffering = tt
source_of_bank source.BankPool = tt

-- what the bank has no seat has
none_with_seat : (from : Shareholder) (seat : Seat) (shares : ℕ) → IsOfBank from → part from (OfSeat seat) shares ≡ 0
none_with_seat InitialOffering seat shares bank = refl
none_with_seat BankPool seat shares bank = refl
none_with_seat (OfSeat other) seat shares bank = absurd bank

-- the bank is at each table
pub bank_at_table : (seats : ℕ) (from : Shareholder) → IsOfBank from → IsAtTable seats from
bank_at_table seats InitialOffering bank = tt
bank_at_table seats BankPool bank = tt
bank_at_table seats (OfSeat seat) bank = absurd bank

-- of a company without a square enough are left
abbrev pub EnoughAreLeft : List Event → Transfer → Type 0
EnoughAreLeft events transfer =
    (company : Company) → square_of events company ≡ None
    → pos (least_offered events company + part transfer.from InitialOffering (moved company transfer)) ≤ℤ
    shares_of events company InitialOffering

-- so it is where enough are left of the one whose shares move
pub left_after : (events : List Event) (transfer : Transfer)
    → (square_of events transfer.company ≡ None → pos (least_offered events transfer.company + part transfer.from
    InitialOffering transfer.shares) ≤ℤ shares_of events transfer.company InitialOffering) → AreOffered events
    → EnoughAreLeft events transfer
left_after events transfer many offered company unplaced =
    elim (cases_Bool (same_company transfer.company company)) [
      | inl same ↦
          let its : moved company transfer ≡ transfer.shares =
          ap (λ (is : Bool). if is then transfer.shares else 0) same in
          rw its (subst (λ (one : Company). square_of events one ≡ None
          → pos (least_offered events one + part transfer.from InitialOffering transfer.shares) ≤ℤ shares_of events
          one InitialOffering) (company_is transfer.company company same) many unplaced)
      | inr apart ↦
          let its : moved company transfer ≡ 0 = ap (λ (is : Bool). if is then transfer.shares else 0) apart in
          let none : part transfer.from InitialOffering 0 ≡ 0 =
          nothing_there (same_shareholder transfer.from InitialOffering) in
          let enough = offered company unplaced in
          rw (its, none) (omega (arith, ints))
    ]

module _ (game : Game) (event : Event) (transfer : Transfer) (moves : transfer_of event ≡ Some transfer) where
  -- so as many are offered
  offered_moved : ownership_of event ≡ None → EnoughAreLeft game.events transfer
      → AreOffered (with_event game event).events
  offered_moved no_owner enough company unplaced =
      let left = enough company (unplaced_before game event company unplaced) in
      let fact = shares_after game.events event transfer company InitialOffering moves in
      omega (arith, ints, least_after game event (closed_kept game event no_owner) company)

  -- what an event has to show that moves shares at the table, as many as there are
  pub move_shows : ownership_of event ≡ None → IsAtTable game.seats transfer.from → IsAtTable game.seats transfer.to
      → pos transfer.shares ≤ℤ shares_of game.events transfer.company transfer.from
      → EnoughAreLeft game.events transfer → IsNearlySound game
      → SharesAreHeld (with_event game event).events × (AreTenInAll (with_event game event)
      × (AreOffered (with_event game event).events × Unit {0}))
  move_shows no_owner from to many enough before = (
    held_after game.events event transfer moves many before.held,
    (ten_after game event transfer moves from to before.ten, (offered_moved no_owner enough, tt)),
  )

  -- a company is led as before where they come from the bank
  pub stay_led_gaining : IsOfBank transfer.from → par_set event ≡ None → office_of event ≡ None
      → StayLed game.events (with_event game event).events
  stay_led_gaining bank no_par no_office company =
      still_led game.events (with_event game event).events company (par_of_before game.events event company no_par)
      (president_of_before game.events event company no_office) (λ seat _ two.
      let fact = shares_after game.events event transfer company (OfSeat seat) moves in
      omega (arith, ints, none_with_seat transfer.from seat (moved company transfer) bank))

  -- so are all
  pub gain_leads : IsOfBank transfer.from → par_set event ≡ None → office_of event ≡ None → square_set event ≡ None
      → floated_by event ≡ None → IsSound game
      → AreLed (with_event game event).events × (FloatedAreLed (with_event game event).events × Unit {0})
  gain_leads bank no_par no_office no_square no_float sound =
      let stay = stay_led_gaining bank no_par no_office in
      (led_kept game event stay no_square sound.led, (floated_kept game event stay no_float sound.floated, tt))
