-- Who holds shares in a sound list sits at the table. Ten shares of each company are at any table
-- that is large enough for all events, and ten at the table of the game, so none are elsewhere.
use Rattle.std.proofs.Common.{◌≡◌, ℕ, zero, suc, ◌+◌, ◌-◌, ◌<◌, ◌≤◌, Bool, true, false, nat_lt, List, [], ◌∷◌, ◌++◌}
use Rattle.std.proofs.Common.{Option, Some, None, ℤ, pos, ◌≤ℤ◌, ◌+ℤ◌, refl, sym, ap, subst, ◌∙◌, arith}
use Rattle.std.proofs.lemmas.Bool.{ltb-true, ltb-false}
use Rattle.std.proofs.lemmas.Int.{ints}
use Rattle.std.proofs.lemmas.List.{append-nil, append_assoc}
use Rattle.std.proofs.lemmas.List.FromFn.{map-range_with_len_more}
use Rattle.events.specs.Event.{transfer_of}
use Rattle.events.specs.declared.event.Event.{Event}
use Rattle.events.specs.declared.event.Shareholder.{Shareholder}
use Rattle.events.specs.declared.event.Shareholder.TheVariants.{InitialOffering, BankPool, Seat as OfSeat}
use Rattle.events.specs.declared.event.Transfer.{Transfer}
use Rattle.history.proofs.Soundness.{holds_none, ten_kept}
use Rattle.history.proofs.ShareCount.{IsAtTable, ten_after}
use Rattle.totals.specs.LookBack.{Game}
use Rattle.totals.specs.Shares.{held_by, is_floated, president_of, shares_of, shares_in_all}
use Rattle.history.specs.Sound.{AreTenInAll, IsLed, IsSound}
use Rattle.tables.specs.Seat.{all_seats, seat_at}
use Rattle.tables.specs.declared.roster.Company.{Company}
use Rattle.tables.specs.declared.seat.Seat.{Seat}

-- how large a table has to be for a place, and for all places of some events
abbrev above : Shareholder → ℕ
above InitialOffering = 0
above BankPool = 0
above (OfSeat seat) = seat.0 + 1

abbrev above_in : Option Transfer → ℕ
above_in None = 0
above_in (Some transfer) = above transfer.from + above transfer.to

abbrev bound_of : List Event → ℕ
bound_of [] = 0
bound_of (event ∷ events) = above_in (transfer_of event) + bound_of events

at_table : (seats : ℕ) (place : Shareholder) → above place ≤ seats → IsAtTable seats place
at_table seats InitialOffering low = tt
at_table seats BankPool low = tt
at_table seats (OfSeat seat) low = omega arith

-- a game at such a table
abbrev table : ℕ → List Event → Game
table seats events = record { seats = seats; events = events }

one_more : (seats : ℕ) (events : List Event) (event : Event) → above_in (transfer_of event) ≤ seats
    → AreTenInAll (table seats events) → AreTenInAll (table seats (events ++ event ∷ []))
one_more seats events event low ten = by_transfer (transfer_of event) refl low
  where
    by_transfer : (found : Option Transfer) → transfer_of event ≡ found → above_in found ≤ seats
        → AreTenInAll (table seats (events ++ event ∷ []))
    by_transfer None is low = ten_kept (table seats events) event is ten
    by_transfer (Some transfer) is low =
        ten_after (table seats events) event transfer is (at_table seats transfer.from (omega arith))
        (at_table seats transfer.to (omega arith)) ten

ten_along : (seats : ℕ) (rest before : List Event) → bound_of rest ≤ seats → AreTenInAll (table seats before)
    → AreTenInAll (table seats (before ++ rest))
ten_along seats [] before low ten = subst (λ (events : List Event). AreTenInAll (table seats events))
    (sym (append-nil before)) ten
ten_along seats (event ∷ rest) before low ten =
    subst (λ (events : List Event). AreTenInAll (table seats events)) (append_assoc before (event ∷ []) rest)
    (ten_along seats rest (before ++ event ∷ []) (omega arith) (one_more seats before event (omega arith) ten))

ten_first : (seats : ℕ) → AreTenInAll (table seats [])
ten_first seats company = omega (arith, ints, holds_none company (all_seats seats))

module _ (events : List Event) (company : Company)
    (held : (place : Shareholder) → pos 0 ≤ℤ shares_of events company place) where
  abbrev together : ℕ → ℤ
  together seats = held_by events company (all_seats seats)

  held_end : (seats : List Seat) (seat : Seat) → held_by events company (seats ++ seat ∷ [])
      ≡ held_by events company seats +ℤ shares_of events company (OfSeat seat)
  held_end [] seat = omega (arith, ints)
  held_end (other ∷ others) seat = omega (arith, ints, held_end others seat)

  one_seat_more : (seats : ℕ) → together (seats + 1)
      ≡ together seats +ℤ shares_of events company (OfSeat (seat_at seats))
  one_seat_more seats =
      ap (held_by events company) (map-range_with_len_more seat_at 0 seats seats (omega arith))
      ∙ held_end (all_seats seats) (seat_at seats)

  grown : (seats more : ℕ) → together seats ≤ℤ together (seats + more)
  grown seats zero =
      let same : seats + 0 ≡ seats = omega arith in
      subst (λ (n : ℕ). together seats ≤ℤ together n) (sym same) (omega (arith, ints))
  grown seats (suc more) =
      let next : seats + suc more ≡ (seats + more) + 1 = omega arith in
      subst (λ (n : ℕ). together seats ≤ℤ together n) (sym next)
      (omega (arith, ints, grown seats more, one_seat_more (seats + more), held (OfSeat (seat_at (seats + more)))))

-- who holds a share is at the table
pub holder_seated : (game : Game) (company : Company) (seat : Seat) → IsSound game
    → pos 1 ≤ℤ shares_of game.events company (OfSeat seat) → seat.0 < game.seats
holder_seated game company seat sound holds = by_test (nat_lt seat.0 game.seats) refl
  where
    outside : game.seats ≤ seat.0 → ⊥
    outside out =
        let events : List Event = game.events in
        let n : ℕ = (seat.0 + 1) + bound_of events in
        let held : (place : Shareholder) → pos 0 ≤ℤ shares_of events company place = sound.held company in
        let all : shares_in_all n events company ≡ pos 10 = ten_along n events [] (omega arith) (ten_first n) company in
        let here : shares_in_all game.seats events company ≡ pos 10 = sound.ten company in
        let up_to : game.seats + (seat.0 - game.seats) ≡ seat.0 = omega arith in
        let first : held_by events company (all_seats game.seats) ≤ℤ held_by events company (all_seats seat.0) =
        subst (λ (m : ℕ). held_by events company (all_seats game.seats) ≤ℤ held_by events company (all_seats m))
        up_to (grown events company held game.seats (seat.0 - game.seats)) in
        let his : held_by events company (all_seats (seat.0 + 1))
        ≡ held_by events company (all_seats seat.0) +ℤ shares_of events company (OfSeat seat) =
        one_seat_more events company held seat.0 in
        let last : held_by events company (all_seats (seat.0 + 1)) ≤ℤ held_by events company (all_seats n) =
        grown events company held (seat.0 + 1) (bound_of events) in
        let wrong : 1 ≤ 0 = omega (arith, ints, all, here, first, his, last, holds) in
        omega (arith, wrong)

    by_test : (b : Bool) → nat_lt seat.0 game.seats ≡ b → seat.0 < game.seats
    by_test true is = ltb-true seat.0 game.seats is
    by_test false is = absurd (outside (ltb-false seat.0 game.seats is))

-- so is the president of a company that has floated
pub president_seated : (game : Game) (company : Company) (seat : Seat) → IsSound game
    → is_floated game.events company ≡ true → president_of game.events company ≡ Some seat → seat.0 < game.seats
president_seated game company seat sound floated presides =
    let led : IsLed game.events company = sound.floated company floated in
    let both : Some led.president ≡ Some seat = sym led.has_president ∙ presides in
    let same : led.president ≡ seat = cc in
    let two : pos 2 ≤ℤ shares_of game.events company (OfSeat led.president) = led.holds_two in
    let his : pos 2 ≤ℤ shares_of game.events company (OfSeat seat) =
    subst (λ (s : Seat). pos 2 ≤ℤ shares_of game.events company (OfSeat s)) same two in
    holder_seated game company seat sound (omega (arith, ints, his))
