-- What a company pays out is at most the revenue: a share of it is paid at most ten times.
use Rattle.std.proofs.Common.{◌≡◌, ℕ, ◌+◌, ◌*◌, ◌≤◌, ◌==◌, Bool, true, false, if◌then◌else◌, List, [], ◌∷◌, ℤ, pos}
use Rattle.std.proofs.Common.{◌-ℤ◌, refl, sym, ap, ◌∙◌, arith}
use Rattle.std.proofs.Math.Nat.{add-mul, mul-div-le, mul-le-mul_right}
use Rattle.std.proofs.lemmas.Bool.{eqb-true}
use Rattle.std.proofs.lemmas.Int.{ints}
use Rattle.events.specs.declared.event.Event.{Event}
use Rattle.events.specs.declared.event.Event.TheVariants as event
use Rattle.events.specs.declared.event.Holder.{Holder}
use Rattle.events.specs.declared.event.Holder.TheVariants as holder
use Rattle.events.specs.declared.event.Party.TheVariants as party
use Rattle.events.specs.declared.event.Shareholder.{Shareholder}
use Rattle.events.specs.declared.event.Shareholder.TheVariants.{InitialOffering, BankPool, Seat as OfSeat}
use Rattle.totals.proofs.EventAtEnd.{cash_of_at_end, shares_of_before}
use Rattle.history.proofs.NearlySound.{recorded_same}
use Rattle.totals.specs.LookBack.{Game, cash_of, with_event}
use Rattle.totals.specs.Shares.{held_by, shares_of}
use Rattle.history.specs.Sound.{SharesAreHeld}
use Rattle.history.specs.Record.{broken_recorded}
use Rattle.totals.specs.Trains.{at_least_zero}
use Rattle.totals.proofs.Choices.{at_least_zero_is}
use Rattle.certs.specs.Dividend.{NoMoreIsPaid, all_paid, dividend_of, dividend_paid_to, paid_for, paid_to_seats}
use Rattle.certs.specs.Dividend.{per_share}
use Rattle.tables.specs.Seat.{all_seats}
use Rattle.tables.specs.declared.roster.Company.{Company}
use Rattle.tables.specs.declared.seat.Seat.{Seat}

module _ (company : Company) where
  -- the bank has this much less after a dividend
  paid_cash : (table : ℕ) (game : Game) (to : Holder) (amount : ℕ)
      → cash_of table (dividend_paid_to company to amount game).events party.Bank
      ≡ cash_of table game.events party.Bank -ℤ pos amount
  paid_cash table game to amount =
      let paid = with_event game (event.Dividend company to amount) in
      elim (amount == 0) as (λ (none : Bool). (amount == 0) ≡ none
      → cash_of table (if none then game else broken_recorded paid).events party.Bank
      ≡ cash_of table game.events party.Bank -ℤ pos amount) [
        | true ↦ λ none. let zero : amount ≡ 0 = eqb-true amount 0 none in omega (arith, ints)
        | false ↦ λ some. omega (
          arith,
          ints,
          (recorded_same paid).cash table party.Bank,
          cash_of_at_end table game.events
              (event.Dividend company to amount) party.Bank,
        )
      ]
      refl

  -- and shares lie as before
  paid_shares : (game : Game) (to : Holder) (amount : ℕ) (place : Shareholder)
      → shares_of (dividend_paid_to company to amount game).events company place ≡ shares_of game.events company place
  paid_shares game to amount place =
      let paid = with_event game (event.Dividend company to amount) in
      elim (amount == 0) as (λ (none : Bool). shares_of (if none then game else broken_recorded paid).events company
      place ≡ shares_of game.events company place) [
        | true ↦ refl
        | false ↦ (recorded_same paid).shares company place
            ∙ shares_of_before game.events (event.Dividend company to amount) company place refl
      ]

  -- how many shares some seats hold
  abbrev count : List Event → List Seat → ℕ
  count events [] = 0
  count events (seat ∷ others) = at_least_zero (shares_of events company (OfSeat seat)) + count events others

  -- they are those that the seats hold together
  count_is : (events : List Event) (seats : List Seat) → SharesAreHeld events
      → pos (count events seats) ≡ held_by events company seats
  count_is events [] held = refl
  count_is events (seat ∷ others) held =
      omega (
        arith,
        ints,
        at_least_zero_is (shares_of events company (OfSeat seat)) (held company (OfSeat seat)),
        count_is
            events others held,
      )

  module _ (revenue : ℕ) where
    -- what some seats are paid
    abbrev sum : List Event → List Seat → ℕ
    sum events [] = 0
    sum events (seat ∷ others) = dividend_of events company (OfSeat seat) revenue + sum events others

    -- as many times a share as they hold shares
    sum_is : (events : List Event) (seats : List Seat) → sum events seats ≡ count events seats * per_share revenue
    sum_is events [] = omega arith
    sum_is events (seat ∷ others) =
        ap (λ (rest : ℕ). dividend_of events company (OfSeat seat) revenue + rest) (sum_is events others)
        ∙ sym (add-mul (at_least_zero (shares_of events company (OfSeat seat))) (count events others) (per_share revenue))

    -- the same where shares lie as before
    sum_same : (before after : List Event) → ((place : Shareholder)
        → shares_of after company place ≡ shares_of before company place) → (seats : List Seat)
        → sum after seats ≡ sum before seats
    sum_same before after same [] = refl
    sum_same before after same (seat ∷ others) =
        ap (λ (shares : ℤ). at_least_zero shares * per_share revenue + sum after others) (same (OfSeat seat))
        ∙ ap (λ (rest : ℕ). dividend_of before company (OfSeat seat) revenue + rest) (sum_same before after same others)

    -- shares lie as before once seats are paid
    seats_shares : (game : Game) (seats : List Seat) (place : Shareholder)
        → shares_of (paid_to_seats company revenue game seats).events company place
        ≡ shares_of game.events company place
    seats_shares game [] place = refl
    seats_shares game (seat ∷ others) place =
        seats_shares (paid_for company (holder.Seat seat) (OfSeat seat) revenue game) others place
        ∙ paid_shares game (holder.Seat seat) (dividend_of game.events company (OfSeat seat) revenue) place

    -- and the bank has this much less
    seats_cash : (table : ℕ) (game : Game) (seats : List Seat)
        → cash_of table (paid_to_seats company revenue game seats).events party.Bank
        ≡ cash_of table game.events party.Bank -ℤ pos (sum game.events seats)
    seats_cash table game [] = omega (arith, ints)
    seats_cash table game (seat ∷ others) =
        let amount = dividend_of game.events company (OfSeat seat) revenue in
        let next = dividend_paid_to company (holder.Seat seat) amount game in
        omega (
          arith,
          ints,
          seats_cash table next others,
          paid_cash table game (holder.Seat seat) amount,
          sum_same
              game.events next.events (paid_shares game (holder.Seat seat) amount) others,
        )

    -- what all are paid is that of the seats and of the pool
    all_cash : (table : ℕ) (game : Game) → cash_of table (all_paid company revenue game).events party.Bank
        ≡ cash_of table game.events party.Bank -ℤ pos (sum game.events (all_seats game.seats)
        + dividend_of game.events company BankPool revenue)
    all_cash table game =
        let seats = paid_to_seats company revenue game (all_seats game.seats) in
        let amount = dividend_of seats.events company BankPool revenue in
        let same : amount ≡ dividend_of game.events company BankPool revenue =
        ap (λ (shares : ℤ). at_least_zero shares * per_share revenue)
        (seats_shares game (all_seats game.seats) BankPool) in
        omega (
          arith,
          ints,
          paid_cash table seats (holder.Company company) amount,
          seats_cash table game
              (all_seats game.seats),
          same,
        )

    -- ten shares of a revenue are at most the revenue
    ten_most : (seats pool : ℕ) → seats + pool ≤ 10 → seats * per_share revenue + pool * per_share revenue ≤ revenue
    ten_most seats pool few =
        omega (
          arith,
          add-mul seats pool (per_share revenue),
          mul-le-mul_right (per_share revenue) few,
          mul-div-le
              revenue 10,
        )

-- so the bank pays no more
pub no_more_is_paid : NoMoreIsPaid
no_more_is_paid game company revenue sound =
    let seats = all_seats game.seats in
    let ten = sound.ten company in
    let offered = sound.held company InitialOffering in
    let pool = at_least_zero_is (shares_of game.events company BankPool) (sound.held company BankPool) in
    let few : count company game.events seats + at_least_zero (shares_of game.events company BankPool) ≤ 10 =
    omega (arith, ints, count_is company game.events seats sound.held) in
    omega (
      arith,
      ints,
      all_cash company revenue game.seats game,
      sum_is company revenue game.events seats,
      ten_most
          company revenue (count company game.events seats) (at_least_zero (shares_of game.events company BankPool)) few,
    )
