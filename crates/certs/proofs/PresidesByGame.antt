-- Who presides by the holdings of a game presides by its events.
use Rattle.std.proofs.Common.{◌≡◌, ℕ, zero, suc, ◌<◌, ◌≤◌, Bool, true, false, if◌then◌else◌, List, [], ◌∷◌, Option}
use Rattle.std.proofs.Common.{Some, None, option_map, ℤ, refl, ap, ◌∙◌, arith}
use Rattle.std.proofs.lemmas.Bool.Decides.{nat_tests}
use lib.Signed.{lt_z}
use Rattle.certs.specs.Holdings.{AreHoldingsOf, president_in}
use Rattle.certs.specs.President.{PresidentIsSeated, better_of, others_from, presiding_in, presiding_of, seat_shares}
use Rattle.certs.specs.President.{seat_shares_of, successor, with_most}
use Rattle.certs.specs.declared.holdings.Holdings.{Holdings}
use Rattle.events.specs.declared.event.Shareholder.TheVariants.{Seat as OfSeat}
use Rattle.totals.specs.LookBack.{Game}
use Rattle.totals.specs.Shares.{president_of}
use Rattle.tables.specs.Seat.{left_of, seats_from}
use Rattle.tables.specs.declared.roster.Company.{Company}
use Rattle.tables.specs.declared.seat.Seat.{Seat}

module _ (a b : Seat → ℤ) (same : (seat : Seat) → seat.0 < 6 → a seat ≡ b seat) where
  -- each of these seats is one of six
  abbrev AreOfSix : List Seat → Type 0
  AreOfSix [] = Unit {0}
  AreOfSix (seat ∷ others) = (seat.0 < 6) × AreOfSix others

  -- the better of two seats is the same
  same_better : (best seat : Seat) → best.0 < 6 → seat.0 < 6 → better_of a best seat ≡ better_of b best seat
  same_better best seat first second =
      ap (λ (n : ℤ). if lt_z n (a seat) then seat else best) (same best first)
      ∙ ap (λ (n : ℤ). if lt_z (b best) n then seat else best) (same seat second)

  -- it is one of six
  better_of_six : (best seat : Seat) → best.0 < 6 → seat.0 < 6 → (better_of b best seat).0 < 6
  better_of_six best seat first second =
      elim (lt_z (b best) (b seat)) as (λ (more : Bool). (if more then seat else best).0 < 6)
      [ true ↦ second | false ↦ first ]

  -- so the same seat has most
  same_most : (best : Seat) (others : List Seat) → best.0 < 6 → AreOfSix others
      → with_most a best others ≡ with_most b best others
  same_most best [] first of_six = refl
  same_most best (seat ∷ others) first of_six =
      ap (λ (found : Seat). with_most a found others) (same_better best seat first of_six.0)
      ∙ same_most (better_of b best seat) others (better_of_six best seat first of_six.0) of_six.1

  -- the seat at the left is one of six
  left_of_six : (seats : ℕ) (seat : Seat) → seats ≤ 6 → seat.0 < 6 → (left_of seats seat).0 < 6
  left_of_six seats seat few within = grind (arith, nat_tests)

  -- so are those from one on
  seats_of_six : (seats count : ℕ) (seat : Seat) → seats ≤ 6 → seat.0 < 6 → AreOfSix (seats_from seats count seat)
  seats_of_six seats zero seat few within = tt
  seats_of_six seats (suc count) seat few within =
      (within, seats_of_six seats count (left_of seats seat) few (left_of_six seats seat few within))

  -- so the same seat succeeds
  same_successor : (seats : ℕ) (old : Seat) → seats ≤ 6 → old.0 < 6 → successor a seats old ≡ successor b seats old
  same_successor seats old few within =
      same_most old (others_from seats old) within (seats_of_six seats _ (left_of seats old) few
      (left_of_six seats old few within))

-- the same seat presides, where this one presided, if one did
same_presiding : (game : Game) (holdings : Holdings) (company : Company) (old : Option Seat)
    → AreHoldingsOf game holdings → game.seats ≤ 6 →
    ((seat : Seat) → old ≡ Some seat → seat.0 < game.seats) →
    option_map (successor (seat_shares holdings company) game.seats) old
    ≡ option_map (successor (seat_shares_of game.events company) game.seats) old
same_presiding game holdings company None are few seated = refl
same_presiding game holdings company (Some old) are few seated =
    let within = seated old refl in
    ap Some
    (same_successor (seat_shares holdings company) (seat_shares_of game.events company)
    (λ seat of_six. are.shares company (OfSeat seat) (omega (arith, of_six))) game.seats old few
    (omega (arith, within, few)))

-- so the same seat presides by the holdings as by the events
pub presides_by_game : (game : Game) (holdings : Holdings) (company : Company) → AreHoldingsOf game holdings
    → game.seats ≤ 6 →
    PresidentIsSeated game company → presiding_in holdings company ≡ presiding_of game.seats game.events company
presides_by_game game holdings company are few seated =
    ap (λ (n : ℕ). option_map (successor (seat_shares holdings company) n) (president_in holdings company)) are.seats
    ∙ ap (λ (old : Option Seat). option_map (successor (seat_shares holdings company) game.seats) old)
    (are.presidents company)
    ∙ same_presiding game holdings company (president_of game.events company) are few seated
