-- What a company pays out: each dividend keeps a list sound, no place has more than ten shares, and
-- what is paid to all is paid step by step.
use Rattle.std.proofs.Common.{◌≡◌, ℕ, zero, suc, ◌+◌, ◌-◌, ◌<◌, ◌≤◌, ◌==◌, inl, inr, Bool, true, false, if◌then◌else◌}
use Rattle.std.proofs.Common.{List, [], ◌∷◌, ◌++◌, map, pos, ◌≤ℤ◌, refl, sym, subst, ap, ◌∙◌, arith}
use Rattle.std.proofs.lemmas.Bool.{cases_eq}
use Rattle.std.proofs.lemmas.Int.{ints}
use Rattle.std.specs.List.{range_with_len}
use Rattle.events.specs.declared.event.Event.{Event}
use Rattle.events.specs.declared.event.Event.TheVariants as event
use Rattle.events.specs.declared.event.Holder.{Holder}
use Rattle.events.specs.declared.event.Holder.TheVariants as holder
use Rattle.events.specs.declared.event.Party.TheVariants as party
use Rattle.events.specs.declared.event.Shareholder.TheVariants.{InitialOffering, BankPool, Seat as OfSeat}
use Rattle.history.proofs.TrainActs.{dividend_sound}
use Rattle.totals.specs.LookBack.{Game, with_event}
use Rattle.history.specs.Money.{IsParty}
use Rattle.totals.specs.Shares.{held_by, shares_of}
use Rattle.history.specs.Sound.{IsSound, SharesAreHeld}
use Rattle.history.specs.Record.{breaks, broken_recorded}
use Rattle.market.specs.Moves.{right_of}
use Rattle.market.specs.Token.{token_moved}
use Rattle.history.proofs.NearlySound.{broken_quiet, quiet_sound}
use Rattle.certs.specs.Dividend.{all_paid, dividend_paid_to, paid_for, paid_out, paid_to_seats}
use Rattle.tables.specs.Seat.{all_seats, seat_at}
use Rattle.tables.specs.declared.roster.Company.{Company}
use Rattle.history.specs.Games.{IsGame}
use Rattle.tables.specs.declared.seat.Seat.{Seat}

-- the word that the bank is broken keeps a list sound
pub broken_sound : (game : Game) → IsSound game → IsSound (broken_recorded game)
broken_sound game sound =
    elim (breaks game.seats game.events) as (λ (b : Bool). IsSound
    (record { seats = game.seats; events = if b then game.events ++ event.Broken ∷ [] else game.events })) [
      | true ↦ quiet_sound game event.Broken broken_quiet sound
      | false ↦ sound
    ]

-- so a game stays one that is played
pub broken_game : (game new : Game) → new ≡ broken_recorded game → IsGame game → IsGame new
broken_game game new recorded before =
    subst IsGame (sym recorded) (record { few = before.few; sound = broken_sound game before.sound })

-- seats have no fewer than no shares together
held_not_under : (events : List Event) (company : Company) (seats : List Seat) → SharesAreHeld events
    → pos 0 ≤ℤ held_by events company seats
held_not_under events company [] held = omega (arith, ints)
held_not_under events company (seat ∷ others) held =
    let here = held company (OfSeat seat) in omega (arith, ints, held_not_under events company others held)

-- one of them has no more than all
one_of_all : (events : List Event) (company : Company) (seat : Seat) (from count : ℕ) → SharesAreHeld events
    → from ≤ seat.0 → seat.0 < from + count → shares_of events company (OfSeat seat) ≤ℤ held_by events company
    (map seat_at (range_with_len from count))
one_of_all events company seat from zero held low high = absurd (omega arith)
one_of_all events company seat from (suc count) held low high =
    let rest : List Seat = map seat_at (range_with_len (from + 1) count) in
    elim (cases_eq from seat.0) [
      | inl same ↦
          let its : shares_of events company (OfSeat (seat_at from)) ≡ shares_of events company (OfSeat seat) =
          ap (λ (n : ℕ). shares_of events company (OfSeat (seat_at n))) same in
          omega (arith, ints, held_not_under events company rest held)
      | inr apart ↦
          let here = held company (OfSeat (seat_at from)) in
          omega (arith, ints, one_of_all events company seat (from + 1) count held (omega arith) (omega arith))
    ]

-- a seat at the table has at most ten
pub seat_most : (game : Game) (company : Company) (seat : Seat) → seat.0 < game.seats → IsSound game
    → shares_of game.events company (OfSeat seat) ≤ℤ pos 10
seat_most game company seat seated sound =
    let ten = sound.ten company in
    let offered = sound.held company InitialOffering in
    let pooled = sound.held company BankPool in
    omega (arith, ints, one_of_all game.events company seat 0 game.seats sound.held (omega arith) (omega arith))

-- so has the bank pool
pub pool_most : (game : Game) (company : Company) → IsSound game → shares_of game.events company BankPool ≤ℤ pos 10
pool_most game company sound =
    let ten = sound.ten company in
    let offered = sound.held company InitialOffering in
    omega (arith, ints, held_not_under game.events company (all_seats game.seats) sound.held)

-- a dividend keeps a list sound, with the word that the bank is broken
pub dividend_recorded_game : (game paid new : Game) (company : Company) (to : Holder) (amount : ℕ)
    → IsParty game.seats (party.Holder to) → paid ≡ with_event game (event.Dividend company to amount)
    → new ≡ broken_recorded paid → IsGame game → IsGame new
dividend_recorded_game game paid new company to amount of_game is_paid is_new before =
    broken_game (with_event game (event.Dividend company to amount)) new (is_new ∙ ap broken_recorded is_paid)
    (record { few = before.few; sound = dividend_sound game company to amount of_game before.sound })

-- a table keeps its seats
pub paid_seats : (game : Game) (company : Company) (to : Holder) (amount : ℕ)
    → (dividend_paid_to company to amount game).seats ≡ game.seats
paid_seats game company to amount =
    elim (amount == 0) as (λ (none : Bool). (if none then game else broken_recorded
    (with_event game (event.Dividend company to amount))).seats ≡ game.seats) [ true ↦ refl | false ↦ refl ]

-- where the dividends of the seats that are left lead after the next, they lead before it
pub seats_go_on : (company : Company) (revenue : ℕ) (old new : Game) (seat : Seat) (i seats : ℕ) → i < seats
    → seat ≡ seat_at i → new ≡ paid_for company (holder.Seat seat) (OfSeat seat) revenue old
    → paid_to_seats company revenue new (map seat_at (range_with_len (i + 1) (seats - (i + 1))))
    ≡ paid_to_seats company revenue old (map seat_at (range_with_len i (seats - i)))
seats_go_on company revenue old new seat i seats below is recorded =
    let more : seats - i ≡ suc (seats - (i + 1)) = omega arith in
    ap (λ (game : Game). paid_to_seats company revenue game (map seat_at (range_with_len (i + 1) (seats - (i + 1)))))
    (recorded ∙ ap (λ (one : Seat). paid_for company (holder.Seat one) (OfSeat one) revenue old) is)
    ∙ sym (ap (λ (k : ℕ). paid_to_seats company revenue old (map seat_at (range_with_len i k))) more)

-- after the last seat the company is paid
pub all_are_paid : (company : Company) (revenue : ℕ) (old paid new : Game) (i seats : ℕ) → old.seats ≡ seats
    → seats ≤ i → paid_to_seats company revenue paid (map seat_at (range_with_len i (seats - i)))
    ≡ paid_to_seats company revenue old (all_seats seats)
    → new ≡ paid_for company (holder.Company company) BankPool revenue paid → new ≡ all_paid company revenue old
all_are_paid company revenue old paid new i seats same over leads recorded =
    let none : seats - i ≡ 0 = omega arith in
    recorded
    ∙ ap (λ (game : Game). paid_for company (holder.Company company) BankPool revenue game)
    (sym (ap (λ (k : ℕ). paid_to_seats company revenue paid (map seat_at (range_with_len i k))) none)
    ∙ leads
    ∙ sym (ap (λ (k : ℕ). paid_to_seats company revenue old (all_seats k)) same))

-- what paying out brings, step by step
pub paid_out_steps : (game paid new : Game) (company : Company) (revenue : ℕ) → paid ≡ all_paid company revenue game
    → new ≡ token_moved right_of paid company → new ≡ paid_out game company revenue
paid_out_steps game paid new company revenue is_paid moved =
    moved ∙ ap (λ (game : Game). token_moved right_of game company) is_paid
