-- A sale of shares keeps a list sound, and so do a presidency that passes, a float and a token that
-- moves.
use Rattle.std.proofs.Common.{◌≡◌, ℕ, ◌<◌, ◌==◌, inl, inr, Bool, false, if◌then◌else◌, List, [], ◌∷◌, ◌++◌, Option}
use Rattle.std.proofs.Common.{Some, None, is_some, unwrap_or, pos, ◌≤ℤ◌, refl, sym, subst, ap, ◌∙◌, arith}
use Rattle.std.proofs.lemmas.Int.{ints}
use Rattle.std.proofs.lemmas.Bool.{cases_Bool}
use Rattle.events.specs.Event.{floated_by, square_set}
use Rattle.events.specs.declared.event.Event.{Event}
use Rattle.events.specs.declared.event.Event.TheVariants.{Floats, Moves, President, Sells}
use Rattle.events.specs.declared.event.Shareholder.TheVariants.{InitialOffering, BankPool, Seat as OfSeat}
use Rattle.events.specs.declared.event.Transfer.{Transfer}
use Rattle.totals.proofs.Choices.{nothing_there, old_word}
use Rattle.totals.proofs.EventAtEnd.{is_floated_before, last_said_at_end, par_of_before}
use Rattle.totals.proofs.EventAtEnd.{president_of_before, square_of_before}
use Rattle.history.proofs.NearlySound.{nearly_sound_recorded, recorded_same}
use Rattle.history.proofs.ShareCount.{move_shows}
use Rattle.history.proofs.Soundness.{IsNearlySound, StayLed, floated_kept, given_kept, led_kept, nearly_sound_after}
use Rattle.history.proofs.Soundness.{nearly_sound_of, paying, sound_after, sound_of, stay_led, still_led}
use Rattle.history.proofs.Starts.{is_led_passed, least_eight}
use Rattle.history.proofs.ShareCount.{moved, part, shares_after}
use Rattle.history.specs.Laws.{BlockKeepsSound, BlockWithSuccessionKeepsSound, FloatKeepsSound, MoveKeepsSound}
use Rattle.history.specs.Laws.{SuccessionKeepsSound, block_sold}
use Rattle.totals.specs.LookBack.{Game, last_said, with_event}
use Rattle.totals.specs.Shares.{float_said, is_floated, par_of, president_of, shares_of, square_of, square_said}
use Rattle.history.specs.Sound.{IsGivenAway, IsLed, IsSound}
use Rattle.tables.specs.declared.roster.Private.TheVariants.{SchuylkillValley}
use Rattle.tables.specs.Roster.{same_company}
use Rattle.tables.specs.declared.roster.Company.{Company}
use Rattle.tables.specs.declared.seat.Seat.{Seat}
use Rattle.tables.specs.declared.squares.Square.{Square}
use Rattle.tables.proofs.Companies.{company_is}

-- the shares of a sale
abbrev block : Company → Seat → ℕ → Transfer
block company seat shares = record { company = company; from = OfSeat seat; to = BankPool; shares = shares }

-- a sale keeps a list nearly sound
block_nearly_sound : (game : Game) (company : Company) (seat : Seat) (shares price : ℕ) → seat.0 < game.seats
    → pos shares ≤ℤ shares_of game.events company (OfSeat seat) → IsSound game
    → IsNearlySound (block_sold game company seat shares price)
block_nearly_sound game company seat shares price seated many sound =
    let sale = Sells company seat shares price in
    let before = nearly_sound_of game sound in
    nearly_sound_recorded (with_event game sale) (nearly_sound_after game sale
    (paying game sale refl before.solvent before.companies (tt, seated) (move_shows game sale
    (block company seat shares) refl refl seated tt many
    (λ other unplaced. let enough = before.offered other unplaced in omega (arith, ints)) before)) before)

-- after a sale that may break the bank
module _ (game : Game) (company : Company) (seat : Seat) (shares price : ℕ) where
  abbrev paid : Game
  paid = with_event game (Sells company seat shares price)

  abbrev sold : Game
  sold = block_sold game company seat shares price

  -- squares in the end
  squares_then : (other : Company) → square_of sold.events other ≡ square_of game.events other
  squares_then other = (recorded_same paid).square other
      ∙ square_of_before game.events (Sells company seat shares price) other refl

  -- par values in the end
  pars_then : (other : Company) → par_of sold.events other ≡ par_of game.events other
  pars_then other = (recorded_same paid).par other ∙ par_of_before game.events (Sells company seat shares price) other
      refl

  -- presidents in the end
  presidents_then : (other : Company) → president_of sold.events other ≡ president_of game.events other
  presidents_then other = (recorded_same paid).president other
      ∙ president_of_before game.events (Sells company seat shares price) other refl

  -- who has floated in the end
  floats_then : (other : Company) → is_floated sold.events other ≡ is_floated game.events other
  floats_then other = (recorded_same paid).floated other
      ∙ is_floated_before game.events (Sells company seat shares price) other refl

  -- seats hold as many of another company
  others_held : (other : Company) (by : Seat) → same_company company other ≡ false
      → shares_of sold.events other (OfSeat by) ≡ shares_of game.events other (OfSeat by)
  others_held other by apart =
      let its : moved other (block company seat shares) ≡ 0 = ap (λ (is : Bool). if is then shares else 0) apart in
      let none : part (OfSeat seat) (OfSeat by) (moved other (block company seat shares))
      ≡ part (OfSeat seat) (OfSeat by) 0 = ap (part (OfSeat seat) (OfSeat by)) its in
      let nothing = nothing_there (seat.0 == by.0) in
      (recorded_same paid).shares other (OfSeat by) ∙ omega (
        arith,
        ints,
        shares_after game.events (Sells company seat shares price) (block company seat shares) other
            (OfSeat by) refl,
      )

  -- SV is given away as before
  given_then : IsGivenAway game.events → IsGivenAway sold.events
  given_then given zero =
      let same = recorded_same paid in
      same.sold SchuylkillValley
      ∙ given_kept game (Sells company seat shares price) refl given (sym same.sv_price ∙ zero)

  -- a company is led where its president keeps two
  is_led_then : ((president : Seat) → president_of game.events company ≡ Some president
      → pos 2 ≤ℤ shares_of sold.events company (OfSeat president)) → StayLed game.events sold.events
  is_led_then stays other =
      still_led game.events sold.events other (pars_then other) (presidents_then other)
      (λ president presides two. elim (cases_Bool (same_company company other)) [
        | inl same ↦
            let here = company_is company other same in
            rw (← here) (stays president (ap (president_of game.events) here ∙ presides))
        | inr apart ↦ rw (others_held other president apart) two
      ])

  -- or where the presidency passes to a seat with two
  is_led_next : (president : Seat) → pos 2 ≤ℤ shares_of sold.events company (OfSeat president)
      → StayLed game.events (sold.events ++ President company president ∷ [])
  is_led_next president two other before =
      is_led_passed sold.events company president other (λ same. (
        before.par,
        pars_then other ∙ before.has_par,
        before.is_par,
        rw (← (company_is company other same)) two,
      )) (λ apart. still_led game.events sold.events other (pars_then other) (presidents_then other)
      (λ by _ two. rw (others_held other by apart) two) before)

-- a sale after which the president keeps two
pub block_sound : BlockKeepsSound
block_sound game company seat shares price seated many stays sound =
    let led = is_led_then game company seat shares price stays in
    sound_of (block_sold game company seat shares price)
    (block_nearly_sound game company seat shares price seated many sound)
    (given_then game company seat shares price sound.given)
    (λ other square placed. led other
    (sound.led other square (sym (squares_then game company seat shares price other) ∙ placed)))
    (λ other floated. led other
    (sound.floated other (sym (floats_then game company seat shares price other) ∙ floated)))

-- a sale after which the presidency passes to a seat with two
pub block_with_succession_sound : BlockWithSuccessionKeepsSound
block_with_succession_sound game company seat shares price president seated many two sound =
    let after = block_sold game company seat shares price in
    let passes = President company president in
    let led = is_led_next game company seat shares price president two in
    sound_of (with_event after passes) (nearly_sound_after after passes tt
    (block_nearly_sound game company seat shares price seated many sound))
    (given_kept after passes refl (given_then game company seat shares price sound.given))
    (λ other square placed. led other (sound.led other square (sym (square_of_before after.events passes other refl
    ∙ squares_then game company seat shares price other) ∙ placed)))
    (λ other floated. led other (sound.floated other (sym (is_floated_before after.events passes other refl
    ∙ floats_then game company seat shares price other) ∙ floated)))

-- companies are led after the presidency of one has passed to a seat with no fewer shares
is_led_succeeded : (events : List Event) (company : Company) (old new : Seat) → president_of events company ≡ Some old
    → shares_of events company (OfSeat old) ≤ℤ shares_of events company (OfSeat new)
    → StayLed events (events ++ President company new ∷ [])
is_led_succeeded events company old new presided more other before =
    is_led_passed events company new other (λ same.
    let here : company ≡ other = company_is company other same in
    let same_seat : before.president ≡ old = ap (λ (word : Option Seat). unwrap_or word old)
    (sym before.has_president ∙ sym (ap (president_of events) here) ∙ presided) in
    let its_more : shares_of events other (OfSeat old) ≤ℤ shares_of events other (OfSeat new) = rw (← here) more in
    let two : pos 2 ≤ℤ shares_of events other (OfSeat old) = rw (← same_seat) before.holds_two in
    (before.par, before.has_par, before.is_par, omega (arith, ints))) (λ _. before)

-- a presidency that passes to a seat with no fewer shares
pub succession_sound : SuccessionKeepsSound
succession_sound game company old new presided more sound =
    let led = is_led_succeeded game.events company old new presided more in
    sound_after game (President company new) tt (
      led_kept game (President company new) led refl sound.led,
      (floated_kept game (President company new) led refl sound.floated, tt),
    ) sound

-- a company with few shares left in the initial offering is led
is_led_few : (game : Game) (company : Company) (at : Option Square) → square_of game.events company ≡ at
    → shares_of game.events company InitialOffering ≤ℤ pos 4 → IsSound game → IsLed game.events company
is_led_few game company None unplaced few sound =
    let many = sound.offered company unplaced in
    absurd (omega (arith, ints, least_eight game.events company))
is_led_few game company (Some square) placed few sound = sound.led company square placed

-- a float, of a company with few shares left
pub float_sound : FloatKeepsSound
float_sound game company amount few sound =
    let floats = Floats company amount in
    sound_after game floats (paying game floats refl sound.solvent sound.companies (tt, tt) tt) (
      λ other floated. stay_led game floats refl other (elim (cases_Bool (same_company company other)) [
        | inl same ↦ subst (IsLed game.events) (company_is company other same)
            (is_led_few game company (square_of game.events company) refl few sound)
        | inr apart ↦ sound.floated other (sym (ap is_some
            (old_word (same_company company other) company
            (last_said (λ e. float_said other (floated_by e)) game.events) apart))
            ∙ sym (ap is_some (last_said_at_end (λ e. float_said other (floated_by e)) game.events floats)) ∙ floated)
      ]),
      tt,
    ) sound

-- a company that has a square after a move had one before
had_square : (events : List Event) (company other : Company) (from to square : Square)
    → square_of events company ≡ Some from → square_of (events ++ Moves company to ∷ []) other ≡ Some square
    → (before : Square) × (square_of events other ≡ Some before)
had_square events company other from to square started placed =
    elim (cases_Bool (same_company company other)) [
      | inl same ↦ (from, sym (ap (square_of events) (company_is company other same)) ∙ started)
      | inr apart ↦ (
        square,
        sym (old_word (same_company company other) to (square_of events other) apart)
            ∙ sym (last_said_at_end (λ e. square_said other (square_set e)) events (Moves company to)) ∙ placed,
      )
    ]

-- a token that moves from a square
pub move_sound : MoveKeepsSound
move_sound game company from to started sound =
    sound_after game (Moves company to) tt (
      λ other square placed.
          let before = had_square game.events company other from to square started placed in
          stay_led game (Moves company to) refl other (sound.led other before.0 before.1),
      tt,
    ) sound
