-- The start of a company keeps a list sound, whether its president's two shares are given or
-- bought.
use Rattle.std.proofs.Common.{◌≡◌, ℕ, ◌≤◌, ◌==◌, inl, inr, Bool, true, false, if◌then◌else◌, List, [], ◌∷◌, ◌++◌, Some}
use Rattle.std.proofs.Common.{None, pos, ◌≤ℤ◌, refl, sym, ap, ◌∙◌, arith}
use Rattle.std.proofs.lemmas.Bool.Decides.{nat_tests}
use Rattle.std.proofs.lemmas.Int.{ints}
use Rattle.std.specs.Option.{option_or}
use Rattle.std.proofs.lemmas.Bool.{cases_Bool}
use Rattle.events.specs.Event.{floated_by, is_par_value, office_of, par_set, placement_on}
use Rattle.events.specs.Event.{square_set, sv_price_set, transfer_of}
use Rattle.events.specs.declared.event.Event.{Event}
use Rattle.events.specs.declared.event.Event.TheVariants.{Given, Par, President}
use Rattle.events.specs.declared.event.Shareholder.TheVariants.{InitialOffering, Seat as OfSeat}
use Rattle.totals.proofs.Choices.{new_word, old_word, something}
use Rattle.totals.proofs.EventAtEnd.{is_floated_before, last_said_at_end, par_of_before, president_of_before}
use Rattle.totals.proofs.EventAtEnd.{shares_of_before, square_of_before}
use Rattle.history.proofs.ShareCount.{EnoughAreLeft, left_after, move_shows, stay_led_gaining}
use Rattle.history.proofs.Gifts.{gift}
use Rattle.history.proofs.Soundness.{IsNearlySound, Shows, given_kept, nearly_sound_after}
use Rattle.history.proofs.Soundness.{nearly_sound_of, sound_of, still_led}
use Rattle.history.proofs.ShareCount.{moved, shares_after}
use Rattle.history.specs.Laws.{StartKeepsSound}
use Rattle.totals.specs.LookBack.{Game, is_closed, is_sold, with_event}
use Rattle.totals.specs.Shares.{is_floated, par_of, par_said, president_of, president_said, shares_of, square_of}
use Rattle.totals.specs.Shares.{square_said}
use Rattle.history.specs.Sound.{IsLed, IsSound, least_offered}
use Rattle.tables.specs.Chart.{par_square_of}
use Rattle.tables.specs.Roster.{same_company}
use Rattle.tables.specs.declared.roster.Company.{Company}
use Rattle.tables.specs.declared.roster.Company.TheVariants.{Pennsylvania, NewYorkCentral}
use Rattle.tables.specs.declared.roster.Private.TheVariants.{CamdenAmboy, MohawkHudson}
use Rattle.tables.specs.declared.seat.Seat.{Seat}
use Rattle.tables.specs.declared.squares.Square.{Square}
use Rattle.tables.proofs.Companies.{company_itself}

-- a company's par value after one was set
par_after : (events : List Event) (started : Company) (price : ℕ) (company : Company)
    → par_of (events ++ Par started price ∷ []) company
    ≡ option_or (if same_company started company then Some price else None) (par_of events company)
par_after events started price company =
    last_said_at_end (λ e. par_said company (par_set e)) events (Par started price)

-- its square
square_after : (events : List Event) (started : Company) (price : ℕ) (square : Square) (company : Company)
    → par_square_of price ≡ Some square → square_of (events ++ Par started price ∷ []) company
    ≡ option_or (if same_company started company then Some square else None) (square_of events company)
square_after events started price square company par =
    last_said_at_end (λ e. square_said company (square_set e)) events (Par started price)
    ∙ ap (λ at. option_or (square_said company (placement_on started at)) (square_of events company)) par

-- its president after one was named
president_after : (events : List Event) (started : Company) (seat : Seat) (company : Company)
    → president_of (events ++ President started seat ∷ []) company
    ≡ option_or (if same_company started company then Some seat else None) (president_of events company)
president_after events started seat company =
    last_said_at_end (λ e. president_said company (office_of e)) events (President started seat)

-- a company has a par value, and a seat two of its shares
abbrev pub HasLeader : List Event → Company → Seat → Type 0
HasLeader events company seat =
    (par : ℕ) × (par_of events company ≡ Some par) × (is_par_value par ≡ true)
    × (pos 2 ≤ℤ shares_of events company (OfSeat seat))

-- a company is led after a presidency has passed, if the new president has two shares of that one,
-- and another was led
pub is_led_passed : (events : List Event) (company : Company) (new : Seat) (other : Company)
    → (same_company company other ≡ true → HasLeader events other new)
    → (same_company company other ≡ false → IsLed events other) → IsLed (events ++ President company new ∷ []) other
is_led_passed events company new other here led =
    let held : (seat : Seat) → pos 2 ≤ℤ shares_of events other (OfSeat seat)
    → pos 2 ≤ℤ shares_of (events ++ President company new ∷ []) other (OfSeat seat) =
    λ seat two. rw (shares_of_before events (President company new) other (OfSeat seat) refl) two in
    let par = par_of_before events (President company new) other refl in
    elim (cases_Bool (same_company company other)) [
      | inl same ↦
          record {
            par = (here same).0;
            has_par = par ∙ (here same).1;
            is_par = (here same).2;
            president = new;
            has_president = president_after events company new other
                ∙ new_word (same_company company other) new (president_of events other) same;
            holds_two = held new (here same).3;
          }
      | inr apart ↦
          still_led events (events ++ President company new ∷ []) other par (president_after events company new other
          ∙ old_word (same_company company other) new (president_of events other) apart) (λ seat _ two. held seat two)
          (led apart)
    ]

-- eight or nine
eight_or_nine : (test : Bool) → 8 ≤ (if test then 8 else 9)
eight_or_nine true = omega arith
eight_or_nine false = omega arith

-- at least eight shares are in each initial offering
pub least_eight : (events : List Event) (company : Company) → 8 ≤ least_offered events company
least_eight events Pennsylvania = eight_or_nine (is_sold events CamdenAmboy)
least_eight events NewYorkCentral = eight_or_nine (is_closed events MohawkHudson)
least_eight events other = omega arith

-- a seat is itself
itself : (n a : ℕ) → (if n == n then a else 0) ≡ a
itself n a = grind (arith, nat_tests)

-- a company is started: its par, its two shares by some event, its president
module _ (game : Game) (started : Company) (seat : Seat) (price : ℕ) (event : Event)
    (moves : transfer_of event ≡ Some (gift started seat 2)) (no_par : par_set event ≡ None)
    (no_square : square_set event ≡ None) (no_office : office_of event ≡ None) (no_float : floated_by event ≡ None)
    (no_price : sv_price_set event ≡ None) where
  abbrev first : Game
  first = with_event game (Par started price)

  abbrev second : Game
  second = with_event first event

  abbrev third : Game
  third = with_event second (President started seat)

  -- who has floated in the end
  floats_then : (company : Company) → is_floated third.events company ≡ is_floated game.events company
  floats_then company =
      is_floated_before second.events (President started seat) company refl
      ∙ is_floated_before first.events event company no_float
      ∙ is_floated_before game.events (Par started price) company refl

  -- the squares of other companies
  squares_then : (square : Square) (company : Company) → par_square_of price ≡ Some square
      → same_company started company ≡ false → square_of third.events company ≡ square_of game.events company
  squares_then square company par apart =
      square_of_before second.events (President started seat) company refl
      ∙ square_of_before first.events event company no_square
      ∙ square_after game.events started price square company par
      ∙ old_word (same_company started company) square (square_of game.events company) apart

  -- the company has its par value, and the seat two shares
  has_leader : is_par_value price ≡ true → IsSound game → (company : Company) → same_company started company ≡ true
      → HasLeader second.events company seat
  has_leader is_par sound company same =
      let two : moved company (gift started seat 2) ≡ 2 = ap (λ (same : Bool). if same then 2 else 0) same in
      let had = sound.held company (OfSeat seat) in (
        price,
        par_of_before first.events event company no_par ∙ par_after game.events started price company
            ∙ new_word (same_company started company) price (par_of game.events company) same,
        is_par,
        let fact = shares_after first.events event (gift started seat 2) company (OfSeat seat) moves in
            let other_fact = shares_of_before game.events (Par started price) company (OfSeat seat) refl in
            omega (arith, ints, itself seat.0 (moved company (gift started seat 2))),
      )

  -- it is led by the seat, and others as before
  is_led_then : is_par_value price ≡ true → IsSound game → (company : Company)
      → (same_company started company ≡ false → IsLed game.events company) → IsLed third.events company
  is_led_then is_par sound company led =
      is_led_passed second.events started seat company (has_leader is_par sound company)
      (λ apart. stay_led_gaining first event (gift started seat 2) moves tt no_par no_office company
      (still_led game.events first.events company (par_after game.events started price company
      ∙ old_word (same_company started company) price (par_of game.events company) apart)
      (president_of_before game.events (Par started price) company refl)
      (λ by _ two. rw (shares_of_before game.events (Par started price) company (OfSeat by) refl) two) (led apart)))

  -- it had eight shares to give
  many_offered : square_of game.events started ≡ None → IsSound game
      → pos 2 ≤ℤ shares_of first.events started InitialOffering
  many_offered unplaced sound =
      let offered = sound.offered started unplaced in
      let fact = shares_of_before game.events (Par started price) started InitialOffering refl in
      omega (arith, ints, least_eight game.events started)

  -- a company without a square is another, which keeps its shares
  enough_left : (square : Square) → par_square_of price ≡ Some square → IsNearlySound first
      → EnoughAreLeft first.events (gift started seat 2)
  enough_left square par before =
      left_after first.events (gift started seat 2) (λ unplaced.
      let none : option_or (if same_company started started then Some square else None) (square_of game.events started)
      ≡ None = sym (square_after game.events started price square started par) ∙ unplaced in
      let has : Some square ≡ None = sym (new_word _ square (square_of game.events started)
      (company_itself started)) ∙ none in
      absurd (cc)) before.offered

  -- so the list is sound, where the event shows what it has to
  pub start_sound_by : (pos 2 ≤ℤ shares_of first.events started InitialOffering
      → EnoughAreLeft first.events (gift started seat 2) → IsNearlySound first → Shows first event)
      → is_par_value price ≡ true → square_of game.events started ≡ None → IsSound game → IsSound third
  start_sound_by shows is_par unplaced sound =
      let at = something (par_square_of price) is_par in
      let one = nearly_sound_after game (Par started price) tt (nearly_sound_of game sound) in
      let two = nearly_sound_after first event (shows (many_offered unplaced sound) (enough_left at.0 at.1 one) one) one in
      sound_of third (nearly_sound_after second (President started seat) tt two)
      (given_kept second (President started seat) refl (given_kept first event no_price
      (given_kept game (Par started price) refl sound.given)))
      (λ company square placed. is_led_then is_par sound company (λ apart. sound.led company square
      (sym (squares_then at.0 company at.1 apart) ∙ placed)))
      (λ company floated. is_led_then is_par sound company (λ apart. sound.floated company
      (sym (floats_then company) ∙ floated)))

-- the two shares are given
pub started_sound : StartKeepsSound
started_sound game company seat price is_par unplaced seated =
    let par = with_event game (Par company price) in
    start_sound_by game company seat price (Given company seat 2) refl refl refl refl refl refl
    (λ many enough before. move_shows par (Given company seat 2) (gift company seat 2) refl refl tt seated many enough
    before) is_par unplaced
