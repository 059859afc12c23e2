-- What keeps a list sound. An event keeps each fact of whose aspects it says nothing; the other
-- facts it has to show.
use Rattle.std.proofs.Common.{◌≡◌, ℕ, ◌≤◌, Bool, true, false, if◌then◌else◌, ◌&&◌, List, [], ◌∷◌, ◌++◌, Option, Some}
use Rattle.std.proofs.Common.{None, is_none, is_some, pos, ◌≤ℤ◌, refl, sym, subst, ap, ◌∙◌, arith, inl}
use Rattle.std.proofs.lemmas.Int.{ints}
use Rattle.std.specs.Option.{option_or}
use Rattle.std.proofs.lemmas.Bool.{and_parts}
use Rattle.events.specs.Event.{bidding_of, floated_by, office_of, ownership_of, par_set, party_at, party_of_company}
use Rattle.events.specs.Event.{payment_of, square_set, sv_price_set, tile_laid, token_placed, train_moved, transfer_of}
use Rattle.events.specs.declared.event.Event.{Event}
use Rattle.events.specs.declared.event.Shareholder.TheVariants.{InitialOffering, BankPool, Seat as OfSeat}
use Rattle.totals.proofs.InOrder.{lays_before, tokens_before}
use Rattle.history.proofs.Rolling.{no_trains, trains_kept}
use Rattle.totals.proofs.EventAtEnd.{bid_of_before, bids_of_before, cash_of_at_end, is_closed_before}
use Rattle.totals.proofs.EventAtEnd.{is_floated_before, last_said_at_end, par_of_before, president_of_before}
use Rattle.totals.proofs.EventAtEnd.{shares_of_before, square_of_before, sv_price_of_before}
use Rattle.totals.specs.Bids.{bid_of, bids_of, free_cash_of}
use Rattle.totals.specs.LookBack.{Game, cash_of, is_closed, is_sold, last_said, owner_said, paid_by, sv_price_of}
use Rattle.totals.specs.LookBack.{with_event}
use Rattle.history.specs.Money.{AreWithin, IsWithin}
use Rattle.totals.specs.Shares.{held_by, par_of, president_of, shares_of, square_of, square_said}
use Rattle.totals.specs.Trains.{TrainsAreHeld}
use Rattle.history.specs.Sound.{AreLed, AreOffered, AreTenInAll, BiddersAreSeated, BidsAreSmall, BidsDiffer}
use Rattle.history.specs.Sound.{CompaniesAreSolvent, FloatedAreLed, IsGivenAway, IsLed, IsSound, IsSvPrice, LiesFit}
use Rattle.history.specs.Sound.{SeatsAreSolvent, SharesAreHeld, least_offered}
use Rattle.map_tables.proofs.NothingFits.{nothing_fits}
use Rattle.tables.specs.Seat.{all_seats}
use Rattle.tables.specs.declared.roster.Company.{Company}
use Rattle.tables.specs.declared.roster.Company.TheVariants.{Pennsylvania, NewYorkCentral}
use Rattle.tables.specs.declared.roster.Private.{Private}
use Rattle.tables.specs.declared.roster.Private.TheVariants.{SchuylkillValley, MohawkHudson, CamdenAmboy}
use Rattle.tables.specs.declared.seat.Seat.{Seat}
use Rattle.tables.proofs.Tests.{none_by_is_none}

-- a later word on a private leaves it sold
stays_said : {A : Type 0} (later earlier : Option A) → is_some earlier ≡ true → is_some (option_or later earlier) ≡ true
stays_said None earlier said = said
stays_said (Some word) earlier said = refl

-- a private that was sold is sold
pub stays_sold : (events : List Event) (event : Event) (private : Private) → is_sold events private ≡ true
    → is_sold (events ++ event ∷ []) private ≡ true
stays_sold events event private sold =
    ap is_some (last_said_at_end (λ e. owner_said private (ownership_of e)) events event)
    ∙ stays_said (owner_said private (ownership_of event))
    (last_said (λ e. owner_said private (ownership_of e)) events) sold

-- fewer shares are to stay where something is so that was not
fewer : (before after : Bool) → (before ≡ true → after ≡ true) → (if after then 8 else 9) ≤ (if before then 8 else 9)
fewer true after stays = subst (λ (now : Bool). (if now then 8 else 9) ≤ 8) (sym (stays refl)) (omega arith)
fewer false true stays = omega arith
fewer false false stays = omega arith

-- nothing was said where nothing is
pub none_earlier : {A : Type 0} (later earlier : Option A) → option_or later earlier ≡ None → earlier ≡ None
none_earlier None earlier none = none
none_earlier (Some word) earlier none = absurd (cc)

-- a company is led as before, where it has its par value still, and its president two shares
pub still_led : (before after : List Event) (company : Company) → par_of after company ≡ par_of before company
    → president_of after company ≡ president_of before company
    → ((seat : Seat) → president_of before company ≡ Some seat → pos 2 ≤ℤ shares_of before company (OfSeat seat)
    → pos 2 ≤ℤ shares_of after company (OfSeat seat)) → IsLed before company → IsLed after company
still_led before after company par president two led =
    record {
      par = led.par;
      has_par = par ∙ led.has_par;
      is_par = led.is_par;
      president = led.president;
      has_president = president ∙ led.has_president;
      holds_two = two led.president led.has_president led.holds_two;
    }

-- each company that was led is led
abbrev pub StayLed : List Event → List Event → Type 0
StayLed before after = (company : Company) → IsLed before company → IsLed after company

-- standing bids differ, are small, and are of seats at the table
abbrev pub BidsStand : Game → Type 0
BidsStand game = BidsDiffer game.events × BidsAreSmall game.events × BiddersAreSeated game.seats game.events

-- without moving shares the seats hold as many together
held_by_before : (events : List Event) (event : Event) (company : Company) (seats : List Seat)
    → transfer_of event ≡ None → held_by (events ++ event ∷ []) company seats ≡ held_by events company seats
held_by_before events event company [] none = refl
held_by_before events event company (seat ∷ others) none =
    rw (shares_of_before events event company (OfSeat seat) none, held_by_before events event company others none) refl

-- an event that pays within the table leaves payments within it
within_after : (seats : ℕ) (events : List Event) (event : Event) → IsWithin seats (payment_of event)
    → AreWithin seats events → AreWithin seats (events ++ event ∷ [])
within_after seats [] event pays within = (pays, tt)
within_after seats (first ∷ events) event pays within = (within.0, within_after seats events event pays within.1)

module _ (game : Game) (event : Event) where
  abbrev pub after : Game
  after = with_event game event

  -- where nothing is said of bids, a seat is solvent that has what it pays free of them
  seats_after : bidding_of event ≡ None
      → ((seat : Seat) → pos (paid_by (party_at seat) (payment_of event)) ≤ℤ free_cash_of game.seats game.events seat)
      → SeatsAreSolvent after
  seats_after no_bid can seat =
      let enough = can seat in
      let cash = cash_of_at_end game.seats game.events event (party_at seat) in
      omega (arith, ints, cash, bids_of_before game.events event seat no_bid)

  -- a company is solvent that has what it pays
  pub companies_after :
      ((company : Company) → pos (paid_by (party_of_company company) (payment_of event)) ≤ℤ cash_of game.seats
      game.events (party_of_company company)) → CompaniesAreSolvent after
  companies_after can company =
      let enough = can company in
      omega (arith, ints, cash_of_at_end game.seats game.events event (party_of_company company))

  -- where each has what it pays and nothing is said of bids, nobody is left owing
  pub paying : {Others : Type 0} → bidding_of event ≡ None
      → ((seat : Seat) → pos (paid_by (party_at seat) (payment_of event)) ≤ℤ free_cash_of game.seats game.events seat)
      → ((company : Company) → pos (paid_by (party_of_company company) (payment_of event)) ≤ℤ cash_of game.seats
      game.events (party_of_company company)) → IsWithin game.seats (payment_of event) → Others
      → SeatsAreSolvent after × (CompaniesAreSolvent after × (IsWithin game.seats (payment_of event) × Others))
  paying no_bid seats companies within others =
      (seats_after no_bid seats, (companies_after companies, (within, others)))

  -- without a word on bids they stand as before
  bids_kept : bidding_of event ≡ None → BidsStand game → BidsStand after
  bids_kept none bids =
      let same : (private : Private) (seat : Seat) → bid_of game.events private seat ≡ bid_of after.events private seat =
      λ private seat. sym (bid_of_before game.events event private seat none) in (
        λ private a b amount of_a of_b. bids.0 private a b amount (same private a ∙ of_a) (same private b ∙ of_b),
        λ private seat amount bid. bids.1 private seat amount (same private seat ∙ bid),
        λ private seat amount bid. bids.2 private seat amount (same private seat ∙ bid),
      )

  -- without a new price SV keeps its own
  price_kept : sv_price_set event ≡ None → IsSvPrice (sv_price_of game.events) → IsSvPrice (sv_price_of after.events)
  price_kept none price = rw (sv_price_of_before game.events event none) price

  -- and stays given away
  pub given_kept : sv_price_set event ≡ None → IsGivenAway game.events → IsGivenAway after.events
  given_kept none given zero =
      stays_sold game.events event SchuylkillValley (given (sym (sv_price_of_before game.events event none) ∙ zero))

  -- without moving shares they are held as before
  held_kept : transfer_of event ≡ None → SharesAreHeld game.events → SharesAreHeld after.events
  held_kept none held company place = rw (shares_of_before game.events event company place none) (held company place)

  -- and are ten in all
  pub ten_kept : transfer_of event ≡ None → AreTenInAll game → AreTenInAll after
  ten_kept none ten company =
      rw (
        shares_of_before game.events event company InitialOffering none,
        shares_of_before game.events event company BankPool none,
        held_by_before game.events event company (all_seats game.seats) none,
      ) (ten company)

  -- a company without a square had none
  pub unplaced_before : (company : Company) → square_of after.events company ≡ None
      → square_of game.events company ≡ None
  unplaced_before company unplaced =
      none_earlier (square_said company (square_set event)) (square_of game.events company)
      (sym (last_said_at_end (λ e. square_said company (square_set e)) game.events event) ∙ unplaced)

  -- where MH stays closed no more shares are to stay in an initial offering
  pub least_after : (is_closed game.events MohawkHudson ≡ true → is_closed after.events MohawkHudson ≡ true)
      → (company : Company) → least_offered after.events company ≤ least_offered game.events company
  least_after closed Pennsylvania =
      fewer (is_sold game.events CamdenAmboy) (is_sold after.events CamdenAmboy)
      (stays_sold game.events event CamdenAmboy)
  least_after closed NewYorkCentral =
      fewer (is_closed game.events MohawkHudson) (is_closed after.events MohawkHudson) closed
  least_after closed other = omega arith

  -- as it does without a word on a private
  pub closed_kept : ownership_of event ≡ None → is_closed game.events MohawkHudson ≡ true
      → is_closed after.events MohawkHudson ≡ true
  closed_kept none closed = is_closed_before game.events event MohawkHudson none ∙ closed

  -- so as many are offered, if none move
  pub offered_after : transfer_of event ≡ None
      → (is_closed game.events MohawkHudson ≡ true → is_closed after.events MohawkHudson ≡ true)
      → AreOffered game.events → AreOffered after.events
  offered_after none closed offered company unplaced =
      let before = offered company (unplaced_before company unplaced) in
      let fact = least_after closed company in
      omega (arith, ints, shares_of_before game.events event company InitialOffering none)

  -- without a tile or a token the map state fits as before
  fit_kept : tile_laid event ≡ None → token_placed event ≡ None → LiesFit game.events → LiesFit after.events
  unfolding LiesFit
  fit_kept no_tile no_token fit =
      rw (lays_before game.events event no_tile, tokens_before game.events event no_token) fit

  -- without a par value, an office or shares companies are led as before
  is_led_kept : par_set event ≡ None → office_of event ≡ None → transfer_of event ≡ None
      → StayLed game.events after.events
  is_led_kept no_par no_office no_transfer company =
      still_led game.events after.events company (par_of_before game.events event company no_par)
      (president_of_before game.events event company no_office)
      (λ seat _ two. rw (shares_of_before game.events event company (OfSeat seat) no_transfer) two)

  -- so is each with a square, where none is set
  pub led_kept : StayLed game.events after.events → square_set event ≡ None → AreLed game.events
      → AreLed after.events
  led_kept stay none led company square placed =
      stay company (led company square (sym (square_of_before game.events event company none) ∙ placed))

  -- and each that has floated, where none floats
  pub floated_kept : StayLed game.events after.events → floated_by event ≡ None → FloatedAreLed game.events
      → FloatedAreLed after.events
  floated_kept stay none led company floated =
      stay company (led company (sym (is_floated_before game.events event company none) ∙ floated))

-- sound, except perhaps for SV's gift and for who leads the companies
pub record IsNearlySound (game : Game) : Type 0 where
  pub solvent : SeatsAreSolvent game
  pub companies : CompaniesAreSolvent game
  pub within : AreWithin game.seats game.events
  pub bids : BidsStand game
  pub price : IsSvPrice (sv_price_of game.events)
  pub trains : TrainsAreHeld game.events
  pub fit : LiesFit game.events
  pub held : SharesAreHeld game.events
  pub ten : AreTenInAll game
  pub offered : AreOffered game.events

-- a list is sound where SV is given away too, and companies are led
pub sound_of : (game : Game) → IsNearlySound game → IsGivenAway game.events → AreLed game.events
    → FloatedAreLed game.events → IsSound game
sound_of game nearly given led floated =
    record {
      solvent = nearly.solvent;
      companies = nearly.companies;
      bids_differ = nearly.bids.0;
      bids_small = nearly.bids.1;
      seated = nearly.bids.2;
      price = nearly.price;
      given = given;
      held = nearly.held;
      ten = nearly.ten;
      offered = nearly.offered;
      led = led;
      floated = floated;
      within = nearly.within;
      trains = nearly.trains;
      fit = nearly.fit;
    }

-- a sound list is nearly
pub nearly_sound_of : (game : Game) → IsSound game → IsNearlySound game
nearly_sound_of game sound =
    record {
      solvent = sound.solvent;
      companies = sound.companies;
      within = sound.within;
      bids = (sound.bids_differ, sound.bids_small, sound.seated);
      price = sound.price;
      trains = sound.trains;
      fit = sound.fit;
      held = sound.held;
      ten = sound.ten;
      offered = sound.offered;
    }

-- a fact that has to be shown, unless it is kept, and then others
abbrev pub Unless : Bool → Type 0 → Type 0 → Type 0
Unless true Fact Others = Others
Unless false Fact Others = Fact × Others

-- the fact, shown or kept, and the others
shown : {Fact Others : Type 0} (kept : Bool) → (kept ≡ true → Fact) → Unless kept Fact Others → Fact × Others
shown true keep others = (keep refl, others)
shown false keep both = both

-- and another
nones : {A B : Type 0} (word : Option A) (other : Option B) → (is_none word && is_none other) ≡ true
    → (word ≡ None) × (other ≡ None)
nones None other silent = (refl, none_by_is_none other silent)
nones (Some word) other silent = absurd cc

-- what an event has to show to keep a list nearly sound
abbrev pub Shows : Game → Event → Type 0
Shows game event =
    Unless (is_none (payment_of event) && is_none (bidding_of event)) (SeatsAreSolvent (with_event game event))
    (Unless (is_none (payment_of event)) (CompaniesAreSolvent (with_event game event))
    (Unless (is_none (payment_of event)) (IsWithin game.seats (payment_of event))
    (Unless (is_none (bidding_of event)) (BidsStand (with_event game event))
    (Unless (is_none (sv_price_set event)) (IsSvPrice (sv_price_of (game.events ++ event ∷ [])))
    (Unless (is_none (train_moved event)) (TrainsAreHeld (game.events ++ event ∷ []))
    (Unless (is_none (tile_laid event) && is_none (token_placed event)) (LiesFit (game.events ++ event ∷ []))
    (Unless (is_none (transfer_of event)) (SharesAreHeld (game.events ++ event ∷ []))
    (Unless (is_none (transfer_of event)) (AreTenInAll (with_event game event))
    (Unless (is_none (transfer_of event) && is_none (ownership_of event)) (AreOffered (game.events ++ event ∷ []))
    (Unit {0}))))))))))

-- which is enough
pub nearly_sound_after : (game : Game) (event : Event) → Shows game event → IsNearlySound game
    → IsNearlySound (with_event game event)
nearly_sound_after game event shows before =
    let solvent = shown _ (λ silent. let words = nones (payment_of event) (bidding_of event) silent in
    seats_after game event words.1 (rw words.0 before.solvent)) shows in
    let companies = shown _ (λ silent. companies_after game event (rw (none_by_is_none (payment_of event) silent) before.companies))
    solvent.1 in
    let within = shown _ (λ silent. subst (IsWithin game.seats) (sym (none_by_is_none (payment_of event) silent)) tt) companies.1 in
    let bids = shown _ (λ silent. bids_kept game event (none_by_is_none (bidding_of event) silent) before.bids) within.1 in
    let price = shown _ (λ silent. price_kept game event (none_by_is_none (sv_price_set event) silent) before.price) bids.1 in
    let trains = shown _ (λ silent. trains_kept game.events event (none_by_is_none (train_moved event) silent) before.trains)
    price.1 in
    let fit = shown _ (λ silent. let words = nones (tile_laid event) (token_placed event) silent in
    fit_kept game event words.0 words.1 before.fit) trains.1 in
    let held = shown _ (λ silent. held_kept game event (none_by_is_none (transfer_of event) silent) before.held) fit.1 in
    let ten = shown _ (λ silent. ten_kept game event (none_by_is_none (transfer_of event) silent) before.ten) held.1 in
    let offered = shown _ (λ silent. let words = nones (transfer_of event) (ownership_of event) silent in
    offered_after game event words.0 (closed_kept game event words.1) before.offered) ten.1 in
    record {
      solvent = solvent.0;
      companies = companies.0;
      within = within_after game.seats game.events event within.0 before.within;
      bids = bids.0;
      price = price.0;
      trains = trains.0;
      fit = fit.0;
      held = held.0;
      ten = ten.0;
      offered = offered.0;
    }

-- an event says nothing of what leads a company
abbrev pub leaves_leaders : Event → Bool
leaves_leaders event = is_none (par_set event) && (is_none (office_of event) && is_none (transfer_of event))

-- so companies stay led
pub stay_led : (game : Game) (event : Event) → leaves_leaders event ≡ true
    → StayLed game.events (with_event game event).events
stay_led game event silent =
    let par = and_parts (is_none (par_set event)) _ silent in
    let words = nones (office_of event) (transfer_of event) par.1 in
    is_led_kept game event (none_by_is_none (par_set event) par.0) words.0 words.1

-- what an event has to show besides
abbrev pub ShowsMore : Game → Event → Type 0
ShowsMore game event =
    Unless (is_none (sv_price_set event)) (IsGivenAway (game.events ++ event ∷ []))
    (Unless (leaves_leaders event && is_none (square_set event)) (AreLed (game.events ++ event ∷ []))
    (Unless (leaves_leaders event && is_none (floated_by event)) (FloatedAreLed (game.events ++ event ∷ []))
    (Unit {0})))

-- to keep a list sound
pub sound_after : (game : Game) (event : Event) → Shows game event → ShowsMore game event → IsSound game
    → IsSound (with_event game event)
sound_after game event shows more sound =
    let given = shown _ (λ silent. given_kept game event (none_by_is_none (sv_price_set event) silent) sound.given) more in
    let led = shown _ (λ silent. let words = and_parts (leaves_leaders event) _ silent in
    led_kept game event (stay_led game event words.0) (none_by_is_none (square_set event) words.1) sound.led) given.1 in
    let floated = shown _ (λ silent. let words = and_parts (leaves_leaders event) _ silent in
    floated_kept game event (stay_led game event words.0) (none_by_is_none (floated_by event) words.1) sound.floated) led.1 in
    sound_of (with_event game event) (nearly_sound_after game event shows (nearly_sound_of game sound)) given.0 led.0
    floated.0

-- nothing that was laid fits
none_fit : LiesFit []
unfolding LiesFit
none_fit = nothing_fits

-- at first nobody bids
no_bids : (seat : Seat) → bids_of [] seat ≡ 0
no_bids seat = refl

-- and the seats hold nothing
pub holds_none : (company : Company) (seats : List Seat) → held_by [] company seats ≡ pos 0
holds_none company [] = refl
holds_none company (seat ∷ others) = omega (arith, ints, holds_none company others)

-- the least that stays in an initial offering is at most nine
least_low : (company : Company) → least_offered [] company ≤ 9
least_low Pennsylvania = omega arith
least_low NewYorkCentral = omega arith
least_low other = omega arith

-- a game in which nothing has happened is sound
pub start_sound : (seats : ℕ) → IsSound (record { seats = seats; events = [] })
start_sound seats =
    record {
      solvent = λ seat. omega (arith, ints, no_bids seat);
      companies = λ company. omega (arith, ints);
      bids_differ = λ private a b amount of_a of_b. cc;
      bids_small = λ private seat amount bid. absurd (cc);
      seated = λ private seat amount bid. absurd (cc);
      price = inl refl;
      given = λ zero. absurd (omega arith);
      held = λ company place. omega (arith, ints);
      ten = λ company. omega (arith, ints, holds_none company (all_seats seats));
      offered = λ company unplaced. omega (arith, ints, least_low company);
      led = λ company square placed. absurd (cc);
      floated = λ company floated. absurd (cc);
      within = tt;
      trains = no_trains;
      fit = none_fit;
    }
