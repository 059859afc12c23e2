-- Sales of shares, after which somebody presides who has two.
use Rattle.std.proofs.Common.{◌≡◌, ℕ, ◌*◌, ◌≤◌, ◌<◌, ◌==◌, ◌⊎◌, inl, inr, Bool, true, false, not, ◌&&◌, ◌||◌}
use Rattle.std.proofs.Common.{if◌then◌else◌, List, [], ◌∷◌, ◌++◌, Option, Some, None, is_some, ℤ, pos, ◌≤ℤ◌, ◌-ℤ◌, ◌+ℤ◌}
use Rattle.std.proofs.Common.{refl, sym, subst, ap, ◌∙◌, arith}
use Rattle.std.proofs.lemmas.Bool.Decides.{nat_tests}
use Rattle.std.proofs.lemmas.Int.{ints}
use Rattle.std.specs.Int.Signed.{lt_z}
use Rattle.std.proofs.lemmas.Bool.{or_parts}
use Rattle.certs.proofs.Presidents.{most_le}
use Rattle.certs.specs.Counted.{presides}
use Rattle.certs.specs.President.{others_from, seat_shares_of, successor_of}
use Rattle.certs.specs.Purchase.{market_price_of}
use Rattle.certs.specs.Sale.{is_not_held, kept_after, none_is_left, must_stay, one_has}
use Rattle.certs.specs.declared.share_deal.Sale.{Sale}
use Rattle.events.specs.declared.event.Event.{Event}
use Rattle.events.specs.declared.event.Event.TheVariants as event
use Rattle.events.specs.declared.event.Shareholder.TheVariants.{Seat as OfSeat}
use Rattle.totals.proofs.EventAtEnd.{president_of_before, shares_of_at_end, shares_of_before}
use Rattle.history.proofs.Blocks.{block_sound, block_with_succession_sound}
use Rattle.history.specs.Laws.{block_sold}
use Rattle.totals.specs.LookBack.{Game, with_events}
use Rattle.totals.specs.Shares.{is_started, president_of, square_of}
use Rattle.history.specs.Sound.{IsLed, IsSound}
use Rattle.history.specs.Record.{breaks, with_broken}
use Rattle.certs.proofs.Others.{another_leads}
use Rattle.certs.specs.SaleAct.{MaySell, sold, succeeded, with_president, with_successor}
use Rattle.tables.specs.Roster.{same_company}
use Rattle.tables.specs.Seat.{seat_at}
use Rattle.tables.specs.declared.roster.Company.{Company}
use Rattle.tables.specs.declared.seat.Seat.{Seat}
use Rattle.tables.specs.declared.squares.Square.{Square}
use Rattle.history.specs.Games.{IsGame}
use Rattle.tables.proofs.Companies.{company_itself}

-- a company that is started is led
pub started_is_led : (game : Game) (company : Company) → is_started game.events company ≡ true → IsSound game
    → IsLed game.events company
started_is_led game company started sound =
    elim (square_of game.events company) as (λ (found : Option Square). square_of game.events company ≡ found
    → is_some found ≡ true → IsLed game.events company) [
      | None ↦ λ is has. absurd (cc)
      | Some square ↦ λ is has. sound.led company square is
    ]
    refl started

-- that the bank is broken changes no shares
shares_broken : (seats : ℕ) (events : List Event) (company : Company) (seat : Seat)
    → seat_shares_of (with_broken seats events) company seat ≡ seat_shares_of events company seat
shares_broken seats events company seat =
    elim (breaks seats events) as (λ (b : Bool). seat_shares_of (if b then events ++ event.Broken ∷ [] else events)
    company seat ≡ seat_shares_of events company seat) [
      | true ↦ shares_of_before events event.Broken company (OfSeat seat) refl
      | false ↦ refl
    ]

-- and no president
president_broken : (seats : ℕ) (events : List Event) (company : Company)
    → president_of (with_broken seats events) company ≡ president_of events company
president_broken seats events company =
    elim (breaks seats events) as (λ (b : Bool). president_of (if b then events ++ event.Broken ∷ [] else events)
    company ≡ president_of events company) [
      | true ↦ president_of_before events event.Broken company refl
      | false ↦ refl
    ]

-- what a sale of this many shares takes from a seat
taken : (same by : Bool) (held : ℤ) (shares : ℕ) → same ≡ true
    → ((held +ℤ pos (if same then 0 else 0)) -ℤ pos (if same then (if by then shares else 0) else 0))
    ≡ (held -ℤ pos (if by then shares else 0))
taken true by held shares is = omega (arith, ints)
taken false by held shares is = absurd (cc)

-- the shares of a seat after a sale
shares_sold : (game : Game) (company : Company) (seat : Seat) (shares price : ℕ) (other : Seat)
    → seat_shares_of (block_sold game company seat shares price).events company other
    ≡ (seat_shares_of game.events company other -ℤ pos (if seat.0 == other.0 then shares else 0))
shares_sold game company seat shares price other =
    shares_broken game.seats (game.events ++ event.Sells company seat shares price ∷ []) company other
    ∙ shares_of_at_end game.events (event.Sells company seat shares price) company (OfSeat other)
    ∙ taken (same_company company company) (seat.0 == other.0) (seat_shares_of game.events company other) shares
    (company_itself company)

-- a sale changes no president
president_sold : (game : Game) (company : Company) (seat : Seat) (shares price : ℕ)
    → president_of (block_sold game company seat shares price).events company ≡ president_of game.events company
president_sold game company seat shares price =
    president_broken game.seats (game.events ++ event.Sells company seat shares price ∷ []) company
    ∙ president_of_before game.events (event.Sells company seat shares price) company refl

-- a seat that sells nothing keeps what it has
untaken : (seat other : Seat) (held : ℤ) (shares : ℕ) → (seat.0 == other.0) ≡ false
    → (held -ℤ pos (if seat.0 == other.0 then shares else 0)) ≡ held
untaken seat other held shares apart = rw apart (omega (arith, ints))

-- the shares of another seat stay
shares_apart : (game : Game) (company : Company) (seat : Seat) (shares price : ℕ) (other : Seat)
    → (seat.0 == other.0) ≡ false → seat_shares_of (block_sold game company seat shares price).events company other
    ≡ seat_shares_of game.events company other
shares_apart game company seat shares price other apart =
    shares_sold game company seat shares price other
    ∙ untaken seat other (seat_shares_of game.events company other) shares apart

-- a president who may sell keeps two shares, or another seat has two
keeps_or_another : (short another : Bool) → ((short && not another) || false) ≡ false
    → (short ≡ false) ⊎ (another ≡ true)
keeps_or_another true true kept = inr refl
keeps_or_another true false kept = absurd (cc)
keeps_or_another false another kept = inl refl

-- the test of one who presides
presiding : (is : Bool) (rest : Bool) → is ≡ true → (is && rest) ≡ false → rest ≡ false
presiding true rest so kept = kept
presiding false rest so kept = absurd (cc)

-- who presides after a sale of another seat has two shares
led_by_other : (game : Game) (company : Company) (seat : Seat) (shares price : ℕ) (old : Seat)
    → (seat.0 == old.0) ≡ false → president_of game.events company ≡ Some old → IsLed game.events company
    → pos 2 ≤ℤ seat_shares_of (block_sold game company seat shares price).events company old
led_by_other game company seat shares price old apart is led =
    let one : Some led.president ≡ Some old = sym led.has_president ∙ is in
    let same : led.president ≡ old = cc in
    subst (λ (n : ℤ). pos 2 ≤ℤ n) (sym (shares_apart game company seat shares price old apart))
    (subst (λ (s : Seat). pos 2 ≤ℤ seat_shares_of game.events company s) same led.holds_two)

-- who presides after a sale has two shares
pub successor_has_two : (game : Game) (seat : Seat) (sale : Sale) (price : ℕ) (old : Seat) → game.seats ≤ 6
    → seat.0 < game.seats → MaySell game seat sale → IsSound game
    → president_of game.events sale.company ≡ Some old
    → pos 2 ≤ℤ seat_shares_of (block_sold game sale.company seat sale.shares price).events sale.company
    (successor_of game.seats (block_sold game sale.company seat sale.shares price).events sale.company old)
unfolding must_stay
successor_has_two game seat sale price old few within may sound is =
    let company = sale.company in
    let after : List Event = (block_sold game company seat sale.shares price).events in
    let most = most_le (seat_shares_of after company) old (others_from game.seats old) in
    elim (seat.0 == old.0) as (λ (b : Bool). (seat.0 == old.0) ≡ b
    → pos 2 ≤ℤ seat_shares_of after company (successor_of game.seats after company old)) [
      | false ↦ λ apart.
          let two = led_by_other game company seat sale.shares price old apart is
          (started_is_led game company may.started sound) in
          omega (arith, ints, most, two)
      | true ↦ λ same.
          let number : seat.0 ≡ old.0 = grind (arith, nat_tests, same) in
          let one : seat ≡ old = ap seat_at number in
          let itself : presides seat (president_of game.events company) ≡ true =
          ap (presides seat) is ∙ grind (arith, nat_tests, number) in
          let kept = presiding (presides seat (president_of game.events company))
          (none_is_left game.seats game.events seat sale || false) itself may.leaves in
          elim (keeps_or_another (lt_z (kept_after game.events seat sale) (pos 2))
          (one_has game.events company (pos 2) (others_from game.seats seat)) kept) [
            | inl keeps ↦
                let left = shares_sold game company seat sale.shares price old in
                let mine : seat_shares_of game.events company old ≡ seat_shares_of game.events company seat =
                ap (seat_shares_of game.events company) (sym one) in
                let two : pos 2 ≤ℤ seat_shares_of after company old =
                grind (arith, ints, nat_tests, left, mine, keeps, same) in
                omega (arith, ints, most, two)
            | inr another ↦
                subst (λ (s : Seat). pos 2 ≤ℤ seat_shares_of after company (successor_of game.seats after company s))
                one
                (another_leads game.seats game.events company (pos 2) (seat_shares_of after company) seat few within
                (shares_apart game company seat sale.shares price) another)
          ]
    ]
    refl

-- the list after a sale and the presidency that follows from it
succeeded_sound : (game : Game) (seat : Seat) (sale : Sale) (price : ℕ) (old : Seat) → game.seats ≤ 6
    → seat.0 < game.seats → MaySell game seat sale → IsSound game
    → president_of game.events sale.company ≡ Some old
    → IsSound (record {
      seats = game.seats;
      events =
          succeeded (block_sold game sale.company seat sale.shares price).events sale.company old
          (successor_of game.seats (block_sold game sale.company seat sale.shares price).events sale.company old);
    })
unfolding is_not_held
succeeded_sound game seat sale price old few within may sound is =
    let company = sale.company in
    let after : List Event = (block_sold game company seat sale.shares price).events in
    let new = successor_of game.seats after company old in
    let two = successor_has_two game seat sale price old few within may sound is in
    let short : lt_z (seat_shares_of game.events company seat) (pos sale.shares) ≡ false =
    (or_parts (sale.shares == 0) (lt_z (seat_shares_of game.events company seat) (pos sale.shares)) may.held).1 in
    let held : pos sale.shares ≤ℤ seat_shares_of game.events company seat = grind (arith, ints, short) in
    elim (new.0 == old.0) as (λ (b : Bool). (new.0 == old.0) ≡ b
    → IsSound (record {
      seats = game.seats;
      events =
          if b then after else after ++ event.President company new ∷ [];
    })) [
      | true ↦ λ same.
          let number : new.0 ≡ old.0 = grind (arith, nat_tests, same) in
          let one : new ≡ old = ap seat_at number in
          let stays : (president : Seat) → president_of game.events company ≡ Some president
          → pos 2 ≤ℤ seat_shares_of after company president =
          λ president has.
          let both : Some old ≡ Some president = sym is ∙ has in
          let is_old : old ≡ president = cc in
          subst (λ (s : Seat). pos 2 ≤ℤ seat_shares_of after company s) (one ∙ is_old) two
          in
          block_sound game company seat sale.shares price within held stays sound
      | false ↦ λ apart. block_with_succession_sound game company seat sale.shares price new within held two sound
    ]
    refl

-- a sale without a president
unled_sound : (game : Game) (seat : Seat) (sale : Sale) (price : ℕ) → seat.0 < game.seats
    → MaySell game seat sale → IsSound game → president_of game.events sale.company ≡ None
    → IsSound (block_sold game sale.company seat sale.shares price)
unfolding is_not_held
unled_sound game seat sale price within may sound none =
    let company = sale.company in
    let short : lt_z (seat_shares_of game.events company seat) (pos sale.shares) ≡ false =
    (or_parts (sale.shares == 0) (lt_z (seat_shares_of game.events company seat) (pos sale.shares)) may.held).1 in
    let held : pos sale.shares ≤ℤ seat_shares_of game.events company seat = grind (arith, ints, short) in
    block_sound game company seat sale.shares price within held
    (λ president has. let no : None ≡ Some president = sym none ∙ has in absurd (cc)) sound

-- after a sale and the presidency that follows from it a list is sound
pub sale_led : (game : Game) (seat : Seat) (sale : Sale) (price : ℕ) → game.seats ≤ 6 → seat.0 < game.seats
    → MaySell game seat sale → IsSound game
    → IsSound (with_president (block_sold game sale.company seat sale.shares price) sale.company)
sale_led game seat sale price few within may sound =
    let company = sale.company in
    let after : Game = block_sold game company seat sale.shares price in
    let same = president_sold game company seat sale.shares price in
    subst (λ (found : Option Seat). IsSound (with_events after (with_successor after company found))) (sym same)
    (elim (president_of game.events company) as (λ (found : Option Seat). president_of game.events company ≡ found
    → IsSound (with_events after (with_successor after company found))) [
      | None ↦ λ is. unled_sound game seat sale price within may sound is
      | Some old ↦ λ is. succeeded_sound game seat sale price old few within may sound is
    ]
    refl)

-- so it is step by step
pub sold_game : (game paid led : Game) (seat : Seat) (sale : Sale) → seat.0 < game.seats → MaySell game seat sale
    → IsGame game → paid ≡ sold game seat sale.company sale.shares → led ≡ with_president paid sale.company
    → IsGame led
sold_game game paid led seat sale within may before is_paid is_led =
    let price = sale.shares * market_price_of game.events sale.company in
    subst IsGame (sym (is_led ∙ ap (λ (game : Game). with_president game sale.company) is_paid))
    (record { few = before.few; sound = sale_led game seat sale price before.few within may before.sound })
