-- A bid, a sale, a revenue or a new price of SV keeps a list sound.
use Rattle.std.proofs.Common.{◌==◌, ◌≤◌, ◌≡◌, ℕ, ◌<◌, inl, inr, Bool, true, false, if◌then◌else◌, [], ◌∷◌, ◌++◌, Option}
use Rattle.std.proofs.Common.{Some, None, is_some, is_none, ◌&&◌, pos, ◌≤ℤ◌, List, refl, sym, subst, ap, ◌∙◌, arith}
use Rattle.std.proofs.lemmas.Int.{ints}
use Rattle.std.specs.Option.{option_flatten}
use Rattle.std.proofs.lemmas.Bool.{cases_Bool}
use Rattle.events.specs.Event.{ownership_of, party_at}
use Rattle.events.specs.declared.event.Event.{Event}
use Rattle.events.specs.declared.event.Event.TheVariants.{Bids, Sold, Price, Revenue}
use Rattle.events.specs.declared.event.Holder.{Holder}
use Rattle.events.specs.declared.event.Holder.TheVariants as holder
use Rattle.totals.proofs.Privates.{same_private_is}
use Rattle.history.proofs.BidWords.{bid_silent, bids_after_sale, differ_after_bid, elsewhere_kept, sale_silent}
use Rattle.history.proofs.BidWords.{same_seat_is}
use Rattle.history.proofs.BidWords.{seated_after_bid, small_after_bid, tied_by_bid, untied_by_sale}
use Rattle.totals.proofs.EventAtEnd.{cash_of_at_end, cash_of_before, is_sold_before, last_said_at_end}
use Rattle.totals.proofs.EventAtEnd.{last_said_before, sv_price_of_at_end}
pub use Rattle.history.proofs.Soundness.{stays_sold}
use Rattle.history.proofs.Soundness.{IsNearlySound, Shows, companies_after, floated_kept, led_kept, nearly_sound_after}
use Rattle.history.proofs.Soundness.{nearly_sound_of, offered_after, paying, sound_after, sound_of, stay_led}
use Rattle.history.proofs.Money.{owner_is_party}
use Rattle.totals.proofs.Standing.{bids_split}
use Rattle.totals.specs.Bids.{free_for, tied_on}
use Rattle.history.specs.Laws.{BidKeepsSound, PriceKeepsSound, RevenueKeepsSound, SaleKeepsSound, SvIsGivenAway}
use Rattle.totals.specs.LookBack.{Game, is_closed, is_sold, owner_of, owner_said, sv_price_of, with_event}
use Rattle.history.specs.Sound.{IsSvPrice, SeatsAreSolvent}
use Rattle.tables.specs.Roster.{same_private}
use Rattle.tables.specs.declared.roster.Private.{Private}
use Rattle.tables.specs.declared.roster.Private.TheVariants.{SchuylkillValley, MohawkHudson}
use Rattle.tables.specs.declared.seat.Seat.{Seat}

-- a sum of a seat, or otherwise no more than was tied, is free of the other bids
free_by : (game : Game) (private : Private) (seat by : Seat) (sum rest : ℕ)
    → pos sum ≤ℤ free_for game.seats game.events seat private → SeatsAreSolvent game → rest ≤ tied_on game.events by private
    → pos (if seat.0 == by.0 then sum else rest) ≤ℤ free_for game.seats game.events by private
free_by game private seat by sum rest affordable solvent low =
    elim (cases_Bool (seat.0 == by.0)) [
      | inl same ↦ rw same (rw (← (same_seat_is seat by same)) affordable)
      | inr apart ↦
          let before = solvent by in
          rw apart (omega (arith, ints, bids_split game.events by private))
    ]

-- after a bid each seat still has what its bids tie
solvent_after_bid : (game : Game) (private : Private) (seat : Seat) (amount : ℕ)
    → pos amount ≤ℤ free_for game.seats game.events seat private → SeatsAreSolvent game
    → SeatsAreSolvent (with_event game (Bids private seat amount))
solvent_after_bid game private seat amount affordable solvent by =
    let bid = Bids private seat amount in
    let cash = cash_of_before game.seats game.events bid (party_at by) refl in
    let split = bids_split (game.events ++ bid ∷ []) by private in
    let elsewhere = elsewhere_kept game.events bid by private (bid_silent private seat amount by) in
    let free = free_by game private seat by amount (tied_on game.events by private) affordable solvent (omega arith) in
    omega (arith, ints, tied_by_bid game.events private seat amount by)

-- a bid of a seat that has its sum free of other bids
pub bid_sound : BidKeepsSound
bid_sound game private seat amount low seated apart affordable sound =
    sound_after game (Bids private seat amount) (
      solvent_after_bid game private seat amount affordable sound.solvent,
      (
        (
          differ_after_bid game.events private seat amount apart sound.bids_differ,
          small_after_bid game.events private seat amount low sound.bids_small,
          seated_after_bid game.seats game.events private seat amount seated sound.seated,
        ),
        tt,
      ),
    ) tt sound

-- after a sale each seat still has what its bids tie
solvent_after_sale : (game : Game) (private : Private) (seat : Seat) (price : ℕ)
    → pos price ≤ℤ free_for game.seats game.events seat private → SeatsAreSolvent game
    → SeatsAreSolvent (with_event game (Sold private seat price))
solvent_after_sale game private seat price affordable solvent by =
    let sale = Sold private seat price in
    let cash = cash_of_at_end game.seats game.events sale (party_at by) in
    let split = bids_split (game.events ++ sale ∷ []) by private in
    let elsewhere = elsewhere_kept game.events sale by private (sale_silent private seat price by) in
    let free = free_by game private seat by price 0 affordable solvent (omega arith) in
    omega (arith, ints, untied_by_sale game.events private seat price by)

-- a private that is closed stays so where one that is not gets an owner
pub stays_closed : (events : List Event) (event : Event) (owned private : Private) (owner : Holder)
    → owner_said private (ownership_of event) ≡ (if same_private owned private then Some (Some owner) else None)
    → is_closed events owned ≡ false → is_closed events private ≡ true
    → is_closed (events ++ event ∷ []) private ≡ true
stays_closed events event owned private owner says standing closed =
    elim (cases_Bool (same_private owned private)) [
      | inl same ↦
          let still : is_closed events private ≡ false =
          ap (is_closed events) (sym (same_private_is owned private same)) ∙ standing in
          let both : true ≡ false = sym closed ∙ still in
          absurd (cc)
      | inr apart ↦
          ap (λ (word : Option (Option Holder)). is_some word && is_none (option_flatten word))
          (last_said_before (λ e. owner_said private (ownership_of e)) _ events event refl
          (says ∙ ap (λ (same : Bool). if same then Some (Some owner) else None) apart)) ∙ closed
    ]

-- what a sale of an unsold private has to show
sale_shows : (game : Game) (private : Private) (seat : Seat) (price : ℕ) → is_sold game.events private ≡ false
    → seat.0 < game.seats → pos price ≤ℤ free_for game.seats game.events seat private → IsNearlySound game → Shows game (Sold private seat price)
sale_shows game private seat price unsold seated affordable before = (
  solvent_after_sale game private seat price affordable before.solvent,
  (
    companies_after game (Sold private seat price) before.companies,
    (
      (seated, tt),
      (
        bids_after_sale game private seat price before.bids,
        (
          offered_after game (Sold private seat price) refl (stays_closed game.events (Sold private seat price)
              private MohawkHudson (holder.Seat seat) refl
              (ap (λ (sold : Bool). sold && is_none (owner_of game.events private)) unsold)) before.offered,
          tt,
        ),
      ),
    ),
  ),
)

-- a sale to a seat at the table that has the price free of other bids
pub sale_sound : SaleKeepsSound
sale_sound game private seat price unsold seated affordable sound =
    sound_after game (Sold private seat price)
    (sale_shows game private seat price unsold seated affordable (nearly_sound_of game sound)) tt sound

-- a revenue of the bank to the owner of a private
pub revenue_sound : RevenueKeepsSound
revenue_sound game private owner amount owns sound =
    sound_after game (Revenue private owner amount)
    (paying game _ refl sound.solvent sound.companies (tt, owner_is_party game private owner sound owns) tt) tt sound

-- a new price of SV, which is 0 only once SV is sold
pub price_sound : PriceKeepsSound
price_sound game price some given sound =
    let set : sv_price_of (game.events ++ Price price ∷ []) ≡ price = sv_price_of_at_end game.events (Price price) in
    sound_after game (Price price) (subst IsSvPrice (sym set) some, tt)
    (λ none. stays_sold game.events (Price price) SchuylkillValley (given (sym set ∙ none)), tt) sound

-- SV, once its price is 0, is given away to a seat at the table
pub gift_sound : SvIsGivenAway
gift_sound game seat unsold seated sound =
    let priced = with_event game (Price 0) in
    let sale = Sold SchuylkillValley seat 0 in
    let set : sv_price_of priced.events ≡ 0 = sv_price_of_at_end game.events (Price 0) in
    let before = nearly_sound_after game (Price 0) (subst IsSvPrice (sym set) (inr (inr (inr (inr refl)))), tt)
    (nearly_sound_of game sound) in
    let has = before.solvent seat in
    let still : is_sold priced.events SchuylkillValley ≡ false =
    is_sold_before game.events (Price 0) SchuylkillValley refl ∙ unsold in
    sound_of (with_event priced sale)
    (nearly_sound_after priced sale (sale_shows priced SchuylkillValley seat 0 still seated
    (omega (arith, ints, bids_split priced.events seat SchuylkillValley)) before) before)
    (λ none. ap is_some (last_said_at_end (λ e. owner_said SchuylkillValley (ownership_of e)) priced.events sale))
    (led_kept priced sale (stay_led priced sale refl) refl
    (led_kept game (Price 0) (stay_led game (Price 0) refl) refl sound.led))
    (floated_kept priced sale (stay_led priced sale refl) refl
    (floated_kept game (Price 0) (stay_led game (Price 0) refl) refl sound.floated))
