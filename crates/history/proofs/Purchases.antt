-- A purchase of shares keeps a list sound; so do the start of a company by a purchase, and MH's
-- exchange.
use Rattle.std.proofs.Common.{◌≡◌, ℕ, ◌≤◌, ◌<◌, Bool, true, if◌then◌else◌, ◌&&◌, List, [], ◌∷◌, ◌++◌, Option}
use Rattle.std.proofs.Common.{Some, None, is_some, is_none, pos, ◌≤ℤ◌, refl, sym, ap, ◌∙◌, arith}
use Rattle.std.proofs.lemmas.Int.{ints}
use Rattle.std.specs.Option.{option_flatten}
use Rattle.events.specs.Event.{ownership_of, party_at, place_of_source}
use Rattle.events.specs.declared.event.Event.{Event}
use Rattle.events.specs.declared.event.Event.TheVariants.{Bought, Exchanged, Par}
use Rattle.events.specs.declared.event.Holder.{Holder}
use Rattle.events.specs.declared.event.Shareholder.TheVariants.{InitialOffering, Seat as OfSeat}
use Rattle.events.specs.declared.event.Transfer.{Transfer}
use Rattle.totals.proofs.EventAtEnd.{bids_of_before, cash_of_before, last_said_at_end}
use Rattle.history.proofs.ShareCount.{EnoughAreLeft, bank_at_table, gain_leads, left_after, move_shows}
use Rattle.history.proofs.ShareCount.{source_of_bank}
use Rattle.history.proofs.Payments.{can_afford}
use Rattle.history.proofs.PrivateActs.{not_closed}
use Rattle.history.proofs.Soundness.{IsNearlySound, Shows, least_after, nearly_sound_of, paying}
use Rattle.history.proofs.Soundness.{sound_after, unplaced_before}
use Rattle.history.proofs.Starts.{start_sound_by}
use Rattle.history.proofs.ShareCount.{held_after, moved, part, shares_after, ten_after}
use Rattle.totals.specs.Bids.{free_cash_of}
use Rattle.history.specs.Laws.{ExchangeKeepsSound, PurchaseKeepsSound, StartByPurchaseKeepsSound}
use Rattle.totals.specs.LookBack.{Game, is_closed, last_said, owner_of, owner_said, with_event}
use Rattle.totals.specs.Shares.{shares_of}
use Rattle.history.specs.Sound.{least_offered}
use Rattle.order_grammar.specs.declared.order.ShareSource.{ShareSource}
use Rattle.order_grammar.specs.declared.order.ShareSource.TheVariants as source
use Rattle.tables.specs.declared.roster.Company.{Company}
use Rattle.tables.specs.declared.roster.Company.TheVariants.{NewYorkCentral}
use Rattle.tables.specs.declared.roster.Private.TheVariants.{MohawkHudson}
use Rattle.tables.specs.declared.seat.Seat.{Seat}

-- the shares of a purchase
abbrev purchase : Company → Seat → ℕ → ShareSource → Transfer
purchase company seat shares from = record {
  company = company;
  from = place_of_source from;
  to =
      OfSeat seat;
  shares = shares;
}

-- nothing goes either way
part_of_none : (from : ShareSource) (shares : ℕ) → shares ≡ 0 → part (place_of_source from) InitialOffering shares ≡ 0
part_of_none source.InitialOffering shares none = none
part_of_none source.BankPool shares none = refl

-- what a purchase has to show by a seat at the table that has the price free of its bids
purchase_shows : (game : Game) (company : Company) (seat : Seat) (shares : ℕ) (from : ShareSource) (price : ℕ)
    → seat.0 < game.seats → pos price ≤ℤ free_cash_of game.seats game.events seat
    → pos shares ≤ℤ shares_of game.events company (place_of_source from)
    → EnoughAreLeft game.events (purchase company seat shares from) → IsNearlySound game
    → Shows game (Bought company seat shares from price)
purchase_shows game company seat shares from price seated affordable many enough before =
    paying game _ refl (λ by. can_afford game seat by price affordable before.solvent) before.companies (seated, tt)
    (move_shows game (Bought company seat shares from price) (purchase company seat shares from) refl refl
    (bank_at_table game.seats (place_of_source from) (source_of_bank from)) seated many enough before)

-- a purchase by such a seat
pub purchase_sound : PurchaseKeepsSound
purchase_sound game company seat shares from price square started seated many affordable sound =
    sound_after game (Bought company seat shares from price)
    (purchase_shows game company seat shares from price seated affordable many
    (left_after game.events (purchase company seat shares from)
    (λ unplaced. absurd (let has : Some square ≡ None = sym started ∙ unplaced in cc)) sound.offered) (nearly_sound_of game sound))
    (gain_leads game (Bought company seat shares from price) (purchase company seat shares from) refl
    (source_of_bank from) refl refl refl refl sound) sound

-- the president's two shares are bought
pub start_by_purchase_sound : StartByPurchaseKeepsSound
start_by_purchase_sound game company seat price cost is_par unplaced seated affordable =
    let par = with_event game (Par company price) in
    let cash = cash_of_before game.seats game.events (Par company price) (party_at seat) refl in
    let free : pos cost ≤ℤ free_cash_of par.seats par.events seat =
    omega (arith, ints, cash, bids_of_before game.events (Par company price) seat refl) in
    start_sound_by game company seat price (Bought company seat 2 source.InitialOffering cost) refl refl refl refl
    refl refl (purchase_shows par company seat 2 source.InitialOffering cost seated free) is_par unplaced

-- the share of an exchange
abbrev exchange : Seat → ShareSource → Transfer
exchange seat from = record { company = NewYorkCentral; from = place_of_source from; to = OfSeat seat; shares = 1 }

-- MH is closed by it
closed_after : (events : List Event) (seat : Seat) (from : ShareSource)
    → is_closed (events ++ Exchanged seat from ∷ []) MohawkHudson ≡ true
closed_after events seat from =
    ap (λ (word : Option (Option Holder)). is_some word && is_none (option_flatten word))
    (last_said_at_end (λ e. owner_said MohawkHudson (ownership_of e)) events (Exchanged seat from))

-- at most one share of the offering goes
one_goes : (from : ShareSource) (seat : Seat) → part (place_of_source from) InitialOffering
    (moved NewYorkCentral (exchange seat from)) ≤ 1
one_goes source.InitialOffering seat = omega arith
one_goes source.BankPool seat = omega arith

-- enough are left of each company: of NYC one fewer is to stay
enough_after_exchange : (game : Game) (seat : Seat) (from : ShareSource) (owner : Holder) (company : Company)
    → owner_of game.events MohawkHudson ≡ Some owner → pos (least_offered game.events company) ≤ℤ shares_of game.events
    company InitialOffering → pos (least_offered (game.events ++ Exchanged seat from ∷ []) company) ≤ℤ shares_of
    (game.events ++ Exchanged seat from ∷ []) company InitialOffering
enough_after_exchange game seat from owner NewYorkCentral has before =
    let nine : least_offered game.events NewYorkCentral ≡ 9 = ap (λ (closed : Bool). if closed then 8 else 9)
    (not_closed (last_said (λ e. owner_said MohawkHudson (ownership_of e)) game.events) owner has) in
    let eight : least_offered (game.events ++ Exchanged seat from ∷ []) NewYorkCentral ≡ 8 =
    ap (λ (closed : Bool). if closed then 8 else 9) (closed_after game.events seat from) in
    let fact = shares_after game.events (Exchanged seat from) (exchange seat from) NewYorkCentral InitialOffering refl in
    omega (arith, ints, one_goes from seat)
enough_after_exchange game seat from owner other has before =
    let fact = least_after game (Exchanged seat from) (λ _. closed_after game.events seat from) other in
    let other_fact = shares_after game.events (Exchanged seat from) (exchange seat from) other InitialOffering refl in
    omega (arith, ints, part_of_none from (moved other (exchange seat from)) refl)

-- MH's exchange
pub exchange_sound : ExchangeKeepsSound
exchange_sound game seat from owner seated many sound =
    let bank = source_of_bank from in
    sound_after game (Exchanged seat from) (
      held_after game.events (Exchanged seat from) (exchange seat from) refl many sound.held,
      (
        ten_after game (Exchanged seat from) (exchange seat from) refl
            (bank_at_table game.seats (place_of_source from) bank) seated sound.ten,
        (
          λ company unplaced. enough_after_exchange game seat from _ company owner
              (sound.offered company (unplaced_before game (Exchanged seat from) company unplaced)),
          tt,
        ),
      ),
    ) (gain_leads game (Exchanged seat from) (exchange seat from) refl bank refl refl refl refl sound) sound
