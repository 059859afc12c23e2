-- Runs, dividends, and trains that are bought, traded in, rusted or discarded keep a list sound; so
-- do a phase that begins and a private that closes.
use Rattle.std.proofs.Common.{◌≡◌, ℕ, Bool, true, false, ◌&&◌, if◌then◌else◌, List, [], ◌∷◌, ◌++◌, Option, Some}
use Rattle.std.proofs.Common.{None, is_some, is_none, refl, ap, ◌∙◌}
use Rattle.std.specs.Option.{option_flatten, option_or}
use Rattle.events.specs.Event.{ownership_of, party_of_seller}
use Rattle.events.specs.declared.event.Event.{Event}
use Rattle.events.specs.declared.event.Event.TheVariants.{Runs, Dividend, Traded, Train, Phase, Rusted, Discarded}
use Rattle.events.specs.declared.event.Event.TheVariants.{Closed}
use Rattle.events.specs.declared.event.Holder.{Holder}
use Rattle.events.specs.declared.event.TrainPlace.TheVariants as place
use Rattle.events.specs.declared.event.TrainSeller.{TrainSeller}
use Rattle.events.specs.declared.event.TrainSeller.TheVariants as seller
use Rattle.totals.proofs.EventAtEnd.{last_said_at_end}
use Rattle.history.proofs.Payments.{can_pay}
use Rattle.history.proofs.Rolling.{trains_after_move, trains_after_sale}
use Rattle.history.proofs.Soundness.{offered_after, paying, sound_after}
use Rattle.history.specs.Laws.{ClosingKeepsSound, DiscardKeepsSound, DividendKeepsSound, PhaseKeepsSound, RunKeepsSound}
use Rattle.history.specs.Laws.{RustingKeepsSound, TradeKeepsSound, TrainPurchaseKeepsSound}
use Rattle.totals.specs.LookBack.{is_closed, last_said, owner_said}
use Rattle.history.specs.Money.{IsParty}
use Rattle.totals.specs.Trains.{IsThere, TrainsAreHeld}
use Rattle.tables.specs.Roster.{same_private}
use Rattle.tables.specs.declared.rolling_stock.Kind.{Kind}
use Rattle.tables.specs.declared.roster.Company.{Company}
use Rattle.tables.specs.declared.roster.Private.{Private}
use Rattle.tables.specs.declared.roster.Private.TheVariants.{MohawkHudson}

-- a run
pub run_sound : RunKeepsSound
run_sound game company revenue = sound_after game (Runs company revenue) tt tt

-- a phase
pub phase_sound : PhaseKeepsSound
phase_sound game kind = sound_after game (Phase kind) tt tt

-- a dividend
pub dividend_sound : DividendKeepsSound
dividend_sound game company paid amount party sound =
    sound_after game (Dividend company paid amount)
    (paying game _ refl sound.solvent sound.companies (tt, party) tt) tt sound

-- after a train that is there has gone to the company that buys it
pub came_held : (events : List Event) (company : Company) (kind : Kind) (from : TrainSeller) (price : ℕ)
    → IsThere events from kind → TrainsAreHeld events → TrainsAreHeld (events ++ Train company kind from price ∷ [])
came_held events company kind seller.Bank price there held =
    trains_after_sale events (Train company kind seller.Bank price) kind (place.Company company) refl there held
came_held events company kind seller.BankPool price there held =
    trains_after_move events (Train company kind seller.BankPool price) None kind (place.Company company) refl there
    held
came_held events company kind (seller.Company from) price there held =
    trains_after_move events (Train company kind (seller.Company from) price) (Some from) kind (place.Company company)
    refl there held

-- who sells a train is a party of the game
seller_is_party : (seats : ℕ) (from : TrainSeller) → IsParty seats (party_of_seller from)
seller_is_party seats seller.Bank = tt
seller_is_party seats seller.BankPool = tt
seller_is_party seats (seller.Company from) = tt

-- the purchase of a train
pub train_purchase_sound : TrainPurchaseKeepsSound
train_purchase_sound game company kind from price there enough sound =
    sound_after game (Train company kind from price) (paying game _ refl sound.solvent
    (λ other. can_pay game company other price enough sound.companies) (tt, seller_is_party game.seats from)
    (came_held game.events company kind from price there sound.trains, tt)) tt sound

-- a train that is traded in
pub trade_sound : TradeKeepsSound
trade_sound game company kind has sound =
    sound_after game (Traded company kind)
    (trains_after_move game.events _ (Some company) kind place.BankPool refl has sound.trains, tt) tt sound

-- one that is discarded
pub discard_sound : DiscardKeepsSound
discard_sound game company kind has sound =
    sound_after game (Discarded company kind)
    (trains_after_move game.events _ (Some company) kind place.BankPool refl has sound.trains, tt) tt sound

-- one that rusts
pub rusting_sound : RustingKeepsSound
rusting_sound game owner kind has sound =
    sound_after game (Rusted owner kind)
    (trains_after_move game.events _ owner kind place.OutOfPlay refl has sound.trains, tt) tt sound

-- a private stays closed once that is said of one again
closed_still : (same : Bool) (word : Option (Option Holder)) → (is_some word && is_none (option_flatten word)) ≡ true
    → (is_some (option_or (if same then Some None else None) word)
    && is_none (option_flatten (option_or (if same then Some None else None) word))) ≡ true
closed_still true word closed = refl
closed_still false word closed = closed

-- so MH does
stays_closed : (events : List Event) (private : Private) → is_closed events MohawkHudson ≡ true
    → is_closed (events ++ Closed private ∷ []) MohawkHudson ≡ true
stays_closed events private closed =
    ap (λ (word : Option (Option Holder)). is_some word && is_none (option_flatten word))
    (last_said_at_end (λ e. owner_said MohawkHudson (ownership_of e)) events (Closed private))
    ∙ closed_still (same_private private MohawkHudson)
    (last_said (λ e. owner_said MohawkHudson (ownership_of e)) events) closed

-- a private that closes
pub closing_sound : ClosingKeepsSound
closing_sound game private sound =
    sound_after game (Closed private)
    (offered_after game (Closed private) refl (stays_closed game.events private) sound.offered, tt) tt sound
