-- MH that is given up for a share of NYC.
use Rattle.std.proofs.Common.{◌≡◌, ℕ, ◌<◌, Bool, true, false, not, ◌||◌, ◌&&◌, if◌then◌else◌, List, Option, Some}
use Rattle.std.proofs.Common.{None, ℤ, pos, ◌≤ℤ◌, ◌+ℤ◌, refl, sym, subst, ap, ◌∙◌, arith}
use Rattle.std.proofs.lemmas.Bool.Decides.{nat_tests}
use Rattle.std.proofs.lemmas.Int.{ints}
use Rattle.std.specs.Int.Signed.{lt_z}
use Rattle.certs.specs.Purchase.{holds_in_zone, is_over_six, lifts_six}
use Rattle.events.specs.Event.{place_of_source}
use Rattle.events.specs.RuleCodes.{code_of_stock_rule}
use Rattle.events.specs.declared.event.Event.{Event}
use Rattle.events.specs.declared.event.Event.TheVariants as event
use Rattle.events.specs.declared.event.Holder.{Holder}
use Rattle.events.specs.declared.event.Holder.TheVariants as holder
use Rattle.events.specs.declared.event.Shareholder.TheVariants.{InitialOffering, BankPool, Seat as OfSeat}
use Rattle.events.specs.declared.ruling.StockRule.TheVariants.{NoExchange}
use Rattle.history.proofs.Purchases.{exchange_sound as exchange_law}
use Rattle.totals.specs.AtEnd.{SaysTheSame}
use Rattle.totals.specs.LookBack.{Game, is_owner, owner_of, with_event}
use Rattle.totals.specs.Shares.{shares_of, square_of}
use Rattle.order_grammar.specs.declared.order.ShareSource.{ShareSource}
use Rattle.order_grammar.specs.declared.order.ShareSource.TheVariants as source
use Rattle.stock_round.proofs.FloatLemmas.{in_what_follows}
use Rattle.stock_round.specs.Exchange.{MayExchange, after_exchange, exchange_judgement, exchange_rules, exchange_source}
use Rattle.stock_round.specs.Exchange.{exchanged, is_no_exchange, is_offered, is_pooled}
use Rattle.tables.proofs.Rules.{not_broken}
use Rattle.tables.specs.Seat.{seat_at}
use Rattle.tables.specs.declared.roster.Company.TheVariants.{NewYorkCentral}
use Rattle.tables.specs.declared.roster.Private.TheVariants.{MohawkHudson}
use Rattle.tables.specs.declared.seat.Seat.{Seat}
use Rattle.tables.specs.declared.squares.Square.{Square}
use Rattle.turns.proofs.Acted.{in_both, one_more}
use Rattle.history.specs.Games.{IsGame}
use Rattle.turns.specs.Acted.{SaysWhoActed}

-- MH can be given up
pub exchange_allowed : (game : Game) (seat : Seat) → exchange_judgement game seat ≡ None → MayExchange game seat
exchange_allowed game seat none = not_broken code_of_stock_rule (exchange_rules game.events seat) none NoExchange

-- an exchange is allowed as before
pub same_exchange : (before after : List Event) (seat : Seat) → SaysTheSame before after
    → is_no_exchange after seat ≡ is_no_exchange before seat
unfolding is_over_six
same_exchange before after seat same =
    let all : Option Holder → ℤ → ℤ → Option Square → ℤ → Bool = λ owner offered pooled square held.
    not (is_owner seat owner) || (not (lt_z (pos 0) offered || lt_z (pos 0) pooled)
    || (not (holds_in_zone lifts_six square) && lt_z (pos 6) (held +ℤ pos 1)))
    in
    let company = NewYorkCentral in
    ap (λ (owner : Option Holder). all owner (shares_of after company InitialOffering)
    (shares_of after company BankPool) (square_of after company) (shares_of after company (OfSeat seat)))
    (same.owner MohawkHudson)
    ∙ ap (λ (offered : ℤ). all (owner_of before MohawkHudson) offered (shares_of after company BankPool)
    (square_of after company) (shares_of after company (OfSeat seat))) (same.shares company InitialOffering)
    ∙ ap (λ (pooled : ℤ). all (owner_of before MohawkHudson) (shares_of before company InitialOffering) pooled
    (square_of after company) (shares_of after company (OfSeat seat))) (same.shares company BankPool)
    ∙ ap (λ (square : Option Square). all (owner_of before MohawkHudson) (shares_of before company InitialOffering)
    (shares_of before company BankPool) square (shares_of after company (OfSeat seat))) (same.square company)
    ∙ ap (λ (held : ℤ). all (owner_of before MohawkHudson) (shares_of before company InitialOffering)
    (shares_of before company BankPool) (square_of before company) held) (same.shares company (OfSeat seat))

-- of some tests none holds
none_of : (a b c : Bool) → (not a || (not b || c)) ≡ false → (a ≡ true) × (b ≡ true)
none_of true true c kept = (refl, refl)
none_of true false c kept = absurd (cc)
none_of false b c kept = absurd (cc)

-- the seat is the owner
owns : (seat : Seat) (owner : Option Holder) → is_owner seat owner ≡ true → owner ≡ Some (holder.Seat seat)
owns seat None is = absurd (cc)
owns seat (Some (holder.Seat owner)) is = let number : owner.0 ≡ seat.0 =
    grind (arith, nat_tests, is) in ap (λ (n : ℕ). Some (holder.Seat (seat_at n))) number
owns seat (Some (holder.Company company)) is = absurd (cc)

-- where a share of NYC is there, the exchange takes it from a place that has one
has_source : (offered pooled : Bool) (there : (from : ShareSource) → ℤ)
    → (lt_z (pos 0) (there source.InitialOffering) ≡ offered) → (lt_z (pos 0) (there source.BankPool) ≡ pooled)
    → (offered || pooled) ≡ true → pos 1 ≤ℤ there (if offered then source.InitialOffering else source.BankPool)
has_source true pooled there is_offered is_pooled some = grind (arith, ints, is_offered)
has_source false true there is_offered is_pooled some = grind (arith, ints, is_pooled)
has_source false false there is_offered is_pooled some = absurd (cc)

-- the exchange of MH
pub exchange_game : (game new : Game) (seat : Seat) (from : ShareSource) → MayExchange game seat
    → seat.0 < game.seats → from ≡ exchange_source game.events → new ≡ with_event game (event.Exchanged seat from)
    → IsGame game → IsGame new
exchange_game game new seat from may within is_from recorded before =
    let events = game.events in
    let kept = none_of (is_owner seat (owner_of events MohawkHudson)) (is_offered events || is_pooled events) _ may in
    let there : pos 1 ≤ℤ shares_of events NewYorkCentral (place_of_source (exchange_source events)) =
    has_source (is_offered events) (is_pooled events)
    (λ (from : ShareSource). shares_of events NewYorkCentral (place_of_source from)) refl refl kept.1 in
    subst IsGame (sym recorded) (record {
      few = before.few;
      sound = exchange_law game seat from (owns seat (owner_of events MohawkHudson) kept.0) within
          (subst (λ (s : ShareSource). pos 1 ≤ℤ shares_of events NewYorkCentral (place_of_source s))
          (sym is_from) there) before.sound;
    })

-- nobody acts by an exchange
pub in_exchange : (game : Game) (seat : Seat) → SaysWhoActed seat false game.events (after_exchange game seat).events
in_exchange game seat =
    let done : Game = exchanged game seat in
    in_both seat false false game.events done.events (after_exchange game seat).events
    (one_more seat false game.events (event.Exchanged seat (exchange_source game.events)) refl)
    (in_what_follows done seat NewYorkCentral)
