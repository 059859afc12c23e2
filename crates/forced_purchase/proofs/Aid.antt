-- What the president pays of a forced purchase: what the company lacks and no more, which is small
-- and which they have.
use Rattle.std.proofs.Common.{◌≡◌, ℕ, ◌≤◌, ◌<◌, inl, inr, Bool, true, false, if◌then◌else◌, ℤ, pos, negsuc, ◌≤ℤ◌, ◌<ℤ◌}
use Rattle.std.proofs.Common.{◌+ℤ◌, ◌-ℤ◌, refl, sym, ap, subst, ◌∙◌, arith}
use Rattle.std.proofs.lemmas.Bool.{cases_eq}
use Rattle.std.proofs.lemmas.Int.{ints}
use Rattle.std.specs.Int.Signed.{lt_z}
use Rattle.events.specs.Event.{party_of_company}
use Rattle.events.specs.declared.event.Event.{Event}
use Rattle.events.specs.declared.event.Event.TheVariants as event
use Rattle.totals.proofs.EventAtEnd.{cash_of_at_end}
use Rattle.history.proofs.ForcedActs.{aid_sound}
use Rattle.totals.specs.Bids.{free_cash_of}
use Rattle.totals.specs.LookBack.{Game, cash_of, with_event}
use Rattle.history.specs.Sound.{IsSound}
use Rattle.totals.specs.Trains.{at_least_zero}
use Rattle.forced_purchase.proofs.CheapestTrain.{cheapest_low, less_is, not_less_is}
use Rattle.forced_purchase.specs.Forced.{with_aid}
use Rattle.forced_purchase.specs.Shortfall.{cheapest, falls_short, lack_of}
use Rattle.forced_purchase.specs.ForcedLaws.{AidIsWhatLacks, NoAidWithoutLack}
use Rattle.purchases.specs.Train.{train_purchase_cost}
use Rattle.forced_purchase.specs.declared.operator.Operator.{Operator}
use Rattle.tables.specs.Roster.{same_company}
use Rattle.tables.specs.declared.roster.Company.{Company}
use Rattle.tables.proofs.Companies.{company_itself}

-- this many, of a sum that is at most a number, are at most as many
so_low : (sum : ℤ) (most : ℕ) → sum ≤ℤ pos most → at_least_zero sum ≤ most
so_low (pos n) most low = omega (arith, ints, low)
so_low (negsuc n) most low = omega arith

-- what is lacking is small
pub lack_small : (game : Game) (company : Company) → IsSound game → at_least_zero (lack_of game company) ≤ 1100
unfolding lack_of
lack_small game company sound =
    let cash : ℤ = cash_of game.seats game.events (party_of_company company) in
    let some : pos 0 ≤ℤ cash = sound.companies company in
    so_low (pos (train_purchase_cost (cheapest game.events)) -ℤ cash) 1100 (omega (arith, ints, some, cheapest_low game.events))

-- nothing is paid where nothing is lacking
over_none : (sum : ℤ) → at_least_zero sum ≡ 0 → lt_z (pos 0) sum ≡ false
over_none (pos n) none = not_less_is (pos 0) (pos n) (omega (arith, ints, none))
over_none (negsuc n) none = not_less_is (pos 0) (negsuc n) (omega (arith, ints))

over_some : (sum : ℤ) → (at_least_zero sum ≡ 0 → ⊥) → lt_z (pos 0) sum ≡ true
over_some (pos n) some =
    elim (cases_eq n 0) [
      | inl none ↦ absurd (some none)
      | inr other ↦ let over : 0 < n = omega arith in less_is (pos 0) (pos n) (omega (arith, ints, over))
    ]
over_some (negsuc n) some = absurd (some refl)

pub no_aid : (by : Operator) (game : Game) → at_least_zero (lack_of game by.company) ≡ 0 → game ≡ with_aid by game
unfolding with_aid
no_aid by game none =
    ap (λ (b : Bool). if b then with_event game (event.Aid by.president by.company
    (at_least_zero (lack_of game by.company))) else game)
    (sym (over_none (lack_of game by.company) none))

pub aid_recorded : (by : Operator) (game new : Game) (amount : ℕ) → amount ≡ at_least_zero (lack_of game by.company)
    → (amount ≡ 0 → ⊥) → new ≡ with_event game (event.Aid by.president by.company amount) → new ≡ with_aid by game
unfolding with_aid
aid_recorded by game new amount is some recorded =
    recorded
    ∙ ap (λ (n : ℕ). with_event game (event.Aid by.president by.company n)) is
    ∙ ap (λ (b : Bool). if b then with_event game (event.Aid by.president by.company
    (at_least_zero (lack_of game by.company))) else game)
    (sym (over_some (lack_of game by.company) (λ none. some (is ∙ none))))

-- the president who does not fall short has it
has_it : (free lack : ℤ) → pos 0 ≤ℤ free → lt_z free lack ≡ false → pos (at_least_zero lack) ≤ℤ free
has_it free (pos n) some enough = let least : pos n ≤ℤ free = grind (arith, ints, enough) in least
has_it free (negsuc n) some enough = some

pub aid_keeps_sound : (by : Operator) (game new : Game) (amount : ℕ) → amount ≡ at_least_zero (lack_of game by.company)
    → by.president.0 < game.seats → falls_short by game ≡ false
    → new ≡ with_event game (event.Aid by.president by.company amount) → IsSound game → IsSound new
unfolding falls_short
aid_keeps_sound by game new amount is seated enough recorded sound =
    subst IsSound (sym recorded)
    (aid_sound game by.president by.company amount seated
    (subst (λ (n : ℕ). pos n ≤ℤ free_cash_of game.seats game.events by.president) (sym is)
    (has_it (free_cash_of game.seats game.events by.president) (lack_of game by.company)
    (sound.solvent by.president) enough)) sound)

-- a company that was paid what it lacks has exactly the price
paid_exactly : (cash lack : ℤ) (cost : ℕ) (same : Bool) → same ≡ true → lack ≡ (pos cost -ℤ cash)
    → lt_z (pos 0) lack ≡ true → ((cash +ℤ pos (if same then at_least_zero lack else 0)) -ℤ pos 0) ≡ pos cost
paid_exactly cash lack cost false is lacks more = absurd cc
paid_exactly cash (pos amount) cost true is lacks more = omega (arith, ints, lacks)
paid_exactly cash (negsuc under) cost true is lacks more =
    absurd (let over : pos 0 <ℤ negsuc under = grind (arith, ints, more) in omega (arith, ints, over))

pub aid_is_what_lacks : AidIsWhatLacks
unfolding with_aid lack_of
aid_is_what_lacks by game more =
    let cost : ℕ = train_purchase_cost (cheapest game.events) in
    let cash : ℤ = cash_of game.seats game.events (party_of_company by.company) in
    let its : Event = event.Aid by.president by.company (at_least_zero (pos cost -ℤ cash)) in
    ap (λ (b : Bool). let paid : Game = if b then with_event game its else game in cash_of paid.seats paid.events
    (party_of_company by.company)) more
    ∙ cash_of_at_end game.seats game.events its (party_of_company by.company)
    ∙ paid_exactly cash (pos cost -ℤ cash) cost (same_company by.company by.company) (company_itself by.company) refl
    more

pub no_aid_without_lack : NoAidWithoutLack
unfolding with_aid
no_aid_without_lack by game none =
    ap (λ (b : Bool). if b then with_event game (event.Aid by.president by.company
    (at_least_zero (lack_of game by.company))) else game) none
