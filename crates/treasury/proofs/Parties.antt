-- The accounts, party by party.
use Rattle.std.proofs.Common.{◌≡◌, ◌==◌, ℕ, ◌<◌, ◌≤◌, Bool, false, List, ℤ, ◌+ℤ◌, pos, length, get_or, set}
use Rattle.std.proofs.Common.{if◌then◌else◌, sym, ap, ◌∙◌, arith}
use Rattle.std.proofs.lemmas.Bool.Decides.{nat_tests}
use Rattle.std.proofs.lemmas.Int.{ints}
use Rattle.events.specs.Event.{party_at}
use Rattle.events.specs.declared.event.Event.{Event}
use Rattle.events.specs.declared.event.Holder.TheVariants as holder
use Rattle.events.specs.declared.event.Party.{Party}
use Rattle.events.specs.declared.event.Party.TheVariants as party
use Rattle.totals.specs.LookBack.{Game, IsModerate, cash_of}
use Rattle.tables.specs.Roster.{index_of_company}
use Rattle.tables.specs.Seat.{seat_at}
use Rattle.tables.specs.declared.roster.Company.{Company}
use Rattle.tables.specs.declared.seat.Seat.{Seat}
use Rattle.tables.proofs.Filled.{entry_changed}
use Rattle.treasury.specs.Accounts.{AreAccountsOf, AreModerate, HasAccount, cash_in, part_of}
use Rattle.treasury.specs.declared.accounts.Accounts.{Accounts}

-- a game that has the same seats and events has the same cash
same_cash : (game : Game) (seats : ℕ) (events : List Event) (party : Party) → seats ≡ game.seats
    → events ≡ game.events →
    cash_of seats events party ≡ cash_of game.seats game.events party
same_cash game seats events party same_seats same_events =
    ap (λ (n : ℕ). cash_of n events party) same_seats
    ∙ ap (λ (list : List Event). cash_of game.seats list party) same_events

-- accounts of the bank, the seats and the companies are accounts of all
pub accounts_of : (game : Game) (accounts : Accounts) (seats : ℕ) (events : List Event) → seats ≡ game.seats
    → events ≡ game.events →
    accounts.bank ≡ cash_of seats events party.Bank →
    ((number : ℕ) → number < 6 → get_or accounts.seats number (pos 0)
    ≡ cash_of seats events (party_at (seat_at number))) →
    ((company : Company) → get_or accounts.companies (index_of_company company) (pos 0)
    ≡ cash_of seats events (party.Holder (holder.Company company))) →
    AreAccountsOf game accounts
accounts_of game accounts seats events same_seats same_events bank of_seats of_companies party.Bank has =
    bank ∙ same_cash game seats events party.Bank same_seats same_events
accounts_of game accounts seats events same_seats same_events bank of_seats of_companies
    (party.Holder (holder.Seat seat)) has =
    of_seats seat.0 has ∙ same_cash game seats events (party.Holder (holder.Seat seat)) same_seats same_events
accounts_of game accounts seats events same_seats same_events bank of_seats of_companies
    (party.Holder (holder.Company company)) has =
    of_companies company ∙ same_cash game seats events (party.Holder (holder.Company company)) same_seats same_events

-- accounts are moderate where those of the bank, the seats and the companies are
pub moderate_of : (accounts : Accounts) → IsModerate accounts.bank
    → ((number : ℕ) → number < 6 → IsModerate (get_or accounts.seats number (pos 0))) →
    ((company : Company) → IsModerate (get_or accounts.companies (index_of_company company) (pos 0)))
    → AreModerate accounts
moderate_of accounts bank of_seats of_companies party.Bank has = bank
moderate_of accounts bank of_seats of_companies (party.Holder (holder.Seat seat)) has = of_seats seat.0 has
moderate_of accounts bank of_seats of_companies (party.Holder (holder.Company company)) has = of_companies company

-- a change of a company's account
pub company_changed : (accounts : Accounts) (company : Company) (change cash : ℤ) (place : ℕ)
    → place ≡ index_of_company company →
    place < length accounts.companies → cash ≡ get_or accounts.companies place (pos 0) +ℤ change → (other : Party)
    → HasAccount other →
    cash_in (record accounts { companies = set accounts.companies place cash }) other
    ≡ cash_in accounts other +ℤ part_of (party.Holder (holder.Company company)) other change
company_changed accounts company change cash place is_place within is party.Bank has = omega (arith, ints)
company_changed accounts company change cash place is_place within is (party.Holder (holder.Seat seat)) has =
    omega (arith, ints)
company_changed accounts company change cash place is_place within is (party.Holder (holder.Company other)) has =
    entry_changed accounts.companies place (index_of_company other) change cash within is
    ∙ ap (λ (n : ℕ). get_or accounts.companies (index_of_company other) (pos 0) +ℤ
    (if n == index_of_company other then change else pos 0)) is_place

-- where a seat has no account, a change of what it has changes no account
pub no_account : (accounts : Accounts) (seat : Seat) (change : ℤ) → 6 ≤ seat.0 → (other : Party) → HasAccount other →
    cash_in accounts other ≡ cash_in accounts other +ℤ part_of (party.Holder (holder.Seat seat)) other change
no_account accounts seat change past party.Bank has = omega (arith, ints)
no_account accounts seat change past (party.Holder (holder.Seat other)) has =
    let apart : (seat.0 == other.0) ≡ false = grind (arith, nat_tests) in
    let had : ℤ = get_or accounts.seats other.0 (pos 0) in
    let same : had ≡ had +ℤ pos 0 = omega (arith, ints) in
    same ∙ ap (λ (b : Bool). had +ℤ (if b then change else pos 0)) (sym apart)
no_account accounts seat change past (party.Holder (holder.Company other)) has = omega (arith, ints)
