-- The accounts of a game: the bank's, one for each of six seats, and the companies'. Each holds
-- what its party has. A payment moves its sum from one party to another and leaves all others as
-- they were. A party other than the bank that has less than the sum is short and pays nothing.
use Rattle.std.specs.Prelude.{◌≡◌, ℕ, ◌<◌, List, ℤ, pos, ◌+ℤ◌, ◌-ℤ◌, ◌≤ℤ◌, Bool, false, if◌then◌else◌, slice_index_or}
use lib.Signed.{lt_z}
use Rattle.events.specs.Event.{party_at}
use Rattle.events.specs.declared.event.Event.{Event}
use Rattle.events.specs.declared.event.Holder.TheVariants as holder
use Rattle.events.specs.declared.event.Party.{Party}
use Rattle.events.specs.declared.event.Party.TheVariants as party
use Rattle.totals.specs.LookBack.{Game, IsModerate, cash_of, same_party}
use Rattle.tables.specs.Roster.{index_of_company}
use Rattle.tables.specs.Seat.{seat_at}
use Rattle.tables.specs.declared.roster.Company.{Company}
use Rattle.treasury.specs.declared.accounts.Accounts.{Accounts}

-- the party has an account: a seat is one of six
abbrev pub HasAccount : Party → Type 0
HasAccount party.Bank = Unit {0}
HasAccount (party.Holder (holder.Seat seat)) = seat.0 < 6
HasAccount (party.Holder (holder.Company company)) = Unit {0}

-- what a party has by its account
abbrev pub cash_in : Accounts → Party → ℤ
cash_in accounts party.Bank = accounts.bank
cash_in accounts (party.Holder (holder.Seat seat)) = slice_index_or accounts.seats seat.0 (pos 0)
cash_in accounts (party.Holder (holder.Company company)) =
    slice_index_or accounts.companies (index_of_company company) (pos 0)

-- each account holds what its party has in a game
abbrev pub AreAccountsOf : Game → Accounts → Type 0
AreAccountsOf game accounts =
    (party : Party) → HasAccount party → cash_in accounts party ≡ cash_of game.seats game.events party

-- each holds what its party had in a game as it stood
abbrev pub AreAccountsAt : Game → Accounts → Type 0
AreAccountsAt view accounts = AreAccountsOf (record { seats = view.seats; events = view.events }) accounts

-- no party has, or owes, more than 2 ^ 100
abbrev pub AreModerate : Accounts → Type 0
AreModerate accounts = (party : Party) → HasAccount party → IsModerate (cash_in accounts party)

-- a party other than the bank has less than the sum that it is to pay
abbrev pub lacks_cash : Accounts → Party → ℤ → Bool
lacks_cash accounts party.Bank sum = false
lacks_cash accounts (party.Holder holder) sum = lt_z (cash_in accounts (party.Holder holder)) sum

-- what of a sum goes to a party's account, if the sum is the first party's
abbrev pub part_of : Party → Party → ℤ → ℤ
part_of of party sum = if same_party of party then sum else pos 0

-- after a payment the one that pays has the sum less and the one that is paid has it more; all
-- others have what they had
abbrev pub ArePaid : Accounts → Accounts → Party → Party → ℤ → Type 0
ArePaid old new from to sum =
    (party : Party) → HasAccount party → cash_in new party
    ≡ (cash_in old party +ℤ part_of to party sum) -ℤ part_of from party sum

-- a sum that an event can name
abbrev pub IsSum : ℤ → Type 0
IsSum sum = (pos 0 ≤ℤ sum) × (sum ≤ℤ pos 1000000)

-- a change is added to what a party has, and all others have what they had
abbrev pub IsAdded : Accounts → Accounts → Party → ℤ → Type 0
IsAdded old new party change =
    (other : Party) → HasAccount other → cash_in new other ≡ cash_in old other +ℤ part_of party other change

-- the cash of each of six seats
abbrev pub AreOfSeats : ℕ → List Event → List ℤ → Type 0
AreOfSeats seats events cash =
    (number : ℕ) → number < 6 → slice_index_or cash number (pos 0) ≡ cash_of seats events (party_at (seat_at number))

-- none of the six seats has, or owes, more than 2 ^ 100
abbrev pub AreModerateForSeats : List ℤ → Type 0
AreModerateForSeats cash = (number : ℕ) → number < 6 → IsModerate (slice_index_or cash number (pos 0))

-- the cash of each company
abbrev pub AreOfCompanies : ℕ → List Event → List ℤ → Type 0
AreOfCompanies seats events cash =
    (company : Company) → slice_index_or cash (index_of_company company) (pos 0)
    ≡ cash_of seats events (party.Holder (holder.Company company))

-- no company has, or owes, more than 2 ^ 100
abbrev pub AreModerateForCompanies : List ℤ → Type 0
AreModerateForCompanies cash = (company : Company) → IsModerate (slice_index_or cash (index_of_company company) (pos 0))
