-- A payment takes from one party what it adds to another, so that all money stays what it was at
-- first. A private's owner has paid for it, so that it is a party of the game where all payments go
-- between parties.
use Rattle.std.proofs.Common.{◌≡◌, ◌≢◌, ℕ, ◌+◌, ◌*◌, ◌-◌, ◌==◌, inl, inr, if◌then◌else◌, List, [], ◌∷◌, ◌++◌, map}
use Rattle.std.proofs.Common.{Option, Some, None, pos, ◌-ℤ◌, ◌+ℤ◌, refl, sym, subst, ap, ◌∙◌, arith, ◌⊎◌, Bool, true}
use Rattle.std.proofs.Common.{false}
use Rattle.std.proofs.lemmas.Bool.{cases_eq}
use Rattle.std.proofs.lemmas.Bool.Decides.{nat_tests}
use Rattle.std.proofs.lemmas.Int.{ints}
use Rattle.std.proofs.lemmas.List.Sums.{sum_by-cons}
use Rattle.events.specs.Event.{party_at, party_of_company, payment_of, ownership_of}
use Rattle.events.specs.declared.event.Event.{Event}
use Rattle.events.specs.declared.event.Holder.TheVariants as holder
use Rattle.events.specs.declared.event.Party.{Party}
use Rattle.events.specs.declared.event.Party.TheVariants as party
use Rattle.events.specs.declared.event.Payment.{Payment}
use Rattle.totals.specs.LookBack.{cash_of, paid_by, paid_to, same_party, last_said, owner_said}
use Rattle.events.specs.declared.event.Shareholder.TheVariants.{Seat as OfSeat}
use Rattle.history.proofs.ShareCount.{parts, with_seats}
use Rattle.history.specs.Money.{AllMoneyStays, IsParty, IsWithin, cash_together, parties, AreWithin}
use Rattle.tables.specs.Roster.{bank_start_of, companies, start_money_of, same_private}
use Rattle.tables.specs.Seat.{all_seats}
use Rattle.tables.specs.declared.roster.Company.{Company}
use Rattle.tables.specs.declared.roster.Company.TheVariants.{Pennsylvania}
use Rattle.tables.specs.declared.seat.Seat.{Seat}
use Rattle.std.specs.Option.{option_flatten, option_or}
use Rattle.events.specs.declared.event.Event.TheVariants.{Closed, Exchanged, PrivateBought, Sold}
use Rattle.events.specs.declared.event.Holder.{Holder}
use Rattle.history.specs.Laws.{OwnersAreParties}
use Rattle.tables.specs.declared.roster.Private.{Private}
use Rattle.tables.specs.declared.roster.Private.TheVariants.{MohawkHudson}

-- what of a sum, all with one party, is with some parties
abbrev sum_with : Party → ℕ → List Party → ℕ
sum_with at sum [] = 0
sum_with at sum (one ∷ others) = (if same_party at one then sum else 0) + sum_with at sum others

-- parties in two parts
sum_with_both : (at : Party) (sum : ℕ) (some more : List Party)
    → sum_with at sum (some ++ more) ≡ sum_with at sum some + sum_with at sum more
sum_with_both at sum [] more = omega arith
sum_with_both at sum (one ∷ others) more = omega (arith, sum_with_both at sum others more)

-- what the bank has is with no seat
no_seat_of_bank : (sum : ℕ) (seats : List Seat) → sum_with party.Bank sum (map party_at seats) ≡ 0
no_seat_of_bank sum [] = refl
no_seat_of_bank sum (seat ∷ others) = omega (arith, no_seat_of_bank sum others)

-- nor what a company has
no_seat_of_company : (company : Company) (sum : ℕ) (seats : List Seat)
    → sum_with (party_of_company company) sum (map party_at seats) ≡ 0
no_seat_of_company company sum [] = refl
no_seat_of_company company sum (seat ∷ others) = omega (arith, no_seat_of_company company sum others)

-- what a seat has is with the seats as shares of it are
seats_as_parts : (seat : Seat) (sum : ℕ) (seats : List Seat)
    → sum_with (party_at seat) sum (map party_at seats) ≡ parts (OfSeat seat) sum seats
seats_as_parts seat sum [] = refl
seats_as_parts seat sum (one ∷ others) =
    ap (λ rest. (if seat.0 == one.0 then sum else 0) + rest) (seats_as_parts seat sum others)

-- what a company has is with the companies
with_its_company : (company : Company) (sum : ℕ)
    → sum_with (party_of_company company) sum (map party_of_company companies) ≡ sum
with_its_company Pennsylvania sum = omega arith
with_its_company other sum = omega arith

-- a sum with a party of the game is with its parties
with_parties : (seats : ℕ) (at : Party) (sum : ℕ) → IsParty seats at → sum_with at sum (parties seats) ≡ sum
with_parties seats party.Bank sum is =
    let fact = sum_with_both party.Bank sum (map party_at (all_seats seats)) (map party_of_company companies) in
    omega (arith, no_seat_of_bank sum (all_seats seats))
with_parties seats (party.Holder (holder.Seat seat)) sum is =
    let fact = sum_with_both (party_at seat) sum (map party_at (all_seats seats)) (map party_of_company companies) in
    let other_fact = seats_as_parts seat sum (all_seats seats) in
    omega (arith, with_seats seat sum 0 seats (omega arith) (omega arith))
with_parties seats (party.Holder (holder.Company company)) sum is =
    let fact = sum_with_both (party_of_company company) sum (map party_at (all_seats seats)) (map party_of_company companies) in
    let other_fact = no_seat_of_company company sum (all_seats seats) in
    omega (arith, with_its_company company sum)

-- a party's cash with an event before them
cash_in_front : (seats : ℕ) (event : Event) (events : List Event) (one : Party)
    → cash_of seats (event ∷ events) one ≡ (cash_of seats events one +ℤ pos (paid_to one (payment_of event))) -ℤ pos
    (paid_by one (payment_of event))
cash_in_front seats event events one =
    let fact = sum_by-cons (λ e. paid_to one (payment_of e)) event events in
    omega (arith, ints, sum_by-cons (λ e. paid_by one (payment_of e)) event events)

-- without a payment parties have together what they had
unpaid : (seats : ℕ) (event : Event) (events : List Event) (some : List Party) → payment_of event ≡ None
    → cash_together seats (event ∷ events) some ≡ cash_together seats events some
unpaid seats event events [] none = refl
unpaid seats event events (one ∷ others) none =
    let fact = cash_in_front seats event events one in
    let other_fact = ap (paid_to one) none in
    let third_fact = ap (paid_by one) none in
    omega (arith, ints, unpaid seats event events others none)

-- with a payment parties have together what it adds more, and what it takes less
paid : (seats : ℕ) (event : Event) (events : List Event) (payment : Payment) (some : List Party)
    → payment_of event ≡ Some payment → cash_together seats (event ∷ events) some
    ≡ (cash_together seats events some +ℤ pos (sum_with payment.to payment.amount some)) -ℤ pos
    (sum_with payment.from payment.amount some)
paid seats event events payment [] pays = omega (arith, ints)
paid seats event events payment (one ∷ others) pays =
    let fact = cash_in_front seats event events one in
    let other_fact = ap (paid_to one) pays in
    let third_fact = ap (paid_by one) pays in
    omega (arith, ints, paid seats event events payment others pays)

-- so all parties have together what they had
together_stays : (seats : ℕ) (event : Event) (events : List Event) (payment : Option Payment)
    → payment_of event ≡ payment → IsWithin seats payment
    → cash_together seats (event ∷ events) (parties seats) ≡ cash_together seats events (parties seats)
together_stays seats event events None pays within = unpaid seats event events (parties seats) pays
together_stays seats event events (Some payment) pays within =
    let fact = paid seats event events payment (parties seats) pays in
    let other_fact = with_parties seats payment.to payment.amount within.1 in
    omega (arith, ints, with_parties seats payment.from payment.amount within.0)

-- at any other number of seats nobody begins with money
begin_with_none : (seats : ℕ) (some : List Seat) → start_money_of seats ≡ 0
    → cash_together seats [] (map party_at some ++ map party_of_company companies) ≡ pos 0
begin_with_none seats [] none = omega (arith, ints)
begin_with_none seats (seat ∷ others) none = omega (arith, ints, begin_with_none seats others none)

-- the start money at any other number of seats
no_start_money : (seats : ℕ) → seats ≢ 3 → seats ≢ 4 → seats ≢ 5 → seats ≢ 6 → start_money_of seats ≡ 0
no_start_money seats not_three not_four not_five not_six = grind (arith, nat_tests)

-- the bank then has all
bank_has_all : (seats : ℕ) → start_money_of seats ≡ 0 → bank_start_of seats ≡ 12000
bank_has_all seats none = ap (λ money. 12000 - seats * money) none ∙ omega arith

-- at first all money is 12,000
money_at_first : (seats : ℕ) → cash_together seats [] (parties seats) ≡ pos 12000
money_at_first seats =
    elim (cases_eq seats 3) [
      | inl same ↦ subst (λ n. cash_together n [] (parties n) ≡ pos 12000) (sym same) refl
      | inr not_three ↦
          elim (cases_eq seats 4) [
            | inl same ↦ subst (λ n. cash_together n [] (parties n) ≡ pos 12000) (sym same) refl
            | inr not_four ↦
                elim (cases_eq seats 5) [
                  | inl same ↦ subst (λ n. cash_together n [] (parties n) ≡ pos 12000) (sym same) refl
                  | inr not_five ↦
                      elim (cases_eq seats 6) [
                        | inl same ↦ subst (λ n. cash_together n [] (parties n) ≡ pos 12000) (sym same) refl
                        | inr not_six ↦
                            let none = no_start_money seats not_three not_four not_five not_six in
                            omega (arith, ints, bank_has_all seats none, begin_with_none seats (all_seats seats) none)
                      ]
                ]
          ]
    ]

-- and it stays so
pub money_stays : AllMoneyStays
money_stays seats [] within = money_at_first seats
money_stays seats (event ∷ events) within =
    together_stays seats event events (payment_of event) refl within.0 ∙ money_stays seats events within.1

-- an owner, if there is one, is a party
abbrev IsOwnedWithin : ℕ → Option Holder → Type 0
IsOwnedWithin seats None = Unit {0}
IsOwnedWithin seats (Some owner) = IsParty seats (party.Holder owner)

-- so is the one that an event names, where this one is
owner_named : (same : Bool) (seats : ℕ) (said : Option Holder) (owner : Holder)
    → ◌≡◌ {A = Option (Option Holder)} (if same then Some said else None) (Some (Some owner))
    → IsOwnedWithin seats said → IsParty seats (party.Holder owner)
owner_named true seats said owner names within =
    let is : said ≡ Some owner = cc in
    subst (IsOwnedWithin seats) is within
owner_named false seats said owner names within = absurd (cc)

-- as it is where the event pays between parties
named_is_party : (seats : ℕ) (event : Event) (private : Private) (owner : Holder) → IsWithin seats (payment_of event)
    → owner_said private (ownership_of event) ≡ Some (Some owner) → IsParty seats (party.Holder owner)
named_is_party seats (Sold sold seat price) private owner pays names =
    owner_named (same_private sold private) seats (Some (holder.Seat seat)) owner names pays.0
named_is_party seats (Exchanged seat from) private owner pays names =
    owner_named (same_private MohawkHudson private) seats None owner names tt
named_is_party seats (Closed closed) private owner pays names =
    owner_named (same_private closed private) seats None owner names tt
named_is_party seats (PrivateBought bought company seller price) private owner pays names =
    owner_named (same_private bought private) seats (Some (holder.Company company)) owner names tt
named_is_party seats other private owner pays names = absurd (cc)

-- the last word is the later one, or the earlier
either_word : {A : Type 0} (later earlier : Option A) (word : A) → option_or later earlier ≡ Some word
    → (later ≡ Some word) ⊎ (earlier ≡ Some word)
either_word None earlier word is = inr is
either_word (Some later) earlier word is = inl is

-- the owner of whom was said last is a party
word_is_party : (seats : ℕ) (events : List Event) (private : Private) (owner : Holder) → AreWithin seats events
    → last_said (λ e. owner_said private (ownership_of e)) events ≡ Some (Some owner)
    → IsParty seats (party.Holder owner)
word_is_party seats [] private owner within said = absurd (cc)
word_is_party seats (event ∷ events) private owner within said =
    elim (either_word (last_said (λ e. owner_said private (ownership_of e)) events)
    (owner_said private (ownership_of event)) (Some owner) said) [
      | inl later ↦ word_is_party seats events private owner within.1 later
      | inr here ↦ named_is_party seats event private owner within.0 here
    ]

-- an owner was said
said_so : (word : Option (Option Holder)) (owner : Holder) → option_flatten word ≡ Some owner → word ≡ Some (Some owner)
said_so None owner is = absurd (cc)
said_so (Some None) owner is = absurd (cc)
said_so (Some (Some one)) owner is = ap Some is

-- so is the owner of a private in a sound list
pub owner_is_party : OwnersAreParties
owner_is_party game private owner sound owns =
    word_is_party game.seats game.events private owner sound.within
    (said_so (last_said (λ e. owner_said private (ownership_of e)) game.events) owner owns)
