-- Tables of balances, entry by entry; and the entries of parties and of shares, which differ where
-- those do.
use Rattle.std.proofs.Common.{◌≡◌, ℕ, ◌<◌, ◌==◌, ◌+◌, ◌*◌, ◌&&◌, Bool, List, Option, Some, if◌then◌else◌, ℤ, pos, neg_ℤ}
use Rattle.std.proofs.Common.{◌≤ℤ◌, ◌^◌, ◌+ℤ◌, ◌-ℤ◌, length, set, true, false, refl, ap, subst, ◌∙◌, sym, arith}
use Rattle.std.proofs.Common.{get_or-set_same, get_or-set_other, eq-eqb}
use Rattle.std.proofs.lemmas.Bool.{cases_eq}
use Rattle.std.proofs.lemmas.Int.{ints}
use mir.Syntax.{w128}
use mir.Val.{to_z, of_z}
use Rattle.events.specs.Event.{train_owner_place}
use Rattle.events.specs.declared.event.Event.{Event}
use Rattle.events.specs.declared.event.Holder.TheVariants as holder
use Rattle.events.specs.declared.event.Party.{Party}
use Rattle.events.specs.declared.event.Party.TheVariants as party
use Rattle.events.specs.declared.event.Payment.{Payment}
use Rattle.events.specs.declared.event.Shareholder.{Shareholder}
use Rattle.events.specs.declared.event.Shareholder.TheVariants.{InitialOffering, BankPool, Seat as OfSeat}
use Rattle.events.specs.declared.event.TrainMove.{TrainMove}
use Rattle.events.specs.declared.event.TrainPlace.{TrainPlace}
use Rattle.events.specs.declared.event.TrainPlace.TheVariants as train_place
use Rattle.events.specs.declared.event.Transfer.{Transfer}
use Rattle.totals.specs.Totals.{IsBalance, IsSafe, balance_at, party_entry, shares_entry, shares_row}
use Rattle.totals.specs.Totals.{train_entry, train_row}
use Rattle.totals.specs.LookBack.{IsModerate, balance, paid_by, paid_to, same_party}
use Rattle.totals.specs.Shares.{brought_to, same_shareholder, taken_from}
use Rattle.totals.specs.Trains.{any_comes, any_goes, one_if, same_train_place, train_comes, train_goes}
use Rattle.tables.specs.Roster.{index_of_company, same_company}
use Rattle.tables.specs.Train.{index_of_kind, same_kind}
use Rattle.tables.specs.declared.rolling_stock.Kind.{Kind}
use Rattle.tables.specs.declared.roster.Company.{Company}
use Rattle.tables.proofs.Companies.{company_low}

-- nothing is added
plus_none : (n : ℤ) → n ≡ n +ℤ pos 0
plus_none n = omega (arith, ints)

-- a balance in reach is the number that keeps it
pub balance_kept : (n : ℤ) → IsSafe n → to_z w128 (of_z w128 n) ≡ n
balance_kept n safe = omega (arith, ints, safe.not_under, safe.not_over)

-- so is a sum
pub sum_kept :
    (n change : ℤ) → IsSafe n → neg_ℤ (pos (2 ^ 32)) ≤ℤ change → change ≤ℤ pos (2 ^ 32) →
    to_z w128 (of_z w128 n) +ℤ to_z w128 (of_z w128 change) ≡ n +ℤ change
sum_kept n change safe not_under not_over = omega (arith, ints, safe.not_under, safe.not_over, not_under, not_over)

-- the entry that is changed, and the others
pub entry_changed :
    (balances : List ℤ) (at entry : ℕ) (change value : ℤ) → at < length balances
    → (IsSafe (balance_at balances at) → value ≡ balance_at balances at +ℤ change) →
    IsSafe (balance_at balances entry) → balance_at (set balances at value) entry
    ≡ balance_at balances entry +ℤ (if at == entry then change else pos 0)
entry_changed balances at entry change value low is safe =
    grind (
      arith,
      get_or-set_same,
      get_or-set_other,
      cases_eq at entry,
      eq-eqb at entry,
      plus_none
          (balance_at balances entry),
    )

-- two numbers are the same where the same is added to them
plus_same : (k a b : ℕ) → (a == b) ≡ (k + a == k + b)
plus_same k a b = grind (arith, cases_eq a b, eq-eqb a b, eq-eqb (k + a) (k + b))

-- parties have different entries
same_entry : (a b : Party) → same_party a b ≡ (party_entry a == party_entry b)
same_entry party.Bank party.Bank = refl
same_entry party.Bank (party.Holder (holder.Seat b)) = grind (arith, eq-eqb 0 (9 + b.0))
same_entry party.Bank (party.Holder (holder.Company b)) = grind (arith, eq-eqb 0 (1 + index_of_company b))
same_entry (party.Holder (holder.Seat a)) party.Bank = grind (arith, eq-eqb (9 + a.0) 0)
same_entry (party.Holder (holder.Company a)) party.Bank = grind (arith, eq-eqb (1 + index_of_company a) 0)
same_entry (party.Holder (holder.Seat a)) (party.Holder (holder.Seat b)) = plus_same 9 a.0 b.0
same_entry (party.Holder (holder.Company a)) (party.Holder (holder.Company b)) =
    plus_same 1 (index_of_company a) (index_of_company b)
same_entry (party.Holder (holder.Seat a)) (party.Holder (holder.Company b)) =
    grind (arith, company_low b, eq-eqb (9 + a.0) (1 + index_of_company b))
same_entry (party.Holder (holder.Company a)) (party.Holder (holder.Seat b)) =
    grind (arith, company_low a, eq-eqb (1 + index_of_company a) (9 + b.0))

-- a payment moves its amount from its entry to its other
pub payment_moved :
    (payment : Payment) (made : Option Payment) (of : Party) (from to : ℕ) (old new : ℤ) → Some payment ≡ made
    → from ≡ party_entry payment.from →
    to ≡ party_entry payment.to →
    new ≡ (old +ℤ pos (if to == party_entry of then payment.amount else 0)) -ℤ pos
    (if from == party_entry of then payment.amount else 0) →
    new ≡ (old +ℤ pos (paid_to of made)) -ℤ pos (paid_by of made)
payment_moved payment made of from to old new is from_is to_is moved =
    rw (sym is, same_entry payment.to of, same_entry payment.from of, sym from_is, sym to_is) moved

-- two entries in rows of eight are the same where their rows and their places are
row_same : (a b r s : ℕ) → a < 8 → b < 8 → ((a == b) && (r == s)) ≡ (8 * r + a == 8 * s + b)
row_same a b r s low_a low_b =
    grind (arith, cases_eq a b, cases_eq r s, eq-eqb a b, eq-eqb r s, eq-eqb (8 * r + a) (8 * s + b))

-- places have different rows
same_row : (a b : Shareholder) → same_shareholder a b ≡ (shares_row a == shares_row b)
same_row InitialOffering InitialOffering = refl
same_row InitialOffering BankPool = refl
same_row BankPool InitialOffering = refl
same_row BankPool BankPool = refl
same_row InitialOffering (OfSeat b) = grind (arith, eq-eqb 0 (2 + b.0))
same_row BankPool (OfSeat b) = grind (arith, eq-eqb 1 (2 + b.0))
same_row (OfSeat a) InitialOffering = grind (arith, eq-eqb (2 + a.0) 0)
same_row (OfSeat a) BankPool = grind (arith, eq-eqb (2 + a.0) 1)
same_row (OfSeat a) (OfSeat b) = plus_same 2 a.0 b.0

-- one test within another is both
both_tests : (a b : Bool) (n : ℕ) → (if a then (if b then n else 0) else 0) ≡ (if a && b then n else 0)
both_tests true b n = refl
both_tests false b n = refl

-- the shares that reach a place, by entries
part_by_entry :
    (a b : Company) (at place : Shareholder) (shares : ℕ) →
    (if same_company a b then (if same_shareholder at place then shares else 0) else 0)
    ≡ (if shares_entry a at == shares_entry b place then shares else 0)
part_by_entry a b at place shares =
    both_tests (same_company a b) (same_shareholder at place) shares
    ∙ ap (λ test. if same_company a b && test then shares else 0) (same_row at place)
    ∙ ap (λ test. if test then shares else 0) (row_same (index_of_company a) (index_of_company b) (shares_row at)
    (shares_row place) (company_low a) (company_low b))

-- a transfer moves its shares from its entry to its other
pub transfer_moved :
    (transfer : Transfer) (made : Option Transfer) (company : Company) (place : Shareholder) (from to shares : ℕ)
    (old new : ℤ) → Some transfer ≡ made →
    from ≡ shares_entry transfer.company transfer.from → to ≡ shares_entry transfer.company transfer.to
    → shares ≡ transfer.shares →
    new ≡ (old +ℤ pos (if to == shares_entry company place then shares else 0)) -ℤ pos
    (if from == shares_entry company place then shares else 0) →
    new ≡ (old +ℤ pos (brought_to company place made)) -ℤ pos (taken_from company place made)
transfer_moved transfer made company place from to shares old new is from_is to_is many moved =
    let to_place = part_by_entry transfer.company company transfer.to place transfer.shares in
    let from_place = part_by_entry transfer.company company transfer.from place transfer.shares in
    rw (sym is, to_place, from_place, sym from_is, sym to_is, sym many) moved

-- places of trains have different rows
same_train_row : (a b : TrainPlace) → same_train_place a b ≡ (train_row a == train_row b)
same_train_row train_place.Bank train_place.Bank = refl
same_train_row train_place.Bank train_place.BankPool = refl
same_train_row train_place.Bank train_place.OutOfPlay = refl
same_train_row train_place.BankPool train_place.Bank = refl
same_train_row train_place.BankPool train_place.BankPool = refl
same_train_row train_place.BankPool train_place.OutOfPlay = refl
same_train_row train_place.OutOfPlay train_place.Bank = refl
same_train_row train_place.OutOfPlay train_place.BankPool = refl
same_train_row train_place.OutOfPlay train_place.OutOfPlay = refl
same_train_row train_place.Bank (train_place.Company b) = grind (arith, eq-eqb 0 (2 + index_of_company b))
same_train_row train_place.BankPool (train_place.Company b) = grind (arith, eq-eqb 1 (2 + index_of_company b))
same_train_row train_place.OutOfPlay (train_place.Company b) =
    grind (arith, company_low b, eq-eqb 10 (2 + index_of_company b))
same_train_row (train_place.Company a) train_place.Bank = grind (arith, eq-eqb (2 + index_of_company a) 0)
same_train_row (train_place.Company a) train_place.BankPool = grind (arith, eq-eqb (2 + index_of_company a) 1)
same_train_row (train_place.Company a) train_place.OutOfPlay =
    grind (arith, company_low a, eq-eqb (2 + index_of_company a) 10)
same_train_row (train_place.Company a) (train_place.Company b) = plus_same 2 (index_of_company a) (index_of_company b)

-- a kind has a place less than 8
kind_low : (kind : Kind) → index_of_kind kind < 8
kind_low kind = grind arith

-- a place has one of eleven rows
pub train_row_low : (place : TrainPlace) → train_row place < 11
train_row_low place = grind arith

-- trains have an entry
pub train_entry_low : (place : TrainPlace) (kind : Kind) → train_entry place kind < 88
train_entry_low train_place.Bank kind = omega (arith, kind_low kind)
train_entry_low train_place.BankPool kind = omega (arith, kind_low kind)
train_entry_low (train_place.Company company) kind = omega (arith, kind_low kind, company_low company)
train_entry_low train_place.OutOfPlay kind = omega (arith, kind_low kind)

-- whether a train is one of those at a place, by entries
train_by_entry :
    (a b : Kind) (at place : TrainPlace) → one_if (same_kind a b && same_train_place at place)
    ≡ (if train_entry at a == train_entry place b then 1 else 0)
train_by_entry a b at place =
    ap (λ test. one_if (same_kind a b && test)) (same_train_row at place)
    ∙ ap one_if (row_same (index_of_kind a) (index_of_kind b) (train_row at) (train_row place) (kind_low a)
    (kind_low b))

-- a train moves from its entry to its other
pub train_moved_on :
    (train : TrainMove) (made : Option TrainMove) (place : TrainPlace) (kind : Kind) (from to : ℕ) (old new : ℤ)
    → Some train ≡ made →
    from ≡ train_entry train.from train.kind → to ≡ train_entry train.to train.kind →
    new ≡ (old +ℤ pos (if to == train_entry place kind then 1 else 0)) -ℤ pos
    (if from == train_entry place kind then 1 else 0) →
    new ≡ (old +ℤ pos (one_if (train_comes place kind made))) -ℤ pos (one_if (train_goes place kind made))
train_moved_on train made place kind from to old new is from_is to_is moved =
    rw (
      sym is,
      train_by_entry train.kind kind train.to place,
      train_by_entry train.kind kind train.from place,
      sym
          from_is,
      sym to_is,
    ) moved

-- a train moves from its place to its other
pub train_count_moved :
    (train : TrainMove) (made : Option TrainMove) (owner : Option Company) (from to : ℕ) (old new : ℤ)
    → Some train ≡ made → from ≡ train_row train.from →
    to ≡ train_row train.to →
    new ≡ (old +ℤ pos (if to == train_row (train_owner_place owner) then 1 else 0)) -ℤ pos
    (if from == train_row (train_owner_place owner) then 1 else 0) →
    new ≡ (old +ℤ pos (one_if (any_comes owner made))) -ℤ pos (one_if (any_goes owner made))
train_count_moved train made owner from to old new is from_is to_is moved =
    rw (
      sym is,
      same_train_row train.to (train_owner_place owner),
      same_train_row train.from
          (train_owner_place owner),
      sym from_is,
      sym to_is,
    ) moved

-- a start with a balance is an account
pub account_kept :
    (start : ℕ) (brings takes : Event → ℕ) (events : List Event) (from total : ℤ) → length events < 2 ^ 63
    → start < 2 ^ 32 → from ≡ pos start →
    IsBalance brings takes events total → to_z w128 (of_z w128 (to_z w128 (of_z w128 from) +ℤ to_z w128
    (of_z w128 total))) ≡ balance start brings takes events
account_kept start brings takes events from total short few is kept =
    let added : to_z w128 (of_z w128 (to_z w128 (of_z w128 from) +ℤ to_z w128 (of_z w128 total))) ≡ pos start +ℤ total =
    omega (arith, ints, short, few, is, kept.not_under, kept.not_over) in
    added ∙ omega (arith, ints, kept.is)

-- and moderate
pub account_moderate :
    (start : ℕ) (brings takes : Event → ℕ) (events : List Event) (from total : ℤ) → length events < 2 ^ 63
    → start < 2 ^ 32 → from ≡ pos start →
    IsBalance brings takes events total → IsModerate (to_z w128
    (of_z w128 (to_z w128 (of_z w128 from) +ℤ to_z w128 (of_z w128 total))))
account_moderate start brings takes events from total short few is kept =
    let added : to_z w128 (of_z w128 (to_z w128 (of_z w128 from) +ℤ to_z w128 (of_z w128 total))) ≡ pos start +ℤ total =
    omega (arith, ints, short, few, is, kept.not_under, kept.not_over) in
    record {
      not_under = omega (arith, ints, added, short, few, kept.not_under, kept.not_over);
      not_over = omega (arith, ints, added, short, few, kept.not_under, kept.not_over);
    }

-- the balance of an account at the entry of a table where it is
pub balance_there :
    (brings takes : Event → ℕ) (events : List Event) (balances : List ℤ) (entry its : ℕ) → entry ≡ its
    → IsBalance brings takes events (balance_at balances its) → IsBalance brings takes events
    (balance_at balances entry)
balance_there brings takes events balances entry its at kept =
    subst (λ n. IsBalance brings takes events (balance_at balances n)) (sym at) kept
