-- What the purchase of a train changes by itself: the bank has sold one more where it sells it, and
-- nothing is removed from the game.
use Rattle.std.proofs.Common.{◌≡◌, ◌⊎◌, ℕ, ◌+◌, ◌<◌, ◌≤◌, ◌==◌, inl, inr, Bool, true, false, ◌&&◌, nat_lt}
use Rattle.std.proofs.Common.{if◌then◌else◌, List, Option, Some, None, refl, sym, ap, subst, ◌∙◌, arith}
use Rattle.std.proofs.lemmas.Bool.Decides.{Decides-eqb, nat_tests}
use Rattle.std.proofs.lemmas.Int.{ints}
use Rattle.std.proofs.lemmas.Bool.{and_parts, or_cases, cases_Bool}
use Rattle.std.proofs.Math.Bool.{and-false}
use Rattle.events.specs.Event.{place_of_seller}
use Rattle.events.specs.declared.event.Event.{Event}
use Rattle.events.specs.declared.event.Event.TheVariants as event
use Rattle.events.specs.declared.event.TrainMove.{TrainMove}
use Rattle.events.specs.declared.event.TrainPlace.TheVariants as place
use Rattle.events.specs.declared.event.TrainSeller.{TrainSeller}
use Rattle.events.specs.declared.event.TrainSeller.TheVariants as seller
use Rattle.totals.proofs.EventAtEnd.{trains_at_end}
use Rattle.history.proofs.Rolling.{sold_at_end}
use Rattle.totals.specs.LookBack.{Game, with_event}
use Rattle.totals.specs.Trains.{TrainsAreHeld, one_if, train_goes, trains_at, trains_sold}
use Rattle.purchases.proofs.Complete.{Alike, alike_closed, alike_on, alike_traded}
use Rattle.purchases.proofs.TrainSteps.{of_bop, of_trade}
use Rattle.purchases.specs.Train.{are_left, first_left, is_kind, is_left, is_on_sale, train_bought}
use Rattle.purchases.specs.Train.{train_purchase_cost, with_bop_closed, with_trade}
use Rattle.purchases.specs.TrainLaws.{TrainsAreAll}
use Rattle.purchases.specs.declared.train.TrainPurchase.{TrainPurchase}
use Rattle.tables.specs.Train.{index_of_kind, same_kind, trains_of}
use Rattle.tables.specs.declared.rolling_stock.Kind.{Kind}
use Rattle.tables.specs.declared.rolling_stock.Kind.TheVariants.{Two, Three, Four, Five, Six, Diesel}
use Rattle.tables.specs.declared.roster.Company.{Company}
use Rattle.tables.proofs.TrainKinds.{kind_is}

-- the train that is bought, as it moves
abbrev pub sale_of : Company → TrainPurchase → TrainMove
sale_of buyer purchase = record { kind = purchase.kind; from = place_of_seller purchase.from; to = place.Company buyer }

-- one more of a kind is sold, where the bank sells one of it
abbrev pub one_sold : Company → TrainPurchase → Kind → ℕ
one_sold buyer purchase kind = one_if (train_goes place.Bank kind (Some (sale_of buyer purchase)))

-- after a purchase
pub record IsBought (buyer : Company) (purchase : TrainPurchase) (kind : Kind) (before after : Game) : Type 0 where
  pub sold : trains_sold after.events kind ≡ trains_sold before.events kind + one_sold buyer purchase kind
  pub out : trains_at after.events place.OutOfPlay kind ≡ trains_at before.events place.OutOfPlay kind

-- nothing that a company buys leaves the place of those out of play
from_play : (from : TrainSeller) (kind of : Kind) (buyer : Company)
    → train_goes place.OutOfPlay kind (Some (record
    { kind = of; from = place_of_seller from; to = place.Company buyer })) ≡ false
from_play seller.Bank kind of buyer = and-false (same_kind of kind)
from_play seller.BankPool kind of buyer = and-false (same_kind of kind)
from_play (seller.Company owner) kind of buyer = and-false (same_kind of kind)

-- so it is
pub is_bought : (game : Game) (buyer : Company) (purchase : TrainPurchase) (kind : Kind)
    → IsBought buyer purchase kind game (train_bought game buyer purchase)
is_bought game buyer purchase kind =
    let traded = with_trade game buyer purchase.trade_in in
    let train = event.Train buyer purchase.kind purchase.from (train_purchase_cost purchase) in
    let came = with_event traded train in
    let trade : Alike kind game traded = of_trade (Alike kind) (alike_on kind) (alike_traded kind) game buyer
    purchase.trade_in in
    let close : Alike kind came (with_bop_closed came buyer) =
    of_bop (Alike kind) (alike_on kind) (alike_closed kind) came buyer in
    record {
      sold = close.sold ∙ sold_at_end traded.events train kind
          ∙ ap (λ (n : ℕ). n + one_sold buyer purchase kind) trade.sold;
      out = omega (
        arith,
        ints,
        close.out,
        trains_at_end traded.events train place.OutOfPlay kind,
        ap one_if
            (and-false (same_kind purchase.kind kind)),
        ap one_if (from_play purchase.from kind purchase.kind buyer),
        trade.out,
      );
    }

-- the kind that the bank sells, by where it is bought
by_seller : (from : TrainSeller) (of kind : Kind) (buyer : Company)
    → (one_if (train_goes place.Bank kind (Some (record
    { kind = of; from = place_of_seller from; to = place.Company buyer }))) ≡ 0)
    ⊎ ((from ≡ seller.Bank) × ((of ≡ kind) × (one_if
    (train_goes place.Bank kind (Some (record { kind = of; from = place_of_seller from; to = place.Company buyer })))
    ≡ 1)))
by_seller seller.Bank of kind buyer =
    elim (cases_Bool (same_kind of kind)) [
      | inl same ↦ inr (refl, (kind_is of kind same, ap (λ (b : Bool). one_if (b && true)) same))
      | inr apart ↦ inl (ap (λ (b : Bool). one_if (b && true)) apart)
    ]
by_seller seller.BankPool of kind buyer = inl (ap one_if (and-false (same_kind of kind)))
by_seller (seller.Company owner) of kind buyer = inl (ap one_if (and-false (same_kind of kind)))

-- the kind that the bank sells by a purchase, if it sells one
pub sold_or_not : (buyer : Company) (purchase : TrainPurchase) (kind : Kind)
    → (one_sold buyer purchase kind ≡ 0) ⊎ ((purchase.from ≡ seller.Bank)
    × ((purchase.kind ≡ kind) × (one_sold buyer purchase kind ≡ 1)))
sold_or_not buyer purchase kind = by_seller purchase.from purchase.kind kind buyer

-- the first of five that is left, by which are
abbrev first_of : Bool → Bool → Bool → Bool → Bool → Option Kind
first_of two three four five six =
    if two then Some Two else if three then Some Three else if four then Some Four else if five then Some
    Five else if six then Some Six else None

-- whether a kind is left, by which are
abbrev left_of : Kind → Bool → Bool → Bool → Bool → Bool → Bool
left_of Two two three four five six = two
left_of Three two three four five six = three
left_of Four two three four five six = four
left_of Five two three four five six = five
left_of Six two three four five six = six
left_of Diesel two three four five six = true

-- a number that is another
same_place : (a b : ℕ) → (a == b) ≡ true → a ≡ b
same_place a b same = (Decides-eqb a b).0 same

-- none of an earlier kind is left than the first that is
gone : (two three four five six : Bool) (earlier kind : Kind) → is_kind (first_of two three four five six) kind ≡ true
    → index_of_kind earlier < index_of_kind kind → left_of earlier two three four five six ≡ false
gone true three four five six earlier kind first before =
    let at = same_place 0 (index_of_kind kind) first in absurd (omega arith)
gone false three four five six Two kind first before = refl
gone false true four five six Three kind first before = let at =
    same_place 1 (index_of_kind kind) first in absurd (omega arith)
gone false true four five six Four kind first before = let at =
    same_place 1 (index_of_kind kind) first in absurd (omega arith)
gone false true four five six Five kind first before = let at =
    same_place 1 (index_of_kind kind) first in absurd (omega arith)
gone false true four five six Six kind first before = let at =
    same_place 1 (index_of_kind kind) first in absurd (omega arith)
gone false true four five six Diesel kind first before = let at =
    same_place 1 (index_of_kind kind) first in absurd (omega arith)
gone false false four five six Three kind first before = refl
gone false false true five six Four kind first before = let at =
    same_place 2 (index_of_kind kind) first in absurd (omega arith)
gone false false true five six Five kind first before = let at =
    same_place 2 (index_of_kind kind) first in absurd (omega arith)
gone false false true five six Six kind first before = let at =
    same_place 2 (index_of_kind kind) first in absurd (omega arith)
gone false false true five six Diesel kind first before = let at =
    same_place 2 (index_of_kind kind) first in absurd (omega arith)
gone false false false five six Four kind first before = refl
gone false false false true six Five kind first before = let at =
    same_place 3 (index_of_kind kind) first in absurd (omega arith)
gone false false false true six Six kind first before = let at =
    same_place 3 (index_of_kind kind) first in absurd (omega arith)
gone false false false true six Diesel kind first before = let at =
    same_place 3 (index_of_kind kind) first in absurd (omega arith)
gone false false false false six Five kind first before = refl
gone false false false false true Six kind first before = let at =
    same_place 4 (index_of_kind kind) first in absurd (omega arith)
gone false false false false true Diesel kind first before = let at =
    same_place 4 (index_of_kind kind) first in absurd (omega arith)
gone false false false false false Six kind first before = refl
gone false false false false false Diesel kind first before = absurd (cc)

-- of a kind with none left all are sold
all_sold : (number : Option ℕ) (sold n : ℕ) → are_left number sold ≡ false → number ≡ Some n → n ≤ sold
all_sold None sold n none is = absurd (cc)
all_sold (Some m) sold n none is =
    let same : m ≡ n = cc in
    subst (λ (k : ℕ). k ≤ sold) same (grind (arith, nat_tests, none))

-- a kind is left where that is so by which are
left_is : (events : List Event) (kind : Kind) → index_of_kind kind < 5
    → left_of kind (is_left events Two) (is_left events Three) (is_left events Four) (is_left events Five)
    (is_left events Six) ≡ is_left events kind
left_is events Two numbered = refl
left_is events Three numbered = refl
left_is events Four numbered = refl
left_is events Five numbered = refl
left_is events Six numbered = refl
left_is events Diesel numbered = absurd (omega arith)

-- all trains of an earlier kind but the 6 are sold where the bank sells one
pub earlier_sold : (game : Game) (kind earlier : Kind) (number : ℕ) → is_on_sale game.events seller.Bank kind ≡ true
    → TrainsAreHeld game.events → TrainsAreAll game.events → (trains_of earlier).number ≡ Some number
    → index_of_kind earlier < 4 → index_of_kind earlier < index_of_kind kind → trains_sold game.events earlier ≡ number
earlier_sold game kind earlier number sells held all there numbered before =
    let events = game.events in
    elim (or_cases (is_kind (first_left events) kind) (same_kind kind Diesel && nat_lt 0 (trains_sold events Six))
    sells) [
      | inl first ↦
          let none = gone (is_left events Two) (is_left events Three) (is_left events Four) (is_left events Five)
          (is_left events Six) earlier kind first before in
          let few = held.sold earlier number there in
          let many = all_sold (trains_of earlier).number (trains_sold events earlier) number
          (sym (left_is events earlier (omega arith)) ∙ none) there in
          omega arith
      | inr diesel ↦
          let six = (and_parts (same_kind kind Diesel) (nat_lt 0 (trains_sold events Six)) diesel).1 in
          all.in_order earlier Six number there numbered (omega arith) (grind (arith, nat_tests, six))
    ]

-- no kind is later than the 6 among those of which the first is sold
six_is_last : (two three four five six : Bool) (kind : Kind) → is_kind (first_of two three four five six) kind ≡ true
    → 4 < index_of_kind kind → ⊥
six_is_last true three four five six kind first later = let at = same_place 0 (index_of_kind kind) first in omega arith
six_is_last false true four five six kind first later = let at = same_place 1 (index_of_kind kind) first in omega arith
six_is_last false false true five six kind first later = let at = same_place 2 (index_of_kind kind) first in omega arith
six_is_last false false false true six kind first later = let at =
    same_place 3 (index_of_kind kind) first in omega arith
six_is_last false false false false true kind first later = let at =
    same_place 4 (index_of_kind kind) first in omega arith
six_is_last false false false false false kind first later = absurd (cc)

-- and none than the D
no_later : (kind : Kind) → 5 < index_of_kind kind → ⊥
no_later Two later = omega arith
no_later Three later = omega arith
no_later Four later = omega arith
no_later Five later = omega arith
no_later Six later = omega arith
no_later Diesel later = omega arith

-- the bank has sold a 6 where it sells a D, and a train of each kind in between
pub between_sold : (game : Game) (kind : Kind) → is_on_sale game.events seller.Bank kind ≡ true
    → TrainsAreHeld game.events → TrainsAreAll game.events → (earlier : Kind)
    → index_of_kind earlier < index_of_kind kind → 0 < trains_sold game.events earlier
between_sold game kind sells held all Two before =
    omega (arith, earlier_sold game kind Two 6 sells held all refl (omega arith) before)
between_sold game kind sells held all Three before =
    omega (arith, earlier_sold game kind Three 5 sells held all refl (omega arith) before)
between_sold game kind sells held all Four before =
    omega (arith, earlier_sold game kind Four 4 sells held all refl (omega arith) before)
between_sold game kind sells held all Five before =
    omega (arith, earlier_sold game kind Five 3 sells held all refl (omega arith) before)
between_sold game kind sells held all Six before =
    elim (or_cases (is_kind (first_left game.events) kind)
    (same_kind kind Diesel && nat_lt 0 (trains_sold game.events Six)) sells) [
      | inl first ↦ absurd (six_is_last (is_left game.events Two) (is_left game.events Three)
          (is_left game.events Four) (is_left game.events Five) (is_left game.events Six) kind first before)
      | inr diesel ↦ let six = (and_parts (same_kind kind Diesel) (nat_lt 0 (trains_sold game.events Six))
          diesel).1 in grind (arith, nat_tests, six)
    ]
between_sold game kind sells held all Diesel before = absurd (no_later kind before)
