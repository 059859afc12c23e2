-- Where as many trains are sold, and as many lie with each company and in the bank pool, what a purchase of
-- a train depends on is the same.
use Rattle.std.proofs.Common.{◌≡◌, Bool, not, nat_lt, ◌||◌, ◌&&◌, cond, List, [], ◌∷◌, Option, Some, None, ℕ, ℤ, pos}
use Rattle.std.proofs.Common.{◌++◌, ◌-ℤ◌, ◌+ℤ◌, refl, ap, ◌∙◌, arith}
use Rattle.std.specs.Int.Signed.{lt_z}
use Rattle.events.specs.Event.{train_owner_place, train_moved}
use Rattle.events.specs.declared.event.Event.{Event}
use Rattle.events.specs.declared.event.TrainPlace.TheVariants as place
use Rattle.events.specs.declared.event.TrainSeller.{TrainSeller}
use Rattle.events.specs.declared.event.TrainSeller.TheVariants as seller
use Rattle.totals.proofs.EventAtEnd.{trains_at_before}
use Rattle.totals.specs.Trains.{one_if, phase_of, train_count, train_goes, trains_held, trains_of_kinds, trains_sold}
use Rattle.history.proofs.Rolling.{sold_at_end}
use Rattle.purchases.specs.Train.{are_left, first_left, first_left_of, is_at_train_limit, is_kind, is_left}
use Rattle.purchases.specs.Train.{is_no_trade_in, is_not_sellers, is_on_sale, may_be_traded, numbered_kinds}
use Rattle.purchases.specs.Train.{sells_diesels, traded_count}
use Rattle.tables.specs.Roster.{same_company}
use Rattle.tables.specs.Train.{kinds, limit_of, same_kind, trains_of}
use Rattle.tables.specs.declared.rolling_stock.Kind.{Kind}
use Rattle.tables.specs.declared.rolling_stock.Kind.TheVariants.{Six, Diesel}
use Rattle.tables.specs.declared.roster.Company.{Company}

-- two lists of events have as many trains sold, and as many with each owner
pub record AreTrainsAlike (old new : List Event) : Type 0 where
  pub sold : (kind : Kind) → trains_sold new kind ≡ trains_sold old kind
  pub held : (owner : Option Company) (kind : Kind) → trains_held new owner kind ≡ trains_held old owner kind

-- an event at the end by which no train moves leaves them alike
pub alike_at_end : (events : List Event) (its : Event) → train_moved its ≡ None
    → AreTrainsAlike events (events ++ its ∷ [])
alike_at_end events its none =
    record {
      sold = λ kind.
          let goes : one_if (train_goes place.Bank kind (train_moved its)) ≡ 0 =
          ap (λ move. one_if (train_goes place.Bank kind move)) none in
          omega (arith, sold_at_end events its kind, goes);
      held = λ owner kind. trains_at_before events its (train_owner_place owner) kind none;
    }

module _ {old new : List Event} (alike : AreTrainsAlike old new) where
  -- of all kinds together
  same_kinds : (owner : Option Company) (some : List Kind)
      → trains_of_kinds new owner some ≡ trains_of_kinds old owner some
  same_kinds owner [] = refl
  same_kinds owner (kind ∷ others) =
      ap (λ (n : ℤ). n +ℤ trains_of_kinds new owner others) (alike.held owner kind)
      ∙ ap (λ (n : ℤ). trains_held old owner kind +ℤ n) (same_kinds owner others)

  -- the same kinds are left
  same_left : (kind : Kind) → is_left new kind ≡ is_left old kind
  same_left kind = ap (are_left (trains_of kind).number) (alike.sold kind)

  same_first : (some : List Kind) → first_left_of new some ≡ first_left_of old some
  same_first [] = refl
  same_first (kind ∷ others) =
      ap (λ (b : Bool). cond b (Some kind) (first_left_of new others)) (same_left kind)
      ∙ ap (λ (found : Option Kind). cond (is_left old kind) (Some kind) found) (same_first others)

  -- the same is on sale
  pub same_sale : (from : TrainSeller) (kind : Kind) → is_on_sale new from kind ≡ is_on_sale old from kind
  same_sale seller.Bank kind =
      ap (λ (found : Option Kind). is_kind found kind || (same_kind kind Diesel && sells_diesels new))
      (same_first numbered_kinds)
      ∙ ap (λ (sold : ℕ). is_kind (first_left old) kind || (same_kind kind Diesel && nat_lt 0 sold)) (alike.sold Six)
  same_sale seller.BankPool kind = ap (lt_z (pos 0)) (alike.held None kind)
  same_sale (seller.Company company) kind = refl

  -- the same is full, in the same phase
  pub same_full : (company : Company) (trade_in : Option Kind) → phase_of new ≡ phase_of old
      → is_at_train_limit new company trade_in ≡ is_at_train_limit old company trade_in
  same_full company trade_in phase_stays =
      ap (λ (size : ℤ). not (lt_z (size -ℤ pos (traded_count trade_in)) (pos (limit_of (phase_of new)))))
      (same_kinds (Some company) kinds)
      ∙ ap (λ (phase : Kind). not (lt_z (train_count old (Some company) -ℤ pos (traded_count trade_in))
      (pos (limit_of phase)))) phase_stays

  -- the same is the seller's
  pub same_seller : (buyer : Company) (kind : Kind) (from : TrainSeller)
      → is_not_sellers new buyer kind from ≡ is_not_sellers old buyer kind from
  same_seller buyer kind seller.Bank = refl
  same_seller buyer kind seller.BankPool = refl
  same_seller buyer kind (seller.Company company) =
      ap (λ (held : ℤ). not (lt_z (pos 0) held) || same_company buyer company) (alike.held (Some company) kind)

  -- the same may be traded in
  pub same_trade : (company : Company) (kind : Kind) (trade_in : Option Kind)
      → is_no_trade_in new company kind trade_in ≡ is_no_trade_in old company kind trade_in
  same_trade company kind None = refl
  same_trade company kind (Some trade_in) =
      ap (λ (held : ℤ). not (same_kind kind Diesel && (may_be_traded trade_in && lt_z (pos 0) held)))
      (alike.held (Some company) trade_in)
