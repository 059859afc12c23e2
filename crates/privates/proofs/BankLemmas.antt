-- What a seat can pay stays, where a list says the same of what parties have and own.
use Rattle.std.proofs.Common.{◌≡◌, ℕ, Bool, false, T, not, List, pos, ◌≤ℤ◌, ◌-ℤ◌, unwrap_or, arith, ℤ, refl}
use Rattle.std.proofs.Common.{sym, subst, ap, ◌∙◌}
use Rattle.std.specs.Int.Signed.{lt_z_no}
use Rattle.events.specs.Event.{party_at}
use Rattle.events.specs.declared.event.Event.{Event}
use Rattle.totals.proofs.Standing.{bids_split}
use Rattle.totals.specs.Bids.{bids_elsewhere_of, free_for, tied_on}
use Rattle.totals.specs.AtEnd.{SaysTheSame}
use Rattle.totals.specs.LookBack.{cash_of}
use Rattle.privates.specs.Bank.{MayPay, is_short, price_of_private}
use Rattle.tables.specs.declared.roster.Private.{Private}
use Rattle.tables.specs.declared.roster.Private.TheVariants.{SchuylkillValley}
use Rattle.tables.specs.declared.seat.Seat.{Seat}

-- a sum that a seat is not short of is within what it can spend
pub within : (seats : ℕ) (events : List Event) (seat : Seat) (private : Private) (sum : ℕ)
    → is_short seats events seat private sum ≡ false → pos sum ≤ℤ free_for seats events seat private
within seats events seat private sum kept = lt_z_no (subst (λ (b : Bool). T (not b)) (sym kept) tt)

-- a seat's bids elsewhere stay where its bids do
same_elsewhere : (before after : List Event) (seat : Seat) (private : Private) → SaysTheSame before after
    → bids_elsewhere_of after seat private ≡ bids_elsewhere_of before seat private
same_elsewhere before after seat private same =
    let all = same.bids seat in
    let one : tied_on after seat private ≡ tied_on before seat private =
    ap (λ bid. unwrap_or bid 0) (same.bid private seat) in
    omega (arith, bids_split before seat private, bids_split after seat private)

-- what a seat can spend stays where cash and bids do
same_free : (seats : ℕ) (before after : List Event) (seat : Seat) (private : Private) → SaysTheSame before after
    → free_for seats after seat private ≡ free_for seats before seat private
same_free seats before after seat private same =
    ap (λ (cash : ℤ). cash -ℤ pos (bids_elsewhere_of after seat private)) (same.cash seats (party_at seat))
    ∙ ap (λ (bids : ℕ). cash_of seats before (party_at seat) -ℤ pos bids)
    (same_elsewhere before after seat private same)

-- the price of the bank stays where SV's price does
pub same_price : (before after : List Event) (private : Private) → SaysTheSame before after
    → price_of_private after private ≡ price_of_private before private
same_price before after SchuylkillValley same = same.sv_price
same_price before after other same = refl

-- a seat can still pay
pub same_pay : (seats : ℕ) (before after : List Event) (seat : Seat) (private : Private) (price same_price : ℕ)
    → SaysTheSame before after → same_price ≡ price → MayPay seats before seat private price
    → MayPay seats after seat private same_price
same_pay seats before after seat private price same_price same is_same may =
    record {
      unsold = same.sold private ∙ may.unsold;
      free = subst (λ (n : ℕ). pos n ≤ℤ free_for seats after seat private) (sym is_same)
          (subst (λ (free : ℤ). pos price ≤ℤ free) (sym (same_free seats before after seat private same)) may.free);
    }
