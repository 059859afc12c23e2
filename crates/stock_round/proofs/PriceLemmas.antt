-- What a share costs, and what a seat can pay.
use Rattle.std.proofs.Common.{◌≡◌, ℕ, false, List, Option, unwrap_or, ℤ, pos, ◌-ℤ◌, ◌≤ℤ◌, ap, ◌∙◌, arith}
use Rattle.std.proofs.lemmas.Int.{ints}
use Rattle.std.specs.Int.Signed.{lt_z}
use Rattle.certs.specs.Purchase.{is_short_of_cash, price_on, share_price_of}
use Rattle.events.specs.Event.{party_at}
use Rattle.events.specs.declared.event.Event.{Event}
use Rattle.totals.specs.AtEnd.{SaysTheSame}
use Rattle.totals.specs.Bids.{bids_of, free_cash_of}
use Rattle.totals.specs.LookBack.{cash_of}
use Rattle.order_grammar.specs.declared.order.ShareSource.{ShareSource}
use Rattle.order_grammar.specs.declared.order.ShareSource.TheVariants as source
use Rattle.tables.specs.declared.roster.Company.{Company}
use Rattle.tables.specs.declared.seat.Seat.{Seat}

-- a seat that is not short of a sum has it
pub paid : (seats : ℕ) (events : List Event) (seat : Seat) (cost : ℕ) → is_short_of_cash seats events seat cost ≡ false
    → pos cost ≤ℤ free_cash_of seats events seat
unfolding is_short_of_cash
paid seats events seat cost may = grind (arith, ints, may)

-- a seat has as much free
same_free : (seats : ℕ) (before after : List Event) (seat : Seat) → SaysTheSame before after
    → free_cash_of seats after seat ≡ free_cash_of seats before seat
same_free seats before after seat same =
    ap (λ (cash : ℤ). cash -ℤ pos (bids_of after seat)) (same.cash seats (party_at seat))
    ∙ ap (λ (bids : ℕ). cash_of seats before (party_at seat) -ℤ pos bids) (same.bids seat)

-- a seat can pay as much
pub same_purse : (seats : ℕ) (before after : List Event) (seat : Seat) (cost same_cost : ℕ) → SaysTheSame before after
    → same_cost ≡ cost → is_short_of_cash seats after seat same_cost ≡ is_short_of_cash seats before seat cost
unfolding is_short_of_cash
same_purse seats before after seat cost same_cost same is_same =
    ap (λ (n : ℕ). lt_z (free_cash_of seats after seat) (pos n)) is_same
    ∙ ap (λ (free : ℤ). lt_z free (pos cost)) (same_free seats before after seat same)

-- a share costs as much
pub same_price : (before after : List Event) (company : Company) (from : ShareSource) → SaysTheSame before after
    → share_price_of after company from ≡ share_price_of before company from
same_price before after company source.InitialOffering same =
    ap (λ (par : Option ℕ). unwrap_or par 0) (same.par company)
same_price before after company source.BankPool same = ap price_on (same.square company)
