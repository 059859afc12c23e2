-- A purchase that breaks no rule can be done.
use Rattle.std.proofs.Common.{◌≡◌, ℕ, Bool, List, None}
use Rattle.events.specs.RuleCodes.{code_of_opening_rule}
use Rattle.events.specs.declared.event.Event.{Event}
use Rattle.events.specs.declared.ruling.OpeningRule.TheVariants.{Sold, CashTooSmall}
use Rattle.privates.proofs.BankLemmas.{within}
use Rattle.privates.specs.Bank.{MayPay, price_of_private}
use Rattle.privates.specs.Buy.{private_purchase_rules}
use Rattle.tables.proofs.Rules.{not_broken}
use Rattle.tables.specs.Rules.{first_broken}
use Rattle.tables.specs.declared.roster.Private.{Private}
use Rattle.tables.specs.declared.seat.Seat.{Seat}

-- a purchase that breaks no rule can be paid
pub may_buy : (seats : ℕ) (events : List Event) (seat : Seat) (used : Bool) (private : Private)
    → first_broken (private_purchase_rules seats events seat used private) ≡ None
    → MayPay seats events seat private (price_of_private events private)
may_buy seats events seat used private none =
    let kept = not_broken code_of_opening_rule (private_purchase_rules seats events seat used private) none in
    record { unsold = kept Sold; free = within seats events seat private (price_of_private events private) (kept CashTooSmall) }
