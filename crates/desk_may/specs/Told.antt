-- What is told of an order that a rule refuses: the rule. If it is that the buyer has too little money,
-- the price is told as well, and what they have.
use Rattle.std.specs.Prelude.{Bool, true, false, None}
use Rattle.desk_may.specs.declared.told.Held.TheVariants.{Unsaid}
use Rattle.desk_may.specs.declared.told.Told.{Told}
use Rattle.desk_may.specs.declared.told.Told.TheVariants.{Not}
use Rattle.events.specs.declared.ruling.OpeningRule.TheVariants as opening_rule
use Rattle.events.specs.declared.ruling.PrivateRule.TheVariants as private_rule
use Rattle.events.specs.declared.ruling.Refusal.{Refusal}
use Rattle.events.specs.declared.ruling.Refusal.TheVariants as refusal
use Rattle.events.specs.declared.ruling.StockRule.TheVariants as stock_rule
use Rattle.events.specs.declared.ruling.TrainRule.TheVariants as train_rule

-- the rule alone
abbrev pub not_by : Refusal → Told
not_by rule = Not rule None Unsaid

-- the rule is that the buyer has too little money: A5, S10, T3 or P5
abbrev pub lacks_money : Refusal → Bool
lacks_money (refusal.Opening opening_rule.CashTooSmall) = true
lacks_money (refusal.Stock stock_rule.CashTooSmall) = true
lacks_money (refusal.Train train_rule.CashTooSmall) = true
lacks_money (refusal.Private private_rule.CashTooSmall) = true
lacks_money other = false
