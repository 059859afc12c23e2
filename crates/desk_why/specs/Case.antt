-- The rules whose sentences name several alternatives, of which the detail of a refused line says which is the case.
use Rattle.std.specs.Prelude.{Bool, true, false}
use Rattle.desk_base.specs.declared.reason.Reason.{Reason}
use Rattle.desk_base.specs.declared.reason.Reason.TheVariants as reason
use Rattle.events.specs.declared.ruling.PayRule.TheVariants as pay
use Rattle.events.specs.declared.ruling.Refusal.{Refusal}
use Rattle.events.specs.declared.ruling.Refusal.TheVariants as refusal
use Rattle.events.specs.declared.ruling.StockRule.TheVariants as stock
use Rattle.events.specs.declared.ruling.TrainRule.TheVariants as train
use Rattle.map_tables.specs.declared.rules.LayRule.TheVariants as lay
use Rattle.map_tables.specs.declared.rules.RunRule.TheVariants as run
use Rattle.map_tables.specs.declared.rules.TokenRule.TheVariants as token

-- a company that is or is not started; an exchange; a tile of another colour or kind; a token without a slot; a run of a
-- train that is not there, or over track that is not; a dividend; a sale of a train without consent
abbrev pub has_alternatives : Refusal → Bool
has_alternatives (refusal.Stock stock.WrongStart) = true
has_alternatives (refusal.Stock stock.NoExchange) = true
has_alternatives (refusal.Lay lay.WrongTile) = true
has_alternatives (refusal.Token token.NoFreeSlot) = true
has_alternatives (refusal.Run run.NoTrain) = true
has_alternatives (refusal.Run run.NoTrack) = true
has_alternatives (refusal.Pay pay.NothingToPay) = true
has_alternatives (refusal.Train train.NoConsent) = true
has_alternatives other = false

-- a reason is a rule with alternatives
abbrev pub names_alternatives : Reason → Bool
names_alternatives (reason.Order rule) = has_alternatives rule
names_alternatives other = false
