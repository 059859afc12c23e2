-- The rules of play that an order may break: for each family the codes, a letter and the rule's
-- place, and the sentences.
use Rattle.std.specs.Prelude.{ℕ, List, ◌++◌, codes}
use Rattle.events.specs.declared.ruling.OpeningRule.{OpeningRule}
use Rattle.events.specs.declared.ruling.OpeningRule.TheVariants as opening
use Rattle.events.specs.declared.ruling.PayRule.{PayRule}
use Rattle.events.specs.declared.ruling.PayRule.TheVariants as pay_rule
use Rattle.events.specs.declared.ruling.PrivateRule.{PrivateRule}
use Rattle.events.specs.declared.ruling.PrivateRule.TheVariants as private_rule
use Rattle.events.specs.declared.ruling.Refusal.{Refusal}
use Rattle.events.specs.declared.ruling.Refusal.TheVariants as refusal
use Rattle.events.specs.declared.ruling.StockRule.{StockRule}
use Rattle.events.specs.declared.ruling.StockRule.TheVariants as stock
use Rattle.events.specs.declared.ruling.TrainRule.{TrainRule}
use Rattle.events.specs.declared.ruling.TrainRule.TheVariants as train_rule
use Rattle.map_tables.specs.RuleCodes.{code_of_lay_rule, code_of_run_rule, code_of_token_rule}
use Rattle.map_tables.specs.RuleCodes.{sentence_of_lay_rule, sentence_of_run_rule, sentence_of_token_rule}

-- the code of a rule of the opening
abbrev pub code_of_opening_rule : OpeningRule → List ℕ
code_of_opening_rule opening.NotOfOpening = codes "A1"
code_of_opening_rule opening.Sold = codes "A2"
code_of_opening_rule opening.NotCheapest = codes "A3"
code_of_opening_rule opening.BidTooLow = codes "A4"
code_of_opening_rule opening.CashTooSmall = codes "A5"
code_of_opening_rule opening.TurnUsed = codes "A6"
code_of_opening_rule opening.BidForCheapest = codes "A7"

-- the sentence of a rule of the opening
abbrev pub sentence_of_opening_rule : OpeningRule → List ℕ
sentence_of_opening_rule opening.NotOfOpening =
    codes "the line neither buys a private nor bids on one; or a standing PAR is not for BO, or names "
    ++ codes "no par value"
sentence_of_opening_rule opening.Sold = codes "the private is sold"
sentence_of_opening_rule opening.NotCheapest = codes "it buys a private that is not the cheapest unsold"
sentence_of_opening_rule opening.BidTooLow =
    codes "it bids less than 5 above the face value, or less than 5 above an earlier bid"
sentence_of_opening_rule opening.CashTooSmall = codes "it costs more than your cash less your bids on other privates"
sentence_of_opening_rule opening.TurnUsed = codes "you have bought or bid in this turn"
sentence_of_opening_rule opening.BidForCheapest = codes "it bids on the cheapest private"

-- the code of a rule of stock rounds
abbrev pub code_of_stock_rule : StockRule → List ℕ
code_of_stock_rule stock.NotOfStock = codes "S1"
code_of_stock_rule stock.SaleInFirstRound = codes "S2"
code_of_stock_rule stock.NotHeld = codes "S3"
code_of_stock_rule stock.PoolFull = codes "S4"
code_of_stock_rule stock.PresidentMustStay = codes "S5"
code_of_stock_rule stock.SoldInRound = codes "S6"
code_of_stock_rule stock.NoneThere = codes "S7"
code_of_stock_rule stock.NoParValue = codes "S8"
code_of_stock_rule stock.WrongStart = codes "S9"
code_of_stock_rule stock.CashTooSmall = codes "S10"
code_of_stock_rule stock.CertificateLimit = codes "S11"
code_of_stock_rule stock.OverSixShares = codes "S12"
code_of_stock_rule stock.BoughtBefore = codes "S13"
code_of_stock_rule stock.NoExchange = codes "S14"

-- the sentence of a rule of stock rounds
abbrev pub sentence_of_stock_rule : StockRule → List ℕ
sentence_of_stock_rule stock.NotOfStock =
    codes "the line is not PAR, BUY of a share, SELL or EXCHANGE; or the RAISE is not needed"
sentence_of_stock_rule stock.SaleInFirstRound = codes "it sells in SR1"
sentence_of_stock_rule stock.NotHeld = codes "it sells nothing, or more than you hold"
sentence_of_stock_rule stock.PoolFull = codes "it would leave more than half the company's shares in the pool"
sentence_of_stock_rule stock.PresidentMustStay =
    codes "you preside, would be left with fewer than two shares, and nobody else has two to take the "
    ++ codes "president's certificate; or a RAISE would move the presidency of the company that operates"
sentence_of_stock_rule stock.SoldInRound = codes "you have sold shares of the company in this round"
sentence_of_stock_rule stock.NoneThere = codes "that place has no share left"
sentence_of_stock_rule stock.NoParValue = codes "it names no par value"
sentence_of_stock_rule stock.WrongStart =
    codes "it starts a company that is started, or trades shares of one not yet started"
sentence_of_stock_rule stock.CashTooSmall = codes "it costs more than your cash"
sentence_of_stock_rule stock.CertificateLimit = codes "you hold as many certificates as you may, and this one counts"
sentence_of_stock_rule stock.OverSixShares =
    codes "you would hold more than six shares, outside the orange and the brown zone"
sentence_of_stock_rule stock.BoughtBefore = codes "you have bought in this turn"
sentence_of_stock_rule stock.NoExchange =
    codes "you do not own MH, no share of NYC is left, or you hold six and its token is in neither the "
    ++ codes "orange nor the brown zone"

-- the code of a rule of dividends
abbrev pub code_of_pay_rule : PayRule → List ℕ
code_of_pay_rule pay_rule.NothingToPay = codes "D1"

-- the sentence of a rule of dividends
abbrev pub sentence_of_pay_rule : PayRule → List ℕ
sentence_of_pay_rule pay_rule.NothingToPay =
    codes "the company has paid or withheld; or it is PAY, and nothing was earned"

-- the code of a rule of trains
abbrev pub code_of_train_rule : TrainRule → List ℕ
code_of_train_rule train_rule.NotOnSale = codes "T1"
code_of_train_rule train_rule.TrainLimit = codes "T2"
code_of_train_rule train_rule.CashTooSmall = codes "T3"
code_of_train_rule train_rule.NoConsent = codes "T4"
code_of_train_rule train_rule.NotSellers = codes "T5"
code_of_train_rule train_rule.NoTradeIn = codes "T6"
code_of_train_rule train_rule.NoDiscard = codes "T7"

-- the sentence of a rule of trains
abbrev pub sentence_of_train_rule : TrainRule → List ℕ
sentence_of_train_rule train_rule.NotOnSale = codes "the bank or the pool does not sell such a train now"
sentence_of_train_rule train_rule.TrainLimit = codes "the company has as many trains as it may"
sentence_of_train_rule train_rule.CashTooSmall = codes "it costs more than the company's cash"
sentence_of_train_rule train_rule.NoConsent =
    codes "who sells has not consented to exactly this sale in this round, or the price is 0; or an "
    ++ codes "OFFER is at 0, or not of the seller's president"
sentence_of_train_rule train_rule.NotSellers = codes "the seller has no such train, or is the buyer"
sentence_of_train_rule train_rule.NoTradeIn =
    codes "the train to be traded in is not the company's, or no 4, 5 or 6, or not for a D"
sentence_of_train_rule train_rule.NoDiscard =
    codes "DISCARD of a company over which you did not preside as the round began, or of a train that "
    ++ codes "it did not have"

-- the code of a rule of privates that companies buy
abbrev pub code_of_private_rule : PrivateRule → List ℕ
code_of_private_rule private_rule.TooEarly = codes "P1"
code_of_private_rule private_rule.WrongPrice = codes "P2"
code_of_private_rule private_rule.NoConsent = codes "P3"
code_of_private_rule private_rule.NeverSold = codes "P4"
code_of_private_rule private_rule.CashTooSmall = codes "P5"

-- the sentence of a rule of privates that companies buy
abbrev pub sentence_of_private_rule : PrivateRule → List ℕ
sentence_of_private_rule private_rule.TooEarly = codes "it comes before phase 3"
sentence_of_private_rule private_rule.WrongPrice =
    codes "the price is less than half the face value or more than twice it"
sentence_of_private_rule private_rule.NoConsent =
    codes "no player owns it, or its owner has not consented to exactly this sale in this round; or an "
    ++ codes "OFFER is not of its owner"
sentence_of_private_rule private_rule.NeverSold = codes "it is BOP"
sentence_of_private_rule private_rule.CashTooSmall = codes "it costs more than the company's cash"

-- the code of a rule of play
abbrev pub code_of_refusal : Refusal → List ℕ
code_of_refusal (refusal.Opening rule) = code_of_opening_rule rule
code_of_refusal (refusal.Stock rule) = code_of_stock_rule rule
code_of_refusal (refusal.Lay rule) = code_of_lay_rule rule
code_of_refusal (refusal.Token rule) = code_of_token_rule rule
code_of_refusal (refusal.Run rule) = code_of_run_rule rule
code_of_refusal (refusal.Pay rule) = code_of_pay_rule rule
code_of_refusal (refusal.Train rule) = code_of_train_rule rule
code_of_refusal (refusal.Private rule) = code_of_private_rule rule
code_of_refusal refusal.Condition = codes "I1"

-- the sentence of a rule of play
abbrev pub sentence_of_refusal : Refusal → List ℕ
sentence_of_refusal (refusal.Opening rule) = sentence_of_opening_rule rule
sentence_of_refusal (refusal.Stock rule) = sentence_of_stock_rule rule
sentence_of_refusal (refusal.Lay rule) = sentence_of_lay_rule rule
sentence_of_refusal (refusal.Token rule) = sentence_of_token_rule rule
sentence_of_refusal (refusal.Run rule) = sentence_of_run_rule rule
sentence_of_refusal (refusal.Pay rule) = sentence_of_pay_rule rule
sentence_of_refusal (refusal.Train rule) = sentence_of_train_rule rule
sentence_of_refusal (refusal.Private rule) = sentence_of_private_rule rule
sentence_of_refusal refusal.Condition =
    codes "the condition does not hold when the line is reached, or, for a standing line, when the "
    ++ codes "round begins"
