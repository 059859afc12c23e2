-- The sums that the lines of a sheet name are at most 99,999, as those of each order that was read.
use Rattle.std.specs.Prelude.{◌≤◌, List, [], ◌∷◌, Result, Ok, Err}
use Rattle.events.specs.declared.ruling.Ruling.{Ruling}
use Rattle.events.specs.declared.ruling.Ruling.TheVariants.{Obeyed}
use Rattle.order_grammar.specs.declared.fault.Fault.{Fault}
use Rattle.order_grammar.specs.declared.order.Order.{Order}
use Rattle.order_grammar.specs.declared.order.Order.TheVariants.{Play}
use Rattle.order_grammar.specs.declared.order.TrainSource.TheVariants.{Company}
use Rattle.order_grammar.specs.declared.play.PlayOrder.TheVariants.{Bid, BuyTrain, Limit}
use Rattle.sheets.specs.Part.{Numbered, SheetParts, IsAtHead, written_turns_of}

-- the sum of a bid or a limit is at most 99,999, and the price at which a company is to sell a
-- train
abbrev pub IsSmallOrder : Order → Type 0
IsSmallOrder (Play (Bid private amount)) = amount ≤ 99999
IsSmallOrder (Play (Limit private amount)) = amount ≤ 99999
IsSmallOrder (Play (BuyTrain kind (Company seller price))) = price ≤ 99999
IsSmallOrder other = Unit {0}

-- the sums of an order that is obeyed are at most 99,999
abbrev pub IsSmallRuling : Ruling → Type 0
IsSmallRuling (Obeyed condition order) = IsSmallOrder order
IsSmallRuling other = Unit {0}

-- the sums of an order that a line is read as are at most 99,999
abbrev pub IsSmallReading : Result Order Fault → Type 0
IsSmallReading (Ok order) = IsSmallOrder order
IsSmallReading (Err fault) = Unit {0}

-- the sums of some lines are at most 99,999
abbrev pub AreSmall : List Numbered → Type 0
AreSmall [] = Unit {0}
AreSmall (line ∷ lines) = IsSmallReading line.reading × AreSmall lines

-- the sums of the lines of some written turns are at most 99,999
abbrev pub WrittenTurnsAreSmall : List (List Numbered) → Type 0
WrittenTurnsAreSmall [] = Unit {0}
WrittenTurnsAreSmall (written ∷ written_turns) = AreSmall written × WrittenTurnsAreSmall written_turns

-- the sums of a sheet are at most 99,999
abbrev pub PartsAreSmall : SheetParts → Type 0
PartsAreSmall parts = AreSmall parts.before × WrittenTurnsAreSmall (written_turns_of parts)

-- a sheet whose standing lines are ruled
pub record IsReady (parts : SheetParts) : Type 0 where
  pub is_at_head : IsAtHead parts
  pub small : PartsAreSmall parts
