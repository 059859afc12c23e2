-- Orders that were read name small sums, so the lines of a sheet do.
use Rattle.std.proofs.Common.{◌≡◌, ℕ, ◌+◌, Bool, true, false, nat_lt, if◌then◌else◌, List, [], ◌∷◌, unwrap_or, Result}
use Rattle.std.proofs.Common.{Ok, Err, refl, sym, subst, arith}
use Rattle.std.proofs.lemmas.Bool.Decides.{nat_tests}
use Rattle.order_grammar.proofs.VersionLemmas.{read_spells_in}
use Rattle.order_grammar.specs.Condition.{Ordered}
use Rattle.order_grammar.specs.Spells.{HasSmallNumbers}
use Rattle.order_grammar.specs.Version.{reading_in}
use Rattle.order_grammar.specs.declared.condition.Version.{Version}
use Rattle.order_grammar.specs.declared.fault.Fault.{Fault}
use Rattle.order_grammar.specs.declared.fault.Fault.TheVariants.{PastLastLine}
use Rattle.order_grammar.specs.declared.order.Order.{Order}
use Rattle.order_grammar.specs.declared.order.Order.TheVariants.{Play}
use Rattle.order_grammar.specs.declared.order.TrainSource.TheVariants.{Bank, BankPool, Company, Trade}
use Rattle.order_grammar.specs.declared.play.PlayOrder.TheVariants.{Bid, BuyTrain, Limit}
use Rattle.turns.specs.Small.{IsReady, IsSmallOrder, IsSmallReading, PartsAreSmall}
use Rattle.sheets.specs.File.{sheet_of, version_of}
use Rattle.sheets.specs.Limits.{lines_most}
use Rattle.sheets.specs.Part.{Numbered, SheetParts, after_head, after_line, numbered, opens_part, parts_after}
use Rattle.sheets.specs.Part.{parts_for, reading_at}
use Rattle.sheets.specs.Reading.{order_read}
use Rattle.tables.specs.declared.round.Round.{Round}

-- an order with small numbers is small
small_order : (order : Order) → HasSmallNumbers order → IsSmallOrder order
small_order (Play (Bid private amount)) small = grind (arith, nat_tests)
small_order (Play (Limit private amount)) small = grind (arith, nat_tests)
small_order (Play (BuyTrain kind (Company seller price))) small = grind (arith, nat_tests)
small_order (Play (BuyTrain kind Bank)) small = tt
small_order (Play (BuyTrain kind (Trade trade_in))) small = tt
small_order (Play (BuyTrain kind BankPool)) small = tt
small_order other small = tt

-- what a line is read as is small
small_reading : (version : Version) (line : List ℕ) (reading : Result Ordered Fault)
    → reading_in version line ≡ reading →
    IsSmallReading (order_read reading)
small_reading version line (Ok spelt) read = small_order spelt.order (read_spells_in version line spelt read).small.1
small_reading version line (Err fault) read = tt

-- even if it is
small_where : (past : Bool) (reading : Result Order Fault) → IsSmallReading reading
    → IsSmallReading (if past then Err PastLastLine else reading)
small_where true reading small = tt
small_where false reading small = small

-- a line before parts
small_with : (head : Bool) (line : Numbered) (parts : SheetParts) → IsSmallReading line.reading → PartsAreSmall parts →
    PartsAreSmall (if head then after_head line parts else after_line line parts)
small_with true line parts small others = (tt, (others.0, others.1))
small_with false line parts small others = ((small, others.0), others.1)

-- the lines of a sheet are small
small_after : (version : Version) (round : Round) (lines : List (List ℕ)) (count : ℕ) →
    PartsAreSmall (parts_after version (opens_part round) count lines)
small_after version round [] count = (tt, tt)
small_after version round (line ∷ lines) count =
    let reading : Result Ordered Fault = reading_in version line in
    let small = small_where (nat_lt lines_most (count + 1)) (order_read reading)
    (small_reading version line reading refl) in
    small_with (opens_part round (reading_at (count + 1) (order_read reading))) (numbered (count + 1) reading)
    (parts_after version (opens_part round) (count + 1) lines) small (small_after version round lines (count + 1))

-- so are those of a seat's sheet
pub parts_small : (file : List ℕ) (round : Round) (seat : ℕ) → PartsAreSmall (parts_for file round seat)
parts_small file round seat = small_after (version_of file) round (unwrap_or (sheet_of file seat round) []) 0

-- once the standing lines are ruled a sheet is ready
pub ready_after : (sheet new : SheetParts) → new ≡ record { before = []; opened = sheet.opened } → PartsAreSmall sheet
    → IsReady new
ready_after sheet new left small =
    subst IsReady (sym left) (record { is_at_head = refl; small = (tt, small.1) })
