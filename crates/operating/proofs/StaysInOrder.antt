-- A company's turn stays in order as it goes on.
use Rattle.std.proofs.Common.{Result, ◌≡◌}
use Rattle.operating.proofs.Prefixes.{line_adds, prefix_on, withholding_adds}
use Rattle.operating.specs.CompanyOrders.{ReadingLeads}
use Rattle.operating.specs.CompanyTurn.{GoesOn, IsInOrder, state}
use Rattle.operating.specs.Pay.{withheld_if_unpaid}
use Rattle.operating.specs.declared.company_turn.CompanyTurn.{CompanyTurn}
use Rattle.order_grammar.specs.declared.fault.Fault.{Fault}
use Rattle.order_grammar.specs.declared.order.Order.{Order}
use Rattle.sheets.specs.Part.{Numbered}

-- after a line
pub after_line :
    (old new : CompanyTurn) (line : Numbered) (reading : Result Order Fault)
    → ReadingLeads old.by (state old) line reading (state new) →
    GoesOn old new → IsInOrder new
after_line old new line reading leads on =
    record {
      sound = on.sound;
      prefix = prefix_on new.board.value old.history new.history
          (line_adds old.by (state old) line reading (state new) leads) on.prefix;
    }

-- and after what the company withholds by itself
pub after_withholding : (old new : CompanyTurn) → state new ≡ withheld_if_unpaid old.by.company (state old)
    → GoesOn old new → IsInOrder new
after_withholding old new is on =
    record {
      sound = on.sound;
      prefix = prefix_on new.board.value old.history new.history
          (withholding_adds old.by.company old.history new.history old.progress new.progress is) on.prefix;
    }
