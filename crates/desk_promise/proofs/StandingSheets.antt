-- A sheet of one standing line, as it is printed: and how it is read.
use Rattle.std.proofs.Common.{◌≡◌, Bool, [], ◌∷◌, Result, refl, ap, ◌∙◌, arith}
use Rattle.std.specs.Prelude.{if◌then◌else◌}
use Rattle.std.specs.List.{AllByRecursion}
use Rattle.desk_promise.proofs.Names.{ReadWhereSpelt}
use Rattle.desk_promise.proofs.SheetHead.{SpellingIsRead}
use Rattle.desk_promise.proofs.SheetText.{IsSheetLine}
use Rattle.desk_promise.proofs.TurnSheets.{OneIsPlain, ReadAgain, line_at, line_fits, order_opens_none, read_in_any}
use Rattle.desk_promise.proofs.UnbrokenOrders.{standing_line_unbroken}
use Rattle.desk_promise.specs.LineFile.{IsStanding, standing_of_one}
use Rattle.order_grammar.specs.Condition.{Ordered}
use Rattle.order_grammar.specs.Spells.{IsOrder}
use Rattle.order_grammar.specs.declared.condition.Version.{Version}
use Rattle.order_grammar.specs.declared.fault.Fault.{Fault}
use Rattle.order_grammar.specs.declared.order.Offer.TheVariants as offer
use Rattle.order_grammar.specs.declared.order.Order.TheVariants as order
use Rattle.order_grammar.specs.declared.play.PlayOrder.{PlayOrder}
use Rattle.order_grammar.specs.declared.play.PlayOrder.TheVariants as play
use Rattle.sheets.specs.Part.{SheetParts, after_head, after_line, numbered, opens_part, parts_of_sheet, with_line}
use Rattle.tables.specs.declared.round.Round.{Round}

-- such an order has a spelling
pub is_standing_order : (its : PlayOrder) → IsStanding its → IsOrder (order.Play its)
is_standing_order (play.Limit private amount) fit = (fit, tt, (6, omega arith, refl))
is_standing_order (play.Discard company kind) fit = (tt, tt, (17, omega arith, refl))
is_standing_order (play.Offer (offer.Private private buyer price)) fit = (fit, tt, (20, omega arith, refl))
is_standing_order (play.Offer (offer.Train kind seller buyer price)) fit = (fit, tt, (20, omega arith, refl))
is_standing_order other fit = absurd fit

pub standing_lines_fit : ReadWhereSpelt → SpellingIsRead → (its : PlayOrder) → IsStanding its
    → AllByRecursion IsSheetLine (standing_of_one its)
standing_lines_fit spelt is_read its fit =
    (line_fits spelt is_read its (is_standing_order its fit) (standing_line_unbroken its fit), tt)

pub one_standing_line : SpellingIsRead → ReadAgain → OneIsPlain → (version : Version) (round : Round) (its : PlayOrder)
    → IsStanding its
    → parts_of_sheet version round (standing_of_one its) ≡ record { before = line_at 1 (order.Play its) ∷ []; opened = [] }
one_standing_line is_read again plain version round its fit =
    let read = read_in_any is_read again plain version (order.Play its) (is_standing_order its fit) in
    let none : SheetParts = record { before = []; opened = [] } in
    ap (λ (reading : Result Ordered Fault). with_line (opens_part round) (numbered 1 reading) none) read
    ∙ ap (λ (b : Bool). if b then after_head (line_at 1 (order.Play its)) none else after_line (line_at 1 (order.Play its)) none)
    (order_opens_none round its)
