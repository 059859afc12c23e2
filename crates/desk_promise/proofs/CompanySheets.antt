-- A sheet of one company with one order, as it is printed: its lines, and how they are read.
use Rattle.std.proofs.Common.{◌≡◌, ℕ, Bool, [], ◌∷◌, Result}
use Rattle.std.proofs.Common.{refl, ap, ◌∙◌, arith}
use Rattle.std.specs.List.{AllByRecursion}
use Rattle.desk_promise.proofs.Names.{ReadWhereSpelt}
use Rattle.desk_promise.proofs.SheetHead.{SpellingIsRead}
use Rattle.desk_promise.proofs.SheetText.{IsSheetLine}
use Rattle.desk_promise.proofs.TurnSheets.{OneIsPlain, ReadAgain, line_at, line_fits, read_in_any}
use Rattle.desk_promise.proofs.UnbrokenOrders.{company_line_unbroken}
use Rattle.desk_promise.specs.LineFile.{IsOfCompanies, line_of_order, orders_of_one}
use Rattle.order_grammar.specs.Condition.{Ordered}
use Rattle.order_grammar.specs.Print.{spelling_of}
use Rattle.order_grammar.specs.Spells.{IsOrder}
use Rattle.order_grammar.specs.Version.{reading_in}
use Rattle.order_grammar.specs.declared.condition.Version.{Version}
use Rattle.order_grammar.specs.declared.fault.Fault.{Fault}
use Rattle.order_grammar.specs.declared.order.Order.{Order}
use Rattle.order_grammar.specs.declared.order.Order.TheVariants as order
use Rattle.order_grammar.specs.declared.order.TrainSource.TheVariants as source
use Rattle.order_grammar.specs.declared.play.PlayOrder.{PlayOrder}
use Rattle.order_grammar.specs.declared.play.PlayOrder.TheVariants as play
use Rattle.sheets.specs.File.{is_sheet_line}
use Rattle.sheets.specs.Part.{SheetParts, numbered, opens_part, parts_of_sheet, with_line}
use Rattle.sheets.specs.Text.{is_blank}
use Rattle.tables.specs.declared.roster.Company.{Company}
use Rattle.tables.specs.declared.roster.Company.TheVariants as companies
use Rattle.tables.specs.declared.round.Round.TheVariants.{Operating}

-- such an order has a spelling
pub is_company_order : (its : PlayOrder) → IsOfCompanies its → IsOrder (order.Play its)
is_company_order (play.Lay lay) fit = (tt, tt, (11, omega arith, refl))
is_company_order (play.Token place) fit = (tt, tt, (12, omega arith, refl))
is_company_order play.RunBest fit = (tt, tt, (13, omega arith, refl))
is_company_order play.Pay fit = (tt, tt, (14, omega arith, refl))
is_company_order play.Withhold fit = (tt, tt, (15, omega arith, refl))
is_company_order (play.BuyTrain kind source.Bank) fit = (fit, tt, (16, omega arith, refl))
is_company_order (play.BuyTrain kind (source.Trade other)) fit = (fit, tt, (16, omega arith, refl))
is_company_order (play.BuyTrain kind source.BankPool) fit = (fit, tt, (16, omega arith, refl))
is_company_order (play.BuyTrain kind (source.Company seller price)) fit = (fit, tt, (16, omega arith, refl))
is_company_order (play.BuyOwnedPrivate private price) fit = (fit, tt, (18, omega arith, refl))
is_company_order (play.Raise company shares) fit = (fit, tt, (19, omega arith, refl))
is_company_order other fit = absurd fit

-- the line of a company is a line of a sheet
company_fits : (company : Company) → IsSheetLine (spelling_of (order.Company company))
unfolding is_blank is_sheet_line
company_fits companies.Pennsylvania = record { unbroken = refl; counts = refl; inside = refl }
company_fits other = record { unbroken = refl; counts = refl; inside = refl }

pub company_lines_fit : ReadWhereSpelt → SpellingIsRead → (company : Company) (its : PlayOrder) → IsOfCompanies its
    → AllByRecursion IsSheetLine (orders_of_one company its)
company_lines_fit spelt is_read company its fit =
    (company_fits company, (line_fits spelt is_read its (is_company_order its fit) (company_line_unbroken its fit), tt))

-- the company's orders are this line, and there are no others
abbrev pub parts_of_one : Company → PlayOrder → SheetParts
parts_of_one company its =
    record {
      before = [];
      opened = record { head = line_at 1 (order.Company company); lines = line_at 2 (order.Play its) ∷ [] } ∷ [];
    }

pub one_company : SpellingIsRead → ReadAgain → OneIsPlain → (version : Version) (set number : ℕ) (company : Company)
    (its : PlayOrder) → IsOfCompanies its
    → parts_of_sheet version (Operating set number) (orders_of_one company its) ≡ parts_of_one company its
one_company is_read again plain version set number company its fit =
    let head = read_in_any is_read again plain version (order.Company company) (tt, tt, (10, omega arith, refl)) in
    let read = read_in_any is_read again plain version (order.Play its) (is_company_order its fit) in
    let opens : Result Order Fault → Bool = opens_part (Operating set number) in
    let none : SheetParts = record { before = []; opened = [] } in
    ap (λ (reading : Result Ordered Fault). with_line opens (numbered 1 reading)
    (with_line opens (numbered 2 (reading_in version (line_of_order its))) none)) head
    ∙ ap (λ (reading : Result Ordered Fault). with_line opens (line_at 1 (order.Company company))
    (with_line opens (numbered 2 reading) none)) read
