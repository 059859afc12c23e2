-- A sheet of one turn with one order, as it is printed: its lines, and how they are read.
use Rattle.std.proofs.Common.{◌≡◌, ℕ, true, false, List, [], ◌∷◌, codes, Option, None, Result, Ok}
use Rattle.std.proofs.Common.{refl, ap, ◌∙◌, arith}
use Rattle.std.specs.List.{AllByRecursion}
use Rattle.std.specs.Prelude.{Bool, if◌then◌else◌}
use Rattle.desk_promise.proofs.Names.{ReadWhereSpelt}
use Rattle.desk_promise.proofs.OneLine.{IsUnbroken}
use Rattle.desk_promise.proofs.PlayWords.{begin_in_sheet}
use Rattle.desk_promise.proofs.UnbrokenOrders.{line_unbroken}
use Rattle.desk_promise.proofs.SheetHead.{SpellingIsRead, not_blank}
use Rattle.desk_promise.proofs.SheetText.{IsSheetLine}
use Rattle.desk_promise.specs.LineFile.{IsOfTurns, HasTurns, line_of_order, turn_of_one}
use Rattle.order_grammar.specs.Condition.{Ordered, ordered, unconditional}
use Rattle.order_grammar.specs.Line.{reading_of}
use Rattle.order_grammar.specs.Print.{conditional_spelling, spelling_of}
use Rattle.order_grammar.specs.Spells.{IsOrder}
use Rattle.order_grammar.specs.SpellsVersion.{IsOrderUnder}
use Rattle.order_grammar.specs.Version.{reading_in}
use Rattle.order_grammar.specs.Words.{words_of}
use Rattle.order_grammar.specs.declared.condition.Condition.{Condition}
use Rattle.order_grammar.specs.declared.condition.Version.{Version}
use Rattle.order_grammar.specs.declared.condition.Version.TheVariants.{One, Two}
use Rattle.order_grammar.specs.declared.fault.Fault.{Fault}
use Rattle.order_grammar.specs.declared.order.Order.{Order}
use Rattle.order_grammar.specs.declared.order.Order.TheVariants as order
use Rattle.order_grammar.specs.declared.play.PlayOrder.{PlayOrder}
use Rattle.order_grammar.specs.declared.play.PlayOrder.TheVariants as play
use Rattle.sheets.proofs.Heads.{turn_read}
use Rattle.sheets.specs.File.{is_sheet_line}
use Rattle.sheets.specs.Part.{Numbered, SheetParts, after_head, after_line, numbered, opens_part}
use Rattle.sheets.specs.Part.{parts_of_sheet, with_line}
use Rattle.sheets.specs.Text.{is_blank}
use Rattle.tables.specs.declared.round.Round.{Round}
use Rattle.tables.specs.declared.round.Round.TheVariants.{Opening, Stock, Operating}

-- such an order has a spelling
pub is_order : (its : PlayOrder) → IsOfTurns its → IsOrder (order.Play its)
is_order (play.BuyPrivate private) fit = (tt, tt, (4, omega arith, refl))
is_order (play.Bid private amount) fit = (fit, tt, (5, omega arith, refl))
is_order (play.Par company price) fit = (fit, tt, (7, omega arith, refl))
is_order (play.BuyShare company from) fit = (tt, tt, (4, omega arith, refl))
is_order (play.Sell company shares) fit = (fit, tt, (8, omega arith, refl))
is_order play.ExchangeMohawk fit = (tt, tt, (9, omega arith, refl))
is_order other fit = absurd fit

turn_fits : IsSheetLine (codes "TURN")
unfolding is_blank is_sheet_line
turn_fits = record { unbroken = refl; counts = refl; inside = refl }

module _ (spelt : ReadWhereSpelt) (is_read : SpellingIsRead) where
  pub line_fits : (its : PlayOrder) → IsOrder (order.Play its) → IsUnbroken (line_of_order its)
      → IsSheetLine (line_of_order its)
  unfolding is_sheet_line
  line_fits its fit unbroken =
      let read : reading_of (line_of_order its) ≡ Ok (order.Play its) = is_read (order.Play its) fit in
      let begin = begin_in_sheet its (words_of (line_of_order its)) ((spelt (line_of_order its) (order.Play its)).0 read).loosely.words in
      record {
        unbroken = unbroken;
        counts = not_blank (line_of_order its) begin.some;
        inside = begin.other;
      }

  pub turn_lines_fit : (its : PlayOrder) → IsOfTurns its → AllByRecursion IsSheetLine (turn_of_one its)
  turn_lines_fit its fit = (turn_fits, (line_fits its (is_order its fit) (line_unbroken its fit), tt))

-- the spelling of an order is read in both versions
abbrev pub ReadAgain : Type 0
ReadAgain = (condition : Option Condition) (its : Order) → IsOrderUnder condition its
    → reading_in Two (conditional_spelling condition its) ≡ Ok (ordered condition its)

abbrev pub OneIsPlain : Type 0
OneIsPlain = (line : List ℕ) → reading_in One line ≡ unconditional (reading_of line)

pub read_in_any : SpellingIsRead → ReadAgain → OneIsPlain → (version : Version) (its : Order) → IsOrder its
    → reading_in version (spelling_of its) ≡ Ok (ordered None its)
read_in_any is_read again plain One its fit = plain (spelling_of its) ∙ ap unconditional (is_read its fit)
read_in_any is_read again plain Two its fit = again None its fit

-- the line with this number that is read as an order
abbrev pub line_at : ℕ → Order → Numbered
line_at number its = record { number = number; condition = None; reading = Ok its }

-- the head is a head
head_opens : (round : Round) → HasTurns round → opens_part round (Ok order.Turn) ≡ true
head_opens (Opening number) turns = refl
head_opens (Stock set) turns = refl
head_opens (Operating set number) turns = absurd turns

-- an order is none
pub order_opens_none : (round : Round) (its : PlayOrder) → opens_part round (Ok (order.Play its)) ≡ false
order_opens_none (Opening number) its = refl
order_opens_none (Stock set) its = refl
order_opens_none (Operating set number) its = refl

-- what the head is read as
head_is : (version : Version) → (numbered 1 (reading_in version (codes "TURN"))).reading ≡ Ok order.Turn
head_is version = turn_read version

pub one_turn : SpellingIsRead → ReadAgain → OneIsPlain → (version : Version) (round : Round) (its : PlayOrder)
    → HasTurns round → IsOfTurns its
    → parts_of_sheet version round (turn_of_one its) ≡ record {
      before = [];
      opened = record { head = numbered 1 (reading_in version (codes "TURN")); lines = line_at 2 (order.Play its) ∷ [] } ∷ [];
    }
one_turn is_read again plain version round its turns fit =
    let read = read_in_any is_read again plain version (order.Play its) (is_order its fit) in
    let none : SheetParts = record { before = []; opened = [] } in
    let first : Numbered = numbered 1 (reading_in version (codes "TURN")) in
    let rest : SheetParts = record { before = line_at 2 (order.Play its) ∷ []; opened = [] } in
    ap (λ (reading : Result Ordered Fault). with_line (opens_part round) first
    (with_line (opens_part round) (numbered 2 reading) none)) read
    ∙ ap (λ (b : Bool). with_line (opens_part round) first
    (if b then after_head (line_at 2 (order.Play its)) none else after_line (line_at 2 (order.Play its)) none))
    (order_opens_none round its)
    ∙ ap (λ (b : Bool). if b then after_head first rest else after_line first rest)
    (ap (opens_part round) (head_is version) ∙ head_opens round turns)
