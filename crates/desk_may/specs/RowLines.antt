-- A row as a line: the order as a sheet could hold it, four spaces, and what becomes of it. That is OK with its price; the
-- same with the offer that it needs; or the code of the rule that refuses it.
use Rattle.std.specs.Prelude.{ℕ, List, [], ◌∷◌, ◌++◌, Option, codes}
use Rattle.std.specs.Fmt.{signed_decimal}
use Rattle.std.specs.List.{flat_map}
use Rattle.desk_may.specs.Offerers.{offered_row}
use Rattle.events.specs.RuleCodes.{code_of_refusal}
use Rattle.moves.specs.declared.row.Answer.{Answer}
use Rattle.moves.specs.declared.row.Answer.TheVariants.{Obeyed, WithConsent, Refused}
use Rattle.moves.specs.declared.row.Row.{Row}
use Rattle.order_grammar.specs.Print.{spelling_of}
use Rattle.order_grammar.specs.declared.order.Order.TheVariants.{Play}
use Rattle.order_grammar.specs.declared.play.PlayOrder.TheVariants.{Offer}
use Rattle.report.specs.Line.{name_of}
use Rattle.tables.specs.declared.seat.Seat.{Seat}

-- what becomes of an order, in words
abbrev pub answer_text : List ℕ → Answer → List ℕ
answer_text file (Obeyed price) = codes "OK " ++ signed_decimal price
answer_text file (WithConsent price giver offer) =
    codes "OK " ++ signed_decimal price ++ codes " with " ++ name_of file giver ++ codes " "
    ++ spelling_of (Play (Offer offer))
answer_text file (Refused rule) = code_of_refusal rule

-- the line of a row
abbrev pub row_line : List ℕ → Row → List ℕ
row_line file row = spelling_of (Play row.order) ++ codes "    " ++ answer_text file row.answer ++ 10 ∷ []

-- the lines of some rows
abbrev pub row_lines : List ℕ → List Row → List ℕ
row_lines file rows = flat_map (row_line file) rows

-- the line of a row whose consent may come too late, by who presided over each company as the round began
abbrev pub offered_line : List (Option Seat) → List ℕ → Row → List ℕ
offered_line presidents file row = row_line file (offered_row presidents row)

-- the lines of some
abbrev pub offered_lines : List (Option Seat) → List ℕ → List Row → List ℕ
offered_lines presidents file rows = flat_map (offered_line presidents file) rows
