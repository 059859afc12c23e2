-- The round that a word of a command line names: that of a SHEET line with the word.
use Rattle.std.specs.Prelude.{ℕ, ◌==◌, ◌||◌, Bool, nat_le, if◌then◌else◌, List, ◌++◌, codes, length, Option, Some, None}
use Rattle.std.specs.Prelude.{Result, Ok}
use Rattle.std.specs.Char.{is_ascii_alphanumeric}
use Rattle.std.specs.List.{list_all}
use Rattle.order_grammar.specs.Line.{reading_of}
use Rattle.order_grammar.specs.declared.fault.Fault.{Fault}
use Rattle.order_grammar.specs.declared.order.Order.{Order}
use Rattle.order_grammar.specs.declared.order.Order.TheVariants.{Sheet}
use Rattle.tables.specs.declared.round.Round.{Round}

-- a byte that the name of a round may have: a letter, a digit or a dot
abbrev pub is_in_name : ℕ → Bool
is_in_name byte = is_ascii_alphanumeric byte || byte == 46

-- the SHEET line of some player for the round with this name, which has at most 9 bytes
abbrev pub sheet_line : List ℕ → Option (List ℕ)
sheet_line name = if nat_le (length name) 9 then Some (codes "SHEET A " ++ name) else None

-- the round of a SHEET line
abbrev pub round_of_sheet : Result Order Fault → Option Round
round_of_sheet (Ok (Sheet name round)) = Some round
round_of_sheet other = None

-- the round of such a line, if there is one
abbrev pub round_if_sheet : Option (List ℕ) → Option Round
round_if_sheet None = None
round_if_sheet (Some line) = round_of_sheet (reading_of line)

-- the round that a word names, if it names one
abbrev pub round_named : List ℕ → Option Round
round_named word = if list_all is_in_name word then round_if_sheet (sheet_line word) else None
