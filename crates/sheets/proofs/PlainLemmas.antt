-- A file of version 1 is read as if there were no conditions.
use Rattle.std.proofs.Common.{◌≡◌, ℕ, ◌+◌, Bool, true, false, nat_lt, cond, List, [], ◌∷◌, None, unwrap_or, Result, Ok}
use Rattle.std.proofs.Common.{Err, refl, ap, ◌∙◌}
use Rattle.order_grammar.specs.Condition.{Ordered, unconditional}
use Rattle.order_grammar.specs.Line.{reading_of}
use Rattle.order_grammar.specs.Version.{reading_in}
use Rattle.order_grammar.specs.declared.condition.Version.{Version}
use Rattle.order_grammar.specs.declared.condition.Version.TheVariants.{One}
use Rattle.order_grammar.specs.declared.fault.Fault.{Fault}
use Rattle.order_grammar.specs.declared.order.Order.{Order}
use Rattle.sheets.specs.File.{fault_of_reading, sheet_of, unread_fault}
use Rattle.sheets.specs.Laws.{VersionOneIsPlain, VersionOneIsPlainOutside, plain, plain_parts}
use Rattle.sheets.specs.Limits.{lines_most}
use Rattle.sheets.specs.Part.{Numbered, SheetParts, numbered, opens_part, parts_after, parts_of_sheet, reading_at}
use Rattle.sheets.specs.Part.{with_line}
use Rattle.sheets.specs.Reading.{condition_read, order_read}

-- a line of version 1 is read as it is without versions
abbrev pub ReadAsBefore : Type 0
ReadAsBefore = (line : List ℕ) → reading_in One line ≡ unconditional (reading_of line)

-- an order without a condition is the order
order_alone : (reading : Result Order Fault) → order_read (unconditional reading) ≡ reading
order_alone (Ok order) = refl
order_alone (Err fault) = refl

-- where none is, there is none
none_alone : (reading : Result Order Fault) → condition_read (unconditional reading) ≡ None
none_alone (Ok order) = refl
none_alone (Err fault) = refl

-- nor past the last line that may be an order
none_where : (past : Bool) (reading : Result Ordered Fault) → condition_read reading ≡ None
    → cond past None (condition_read reading) ≡ None
none_where true reading none = refl
none_where false reading none = none

-- a line without a condition, where it is
plain_here : (number : ℕ) (reading : Result Order Fault) →
    numbered number (unconditional reading) ≡ record
    { number = number; condition = None; reading = reading_at number reading }
plain_here number reading =
    rw (order_alone reading, none_where (nat_lt lines_most number) (unconditional reading) (none_alone reading)) refl

module _ (law : ReadAsBefore) (opens : Result Order Fault → Bool) where
  -- so it is with each line of version 1
  plain_line : (number : ℕ) (line : List ℕ) → numbered number (reading_in One line) ≡ plain number line
  plain_line number line =
      ap (λ (reading : Result Ordered Fault). numbered number reading) (law line) ∙ plain_here number (reading_of line)

  -- and with the parts of its lines
  plain_after : (lines : List (List ℕ)) (count : ℕ) → parts_after One opens count lines ≡ plain_parts opens count lines
  plain_after [] count = refl
  plain_after (line ∷ lines) count =
      ap (λ (first : Numbered). with_line opens first (parts_after One opens (count + 1) lines))
      (plain_line (count + 1) line)
      ∙ ap (λ (parts : SheetParts). with_line opens (plain (count + 1) line) parts) (plain_after lines (count + 1))

-- no line of a sheet is under a condition
pub plain_law : ReadAsBefore → VersionOneIsPlain
plain_law law file round seat one =
    ap (λ (version : Version). parts_of_sheet version round (unwrap_or (sheet_of file seat round) [])) one
    ∙ plain_after law (opens_part round) (unwrap_or (sheet_of file seat round) []) 0

-- nor does one outside
pub plain_outside_law : ReadAsBefore → VersionOneIsPlainOutside
unfolding unread_fault
plain_outside_law law line =
    ap (λ (reading : Result Ordered Fault). fault_of_reading (order_read reading)) (law line)
    ∙ ap fault_of_reading (order_alone (reading_of line))
