-- Each written turn begins with a line that may be an order, so a sheet has no more written turns
-- than such lines.
use Rattle.std.proofs.Common.{◌≡◌, ℕ, ◌+◌, ◌-◌, ◌≤◌, Bool, true, false, nat_lt, List, [], ◌∷◌, length, unwrap_or}
use Rattle.std.proofs.Common.{Result, Err, refl, arith}
use Rattle.std.proofs.lemmas.Bool.Decides.{nat_tests}
use Rattle.order_grammar.specs.Condition.{Ordered}
use Rattle.order_grammar.specs.Version.{reading_in}
use Rattle.order_grammar.specs.declared.condition.Version.{Version}
use Rattle.order_grammar.specs.declared.fault.Fault.{Fault}
use Rattle.order_grammar.specs.declared.fault.Fault.TheVariants.{PastLastLine}
use Rattle.order_grammar.specs.declared.order.Order.{Order}
use Rattle.sheets.specs.File.{sheet_of, version_of}
use Rattle.sheets.specs.Laws.{SheetsHaveFewTurns}
use Rattle.sheets.specs.Limits.{lines_most}
use Rattle.sheets.specs.Part.{SheetParts, written_turns_of, numbered, opens_part, parts_after, reading_at, with_line}
use Rattle.sheets.specs.Reading.{order_read}
use Rattle.sheets.proofs.Heads.{past_opens_none}

module _ (opens : Result Order Fault → Bool) (no_head : opens (Err PastLastLine) ≡ false) where
  -- one more line before parts, by whether it is past the last and whether it is a head
  one_more : (number : ℕ) (reading : Result Ordered Fault) (parts : SheetParts) (past : Bool) (head : Bool)
      → nat_lt lines_most number ≡ past → opens (reading_at number (order_read reading)) ≡ head
      → length (written_turns_of parts) ≤ lines_most - number
      → length (written_turns_of (with_line opens (numbered number reading) parts)) ≤ (lines_most + 1) - number
  one_more number reading parts past false is_past other few = rw other (omega arith)
  one_more number reading parts true true is_past head few =
      let same : opens (Err PastLastLine) ≡ true = rw is_past at head in cc
  one_more number reading parts false true is_past head few =
      let within : number ≤ lines_most = grind (arith, nat_tests) in rw head (omega arith)

  -- lines, after this many others
  few_after : (version : Version) (lines : List (List ℕ)) (count : ℕ)
      → length (written_turns_of (parts_after version opens count lines)) ≤ lines_most - count
  few_after version [] count = omega arith
  few_after version (line ∷ lines) count =
      let more = one_more (count + 1) (reading_in version line) (parts_after version opens (count + 1) lines) _ _ refl
      refl (few_after version lines (count + 1)) in
      omega arith

-- a sheet has few written turns
pub few_written_turns : SheetsHaveFewTurns
few_written_turns file round seat =
    few_after (opens_part round) (past_opens_none round) (version_of file) (unwrap_or (sheet_of file seat round) []) 0
