-- The lines of a sheet, as they are taken one after another, read by the version of its file.
use Rattle.std.specs.Prelude.{◌≡◌, ℕ, ◌+◌, nat_lt, if◌then◌else◌, List, [], ◌∷◌, Option, Some, None, Result, IfOk}
use Rattle.order_grammar.specs.Condition.{Ordered}
use Rattle.order_grammar.specs.Version.{ordered_of, reading_in}
use Rattle.order_grammar.specs.Words.{AreWordsOf}
use Rattle.order_grammar.specs.declared.condition.Condition.{Condition}
use Rattle.order_grammar.specs.declared.condition.Version.{Version}
use Rattle.order_grammar.specs.declared.fault.Fault.{Fault}
use Rattle.sheets.specs.Limits.{lines_most}
use Rattle.sheets.specs.Reading.{condition_read}
use Rattle.sheets.specs.declared.sheet.NumberedLine.{NumberedLine}
use Rattle.sheets.specs.declared.sheet.UnreadLine.{UnreadLine}

-- the lines of a sheet that are still to come, the version of its file, and how many lines came
-- before them
pub record Unruled : Type 0 where
  pub version : Version
  pub number : ℕ
  pub lines : List (List ℕ)

abbrev pub unruled : Version → ℕ → List (List ℕ) → Unruled
unruled version number lines = record { version = version; number = number; lines = lines }

-- a sheet with these lines, none of which is taken, of a file of some version
abbrev pub sent_in_version : Version → List (List ℕ) → Unruled
sent_in_version version lines = unruled version 0 lines

-- the condition of the line with this number that by itself reads so; there is none past the last
-- line that may be an order
abbrev pub condition_at : ℕ → Result Ordered Fault → Option Condition
condition_at number reading = if nat_lt lines_most number then None else condition_read reading

-- the line with this number is read as what is there
pub record IsReadAs (version : Version) (number : ℕ) (line : List ℕ) (read : NumberedLine) : Type 0 where
  pub number_is : read.number ≡ number
  pub condition_is : read.condition ≡ condition_at number (reading_in version line)
  pub reading_is : ordered_of read.reading ≡ reading_in version line
  pub words_are : IfOk read.reading (λ read. AreWordsOf line read.words)

-- the next of these lines is taken, if there is one
abbrev pub IsTaken : Version → ℕ → List (List ℕ) → Option NumberedLine → Unruled → Type 0
IsTaken version number [] None new = new ≡ unruled version number []
IsTaken version number [] (Some read) new = ⊥
IsTaken version number (line ∷ lines) None new = ⊥
IsTaken version number (line ∷ lines) (Some read) new =
    IsReadAs version (number + 1) line read × (new ≡ unruled version (number + 1) lines)

-- the next of these lines is taken as it is written, if there is one
abbrev pub IsTakenUnread : Version → ℕ → List (List ℕ) → Option UnreadLine → Unruled → Type 0
IsTakenUnread version number [] None new = new ≡ unruled version number []
IsTakenUnread version number [] (Some line) new = ⊥
IsTakenUnread version number (line ∷ lines) None new = ⊥
IsTakenUnread version number (line ∷ lines) (Some unread) new =
    (unread.version ≡ version) × (unread.number ≡ number + 1) × (unread.text.now ≡ line)
    × (new ≡ unruled version (number + 1) lines)

-- the next line is taken as it is written
abbrev pub TakesUnread : Unruled → Option UnreadLine → Unruled → Type 0
TakesUnread old line new = IsTakenUnread old.version old.number old.lines line new

-- the next line is taken
abbrev pub TakesLine : Unruled → Option NumberedLine → Unruled → Type 0
TakesLine old read new = IsTaken old.version old.number old.lines read new
