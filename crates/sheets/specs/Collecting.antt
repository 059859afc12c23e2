-- How far the sheets of a file are collected: what is kept, what is open, and what is left to read.
use Rattle.std.specs.Prelude.{◌≡◌, ℕ, ◌+◌, ◌-◌, ◌<◌, ◌≤◌, false, if◌then◌else◌, List, [], ◌∷◌, ◌++◌, length, take}
use Rattle.std.specs.Prelude.{Option, Some, None, is_some}
use Rattle.std.specs.Option.{option_map, option_or}
use Rattle.order_grammar.specs.declared.condition.Version.{Version}
use Rattle.order_grammar.specs.declared.fault.Fault.{Fault}
use Rattle.sheets.specs.File.{is_sheet_line, same_sheet_key, sheet_lines, sheet_in, good_lines, unread_in, players_of, unread_of}
use Rattle.sheets.specs.File.{sheet_of}
use Rattle.sheets.specs.File.{version_of, IsAccepted}
use Rattle.sheets.specs.Limits.{sheets_most}
use Rattle.sheets.specs.Sheet.{Unruled, sent_in_version}
use Rattle.sheets.specs.Text.{written_lines, BeginsWith}
use Rattle.sheets.specs.declared.fault.FileFault.{FileFault}
use Rattle.sheets.specs.declared.fault.FileFault.TheVariants.{TooManySheets, Memory}
use Rattle.sheets.specs.declared.open_sheet.OpenSheet.{OpenSheet}
use Rattle.sheets.specs.declared.sheet_key.SheetKey.{SheetKey}

-- a sheet that is open: whose it is, and its lines so far
pub record Open : Type 0 where
  pub sheet_key : SheetKey
  pub lines : List (List ℕ)

-- the text of an open sheet, if this is left of it
abbrev pub IsOpen : Option OpenSheet → Option Open → List ℕ → Type 0
IsOpen None None rest = Unit {0}
IsOpen None (Some current) rest = ⊥
IsOpen (Some sheet) None rest = ⊥
IsOpen (Some sheet) (Some current) rest =
    (sheet.sheet_key ≡ current.sheet_key) × ((prefix : List ℕ) × BeginsWith prefix current.lines rest sheet.text.now)

-- the open sheet, with the lines that are still to come in it
abbrev pub open_with : Option Open → List (List ℕ) → SheetKey → Option (List (List ℕ))
open_with None more sheet_key = None
open_with (Some current) more sheet_key = if same_sheet_key current.sheet_key sheet_key then Some
    (current.lines ++ sheet_lines more) else None

-- none of these lines begins with SHEET
abbrev pub HasNoSheetLine : List (List ℕ) → Type 0
HasNoSheetLine [] = Unit {0}
HasNoSheetLine (line ∷ lines) = (is_sheet_line line ≡ false) × HasNoSheetLine lines

-- what is before this rest of a text has no line that begins with SHEET, so that an open sheet goes
-- on in it
abbrev pub IsInSheet : List ℕ → List ℕ → Type 0
IsInSheet rest text =
    (prefix : List ℕ) × (lines : List (List ℕ)) × BeginsWith prefix lines rest text × HasNoSheetLine lines

-- the lines of the sheets that are kept
abbrev pub lines_kept : (SheetKey → Option Unruled) → SheetKey → Option (List (List ℕ))
lines_kept sheets sheet_key = option_map (λ sheet. sheet.lines) (sheets sheet_key)

-- a sheet that is kept, if it is there, is of this version, and none of its lines is taken
abbrev pub IsOfVersion : Version → Option Unruled → Type 0
IsOfVersion version None = Unit {0}
IsOfVersion version (Some sheet) = sheet ≡ sent_in_version version sheet.lines

-- and so is each
abbrev pub AreOfVersion : Version → (SheetKey → Option Unruled) → Type 0
AreOfVersion version sheets = (sheet_key : SheetKey) → IsOfVersion version (sheets sheet_key)

-- a sheet once these lines are read too
abbrev pub sheet_with : List (List ℕ) → Option Open → (SheetKey → Option (List (List ℕ))) → List (List ℕ) → SheetKey
    → Option (List (List ℕ))
sheet_with players current sheets lines sheet_key =
    option_or (sheet_in players lines sheet_key) (option_or (open_with current lines sheet_key) (sheets sheet_key))

-- what is kept and what is left are together what the whole body has
pub record CollectedSoFar (version : Version) (players body lines : List (List ℕ)) (current : Option Open)
    (sheets : SheetKey → Option (List (List ℕ))) (unread : List Fault) (good : ℕ) : Type 0 where
  pub sheets_are : (sheet_key : SheetKey) → sheet_with players current sheets lines sheet_key
      ≡ sheet_in players body sheet_key
  pub unread_are : unread ++ unread_in version players (is_some current) lines ≡ unread_in version players false body
  pub good_are : good + good_lines players lines ≡ good_lines players body
  pub few : good ≤ sheets_most

-- what is kept and what is left are together what the whole body has, with this text left
abbrev pub Reaches : Version → List (List ℕ) → List (List ℕ) → List ℕ → Option OpenSheet
    → (SheetKey → Option (List (List ℕ))) → List Fault → ℕ → Type 0
Reaches version players body rest sheet sheets unread good =
    (current : Option Open) × IsOpen sheet current rest
    × CollectedSoFar version players body (written_lines rest) current sheets unread good

-- the sheets once an open one is kept that ends where this is left
abbrev pub closed : Option OpenSheet → List ℕ → (SheetKey → Option (List (List ℕ))) → SheetKey → Option (List (List ℕ))
closed None rest sheets sheet_key = sheets sheet_key
closed (Some sheet) rest sheets sheet_key =
    if same_sheet_key sheet.sheet_key sheet_key
    then Some (written_lines (take (length sheet.text.now - length rest) sheet.text.now))
    else sheets sheet_key

-- the sheet that was begun, with all left of it
abbrev pub IsBegun : SheetKey → List ℕ → Option OpenSheet → Type 0
IsBegun sheet_key rest None = ⊥
IsBegun sheet_key rest (Some sheet) = (sheet.sheet_key ≡ sheet_key) × (sheet.text.now ≡ rest)

-- A SHEET line came while no sheet was open and this many good ones had come: it begins the sheet
-- of this post, or it has a fault.
abbrev pub HasBegun : List ℕ → Fault → ℕ → List Fault → Option SheetKey → Option OpenSheet → ℕ → List Fault → Type 0
HasBegun rest fault good unread None sheet count codes =
    (sheet ≡ None) × (count ≡ good) × (codes ≡ unread ++ fault ∷ [])
HasBegun rest fault good unread (Some sheet_key) sheet count codes =
    IsBegun sheet_key rest sheet × (good < sheets_most) × (count ≡ good + 1) × (codes ≡ unread)

-- why reading stops at a SHEET line that would begin the sheet of this post, after this many good
-- ones
abbrev pub StopsAt : ℕ → Option SheetKey → FileFault → Type 0
StopsAt good None fault = fault ≡ Memory
StopsAt good (Some sheet_key) fault = (fault ≡ TooManySheets) × (sheets_most ≤ good)

-- why reading stops, after this many good SHEET lines
abbrev pub StopsBy : ℕ → FileFault → Type 0
StopsBy good Memory = Unit {0}
StopsBy good TooManySheets = sheets_most < good
StopsBy good other = ⊥

-- what a file is kept as
pub record IsCollected (file : List ℕ) (version : Version) (players : List (List ℕ))
    (sheets : SheetKey → Option Unruled) (unread : List Fault) : Type 0 where
  pub accepted : IsAccepted file
  pub version_is : version ≡ version_of file
  pub players_are : players ≡ players_of file
  pub least : 3 ≤ length players
  pub most : length players ≤ 6
  pub sheets_are : (sheet_key : SheetKey) → sheets sheet_key ≡ option_map (sent_in_version (version_of file))
      (sheet_of file sheet_key.seat.0 sheet_key.round)
  pub unread_are : unread ≡ unread_of file
