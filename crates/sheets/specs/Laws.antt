-- Laws of order files.
use Rattle.std.specs.Prelude.{◌≡◌, ℕ, ◌+◌, ◌<◌, ◌≤◌, Bool, List, [], ◌∷◌, length, None, Result, Err, IsSome, unwrap_or}
use Rattle.order_grammar.specs.Line.{reading_of}
use Rattle.order_grammar.specs.declared.condition.Version.TheVariants.{One}
use Rattle.order_grammar.specs.declared.fault.Fault.{Fault}
use Rattle.order_grammar.specs.declared.order.Order.{Order}
use Rattle.sheets.specs.File.{IsAccepted, content_of, fault_of_reading, sheet_of, players_of, posts_of, last_for}
use Rattle.sheets.specs.File.{unread_fault, version_of}
use Rattle.sheets.specs.Limits.{file_most, lines_most}
use Rattle.sheets.specs.Part.{Numbered, SheetParts, written_turns_of, opens_part, parts_for, reading_at, with_line}
use Rattle.sheets.specs.declared.fault.FileFault.TheVariants.{TooLong}
use Rattle.tables.specs.Round.{number_most}
use Rattle.tables.specs.declared.round.Round.{Round}
use Rattle.tables.specs.declared.round.Round.TheVariants.{Opening, Stock, Operating}

-- a player's sheet for a round is the last that was sent for it
abbrev pub LastSheetCounts : Type 0
LastSheetCounts = (file : List ℕ) (seat : ℕ) (round : Round)
    → sheet_of file seat round ≡ last_for round (posts_of file seat)

-- each player sent the same sheets in the same order
abbrev pub SentTheSame : List ℕ → List ℕ → Type 0
SentTheSame f g = (seat : ℕ) → posts_of f seat ≡ posts_of g seat

-- files in which each player sent the same have the same sheet for each seat and round
abbrev pub ArrivalChangesNothing : Type 0
ArrivalChangesNothing =
    (f g : List ℕ) → SentTheSame f g → (seat : ℕ) (round : Round) → sheet_of f seat round ≡ sheet_of g seat round

-- the sheets of both files have the same parts, for each round and seat
abbrev pub SameParts : List ℕ → List ℕ → Type 0
SameParts f g = (round : Round) (seat : ℕ) → parts_for f round seat ≡ parts_for g round seat

-- files of one version in which each player sent the same have the same parts
abbrev pub ArrivalChangesNoParts : Type 0
ArrivalChangesNoParts = (f g : List ℕ) → SentTheSame f g → version_of f ≡ version_of g → SameParts f g

-- a line with this number that is under no condition
abbrev pub plain : ℕ → List ℕ → Numbered
plain number line = record { number = number; condition = None; reading = reading_at number (reading_of line) }

-- the parts of lines that are under no condition, after this many others
abbrev pub plain_parts : (Result Order Fault → Bool) → ℕ → List (List ℕ) → SheetParts
plain_parts opens count [] = record { before = []; opened = [] }
plain_parts opens count (line ∷ lines) = with_line opens (plain (count + 1) line) (plain_parts opens (count + 1) lines)

-- no line of a file of version 1 is under a condition, and each has the order that it spells by
-- itself
abbrev pub VersionOneIsPlain : Type 0
VersionOneIsPlain =
    (file : List ℕ) (round : Round) (seat : ℕ) → version_of file ≡ One
    → parts_for file round seat ≡ plain_parts (opens_part round) 0 (unwrap_or (sheet_of file seat round) [])

-- the fault of a line that is in no sheet of a file of version 1 is that of the order that it
-- spells by itself
abbrev pub VersionOneIsPlainOutside : Type 0
VersionOneIsPlainOutside = (line : List ℕ) → unread_fault One line ≡ fault_of_reading (reading_of line)

-- a file with too many bytes is refused as that, whatever it says
abbrev pub LongFileIsRefused : Type 0
LongFileIsRefused = (file : List ℕ) → file_most < length file → content_of file ≡ Err TooLong

-- this many players as a game may have
abbrev pub MayPlay : ℕ → Type 0
MayPlay players = (3 ≤ players) × (players ≤ 6)

-- a file that is not refused has 3 to 6 players
abbrev pub ThreeToSixPlay : Type 0
ThreeToSixPlay = (file : List ℕ) → IsAccepted file → MayPlay (length (players_of file))

-- a round's number, or that of its set
abbrev pub number_of : Round → ℕ
number_of (Opening number) = number
number_of (Stock set) = set
number_of (Operating set number) = set

-- a sheet's round has a number that a line may have
abbrev pub SheetsAreNumbered : Type 0
SheetsAreNumbered = (file : List ℕ) (seat : ℕ) (round : Round) → IsSome (sheet_of file seat round)
    → number_of round ≤ number_most

-- a sheet has no more written turns or companies' orders than lines that may be orders
abbrev pub SheetsHaveFewTurns : Type 0
SheetsHaveFewTurns = (file : List ℕ) (round : Round) (seat : ℕ)
    → length (written_turns_of (parts_for file round seat)) ≤ lines_most
