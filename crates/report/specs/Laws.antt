-- Laws of reports. Files whose sheets are read the same have reports that differ only in the
-- version. The order in which the sheets of different players arrive changes nothing in the report.
-- The report is its parts, one after the other, also as they are written while the game is played.
use Rattle.std.specs.Prelude.{◌≡◌, ℕ, List, [], ◌∷◌, ◌++◌, codes, decimal, None, Ok, ⊤}
use Rattle.std.specs.List.{AllByRecursion, flat_map}
use Rattle.events.specs.RuleCodes.{code_of_refusal}
use Rattle.events.specs.declared.event.Event.{Event}
use Rattle.events.specs.declared.event.Event.TheVariants.{Ruled}
use Rattle.events.specs.declared.ruling.Refusal.{Refusal}
use Rattle.events.specs.declared.ruling.Ruling.{Ruling}
use Rattle.events.specs.declared.ruling.Ruling.TheVariants.{Obeyed, Refused, Faulty}
use Rattle.order_grammar.specs.Fault.{code_of}
use Rattle.order_grammar.specs.Print.{spaced, spelling_of}
use Rattle.order_grammar.specs.declared.condition.Version.TheVariants.{One}
use Rattle.order_grammar.specs.declared.order.Order.{Order}
use Rattle.report.specs.Line.{event_line, line_of, name_of}
use Rattle.report.specs.Parts.{IsTextOfSteps, end_text_of}
use Rattle.report.specs.Report.{IsReport, end_of_play, game_line, header, report_of, round_text_of, unread_lines}
use Rattle.rounds.specs.Begun.{rounds_begun}
use Rattle.rounds.specs.Play.{IsTheGame, Played}
use Rattle.rounds.specs.ReadAlike.{AreReadAlike}
use Rattle.rounds.specs.Steps.{StepLeads, Underway, started}
use Rattle.rounds.specs.declared.game.End.{End}
use Rattle.rounds.specs.declared.steps.Step.TheVariants.{Ended}
use Rattle.sheets.specs.File.{IsAccepted, players_of, unread_of, version_of}
use Rattle.sheets.specs.Laws.{SentTheSame}
use Rattle.tables.specs.declared.seat.Seat.{Seat}

-- the text of the first file's report has a first line with its version; with that of the second
-- file's in its place it is the report of the second
pub record DiffersInVersion (first second text : List ℕ) : Type 0 where
  pub rest : List ℕ
  pub is : text ≡ game_line (version_of first) ++ rest
  pub report : IsReport second (game_line (version_of second) ++ rest)

-- reports differ only in the version, if the sheets of two files of the same players are read the
-- same, and the same faults are in no sheet
abbrev pub SamePartsSameReport : Type 0
SamePartsSameReport =
    (first second : List ℕ)
    → IsAccepted first
    → IsAccepted second
    → AreReadAlike first second
    → unread_of first ≡ unread_of second
    → (text : List ℕ)
    → IsReport first text
    → DiffersInVersion first second text

-- what became of a line, with its order alone
abbrev pub order_alone : Ruling → List (List ℕ)
order_alone (Obeyed condition order) = codes "OBEYED" ∷ spelling_of order ∷ []
order_alone (Refused rule condition order) = codes "REFUSED" ∷ code_of_refusal rule ∷ spelling_of order ∷ []
order_alone (Faulty fault) = codes "REFUSED" ∷ code_of fault ∷ []

-- the line of an event that is a ruling names no condition
abbrev pub NamesNoCondition : List ℕ → Event → Type 0
NamesNoCondition file (Ruled seat line ruling) =
    event_line file (Ruled seat line ruling) ≡ line_of (name_of file seat) (decimal line ∷ order_alone ruling)
NamesNoCondition file other = ⊤

-- The report of a file of version 1 has that version in its first line, and names no condition.
-- Each ruling of its game has only the spelling of its order. Each order without a condition is
-- printed in this way, whatever the version of its file.
pub record PlainReports : Type 0 where
  pub head : (file : List ℕ) → version_of file ≡ One →
      header file ≡ codes "GAME 1830 1" ++ 10 ∷ codes "PLAYERS" ++ spaced (players_of file) ++ 10 ∷ []
  pub rulings : (played : Played) → version_of played.file ≡ One → IsTheGame played →
      AllByRecursion (NamesNoCondition played.file) played.game.events
  pub obeyed : (file : List ℕ) (seat : Seat) (line : ℕ) (order : Order) →
      event_line file (Ruled seat line (Obeyed None order))
      ≡ line_of (name_of file seat) (decimal line ∷ codes "OBEYED" ∷ spelling_of order ∷ [])
  pub refused : (file : List ℕ) (seat : Seat) (line : ℕ) (rule : Refusal) (order : Order) →
      event_line file (Ruled seat line (Refused rule None order))
      ≡ line_of (name_of file seat) (decimal line ∷ codes "REFUSED" ∷ code_of_refusal rule ∷ spelling_of order ∷ [])

-- files of one version and the same players have the same report, if each sent the same sheets in
-- the same order and the same faults are in no sheet
abbrev pub ArrivalChangesNoReport : Type 0
ArrivalChangesNoReport =
    (f g : List ℕ)
    → IsAccepted f
    → IsAccepted g
    → version_of f ≡ version_of g
    → players_of f ≡ players_of g
    → SentTheSame f g
    → unread_of f ≡ unread_of g
    → (text : List ℕ)
    → IsReport f text
    → IsReport g text

-- the report of the game of a file is its header, the text of each round that the game begins, the
-- unread lines and the end
abbrev pub ReportIsItsParts : Type 0
ReportIsItsParts =
    (played : Played)
    → IsAccepted played.file
    → IsTheGame played
    → report_of played
    ≡ header played.file ++ flat_map (round_text_of played) (rounds_begun played.game.events)
    ++ unread_lines 0 (unread_of played.file) ++ end_of_play played

-- what was written so far as a file is played is the prefix of its report, and the rest is still to
-- come
pub record IsPrefix (file text whole : List ℕ) : Type 0 where
  pub rest : List ℕ
  pub is : whole ≡ header file ++ text ++ rest

-- after each step that plays a round, what was written so far is a prefix of the report
abbrev pub PartsAreAPrefix : Type 0
PartsAreAPrefix =
    (file : List ℕ) (steps : ℕ) (play : Underway) (text whole : List ℕ)
    → IsAccepted file → IsTextOfSteps steps (started file) play text → IsReport file whole → IsPrefix file text whole

-- once a step has returned that play has stopped, the parts are the report of the file
abbrev pub PartsAreTheReport : Type 0
PartsAreTheReport =
    (file : List ℕ) (steps : ℕ) (last ended : Underway) (end : End) (text : List ℕ)
    → IsAccepted file → IsTextOfSteps steps (started file) last text → StepLeads last (Ok (Ended end)) ended
    → IsReport file (header file ++ text ++ end_text_of ended)
