-- The report of a file. For a refused file it is its one line; otherwise the header, each round's
-- events and its statement, the unread lines, and the end.
use Rattle.std.specs.Prelude.{◌≡◌, ℕ, ◌+◌, Bool, true, false, if◌then◌else◌, List, [], ◌∷◌, ◌++◌, length, take, drop}
use Rattle.std.specs.Prelude.{slice_range, codes, decimal, Option, Some, None, is_none, is_some, Result, Ok, Err}
use Rattle.std.specs.List.{flat_map, range_with_len}
use Rattle.events.specs.Event.{round_begun_by}
use Rattle.events.specs.declared.event.Event.{Event}
use Rattle.order_grammar.specs.Fault.{code_of}
use Rattle.order_grammar.specs.Print.{spaced, text_of_round}
use Rattle.order_grammar.specs.declared.condition.Version.{Version}
use Rattle.order_grammar.specs.declared.condition.Version.TheVariants.{One, Two}
use Rattle.order_grammar.specs.declared.fault.Fault.{Fault}
use Rattle.report.specs.Line.{event_line, line_of, name_of}
use Rattle.report.specs.Statement.{statement}
use Rattle.report.specs.EndWorth.{worth_lines}
use Rattle.rounds.specs.Play.{Between, Played, Plays, end_of}
use Rattle.rounds.specs.declared.game.End.{End}
use Rattle.rounds.specs.declared.game.End.TheVariants.{Awaiting, Bank, Bankrupt}
use Rattle.sheets.specs.File.{Content, content_of, code_of_fault, sheet_of, players_of, unread_of, version_of}
use Rattle.sheets.specs.declared.fault.FileFault.{FileFault}
use Rattle.tables.specs.Round.{same_round}
use Rattle.totals.specs.LookBack.{Game}
use Rattle.tables.specs.declared.round.Round as round

-- the line of a refused file
abbrev pub refusal_line : FileFault → List ℕ
refusal_line fault = codes "FILE REFUSED " ++ code_of_fault fault ++ 10 ∷ []

-- the word of a version
abbrev pub word_of_version : Version → List ℕ
word_of_version One = codes "1"
word_of_version Two = codes "2"

-- the first line: the game, and the version of its file
abbrev pub game_line : Version → List ℕ
game_line version = codes "GAME 1830 " ++ word_of_version version ++ 10 ∷ []

-- the second line: the players
abbrev pub players_line : List ℕ → List ℕ
players_line file = codes "PLAYERS" ++ spaced (players_of file) ++ 10 ∷ []

-- the two lines at the head
unfoldable pub header : List ℕ → List ℕ
header file = game_line (version_of file) ++ players_line file

-- a later round begins before these events, or nothing follows
abbrev pub ends_round : List Event → Bool
ends_round [] = true
ends_round (event ∷ events) = is_some (round_begun_by event)

-- an event before rounds: of the first of them, or a round by itself if that ends with it
abbrev pub with_event_in_round : Event → Bool → List (List Event) → List (List Event)
with_event_in_round event false (round ∷ rounds) = (event ∷ round) ∷ rounds
with_event_in_round event ended rounds = (event ∷ []) ∷ rounds

-- the list of events, cut before each that begins a round
abbrev pub rounds_in : List Event → List (List Event)
rounds_in [] = []
rounds_in (event ∷ events) = with_event_in_round event (ends_round events) (rounds_in events)

-- the text of a round: the lines of its events, and the statement of the game at its end
abbrev pub round_with_statement : List ℕ → Game → List Event → List ℕ
round_with_statement file game events = flat_map (event_line file) events ++ statement file game

-- the text of a round whose events come after these
abbrev pub lines_of_round : List ℕ → ℕ → List Event → List Event → List ℕ
lines_of_round file seats before events =
    round_with_statement file (record { seats = seats; events = before ++ events }) events

-- the texts of some rounds, in order
abbrev pub texts_of_rounds : List ℕ → ℕ → List Event → List (List Event) → List ℕ
texts_of_rounds file seats before [] = []
texts_of_rounds file seats before (round ∷ rounds) =
    lines_of_round file seats before round ++ texts_of_rounds file seats (before ++ round) rounds

-- the text of a game's rounds
abbrev pub rounds_text : List ℕ → Game → List ℕ
rounds_text file game = texts_of_rounds file game.seats [] (rounds_in game.events)

-- the text of the round whose events are at these places of a game
abbrev pub text_between : Played → ℕ → ℕ → List ℕ
text_between played begun end =
    lines_of_round played.file played.game.seats (take begun played.game.events)
    (slice_range played.game.events begun end)

-- this many of the events are those of their first round
abbrev pub IsLengthOfRound : List Event → ℕ → Type 0
IsLengthOfRound events count = rounds_in events ≡ take count events ∷ rounds_in (drop count events)

-- the round that these events begin
abbrev pub round_begun : List Event → Option round.Round
round_begun [] = None
round_begun (event ∷ events) = round_begun_by event

-- a round is this one
abbrev pub is_the_round : round.Round → Option round.Round → Bool
is_the_round round None = false
is_the_round round (Some other) = same_round other round

-- the events are those of this round
abbrev pub is_round : round.Round → List Event → Bool
is_round round events = is_the_round round (round_begun events)

-- the text of one of some rounds; nothing if it is not among them
abbrev pub text_of_one : List ℕ → ℕ → round.Round → List Event → List (List Event) → List ℕ
text_of_one file seats round before [] = []
text_of_one file seats round before (events ∷ rounds) =
    if is_round round events
    then lines_of_round file seats before events
    else text_of_one file seats round (before ++ events) rounds

-- the text of a round of a game that was played
abbrev pub round_text_of : Played → round.Round → List ℕ
round_text_of played round = text_of_one played.file played.game.seats round [] (rounds_in played.game.events)

-- the unread lines, after this many others
abbrev pub unread_lines : ℕ → List Fault → List ℕ
unread_lines count [] = []
unread_lines count (fault ∷ faults) =
    codes "UNREAD " ++ decimal (count + 1) ++ 32 ∷ code_of fault ++ 10 ∷ unread_lines (count + 1) faults

-- the name of a seat's player after a space, if it has no sheet for a round
abbrev pub name_owing : List ℕ → round.Round → ℕ → List ℕ
name_owing file round seat = if is_none (sheet_of file seat round) then 32 ∷ name_of file (record { 0 = seat }) else []

-- the names of those who have no sheet for a round
unfoldable pub owing : List ℕ → round.Round → List ℕ
owing file round = flat_map (λ seat. name_owing file round seat) (range_with_len 0 (length (players_of file)))

-- the round that is awaited, and who owes a sheet for it
abbrev pub awaiting_text : List ℕ → round.Round → List ℕ
awaiting_text file round = codes "AWAITING " ++ text_of_round round ++ owing file round ++ 10 ∷ []

-- the text that says that the game is over, why, and what each player is worth
abbrev pub over_text : List ℕ → Game → List ℕ → List ℕ
over_text file game word = line_of (codes "END") (word ∷ []) ++ worth_lines file game

-- why play stopped
abbrev pub end_text : List ℕ → Game → End → List ℕ
end_text file game (Awaiting round) = awaiting_text file round
end_text file game Bank = over_text file game (codes "BANK")
end_text file game Bankrupt = over_text file game (codes "BANKRUPT")

-- why play of a game stopped
abbrev pub end_of_play : Played → List ℕ
end_of_play played = end_text played.file played.game played.end

-- the report of a file whose game has led to this one and this end
abbrev pub report_text : List ℕ → Game → End → List ℕ
report_text file game end =
    header file ++ rounds_text file game ++ unread_lines 0 (unread_of file) ++ end_text file game end

-- the report of a game that was played
abbrev pub report_of : Played → List ℕ
report_of played = report_text played.file played.game played.end

-- the report of a file that is not refused
pub record IsGameReport (file text : List ℕ) : Type 0 where
  pub last : Between
  pub game : Plays file last
  pub is : text ≡ report_text file last.game (end_of last.next last.game.events)

-- the text is the report of the file, by what the file says
abbrev pub IsReportOf : List ℕ → Result Content FileFault → List ℕ → Type 0
IsReportOf file (Err fault) text = text ≡ refusal_line fault
IsReportOf file (Ok content) text = IsGameReport file text

-- the text is the report of the file
abbrev pub IsReport : List ℕ → List ℕ → Type 0
IsReport file text = IsReportOf file (content_of file) text
