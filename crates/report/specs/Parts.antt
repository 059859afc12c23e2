-- The parts of a report as they are written while the game is played. They are the header, the text
-- of each round after the step that plays it, and last what follows the rounds.
use Rattle.std.specs.Prelude.{◌≡◌, ℕ, zero, suc, if◌then◌else◌, List, [], ◌∷◌, ◌++◌, Option, Some, None, is_some}
use Rattle.std.specs.List.{list_any}
use Rattle.events.specs.Event.{round_begun_by}
use Rattle.events.specs.declared.event.Event.{Event}
use Rattle.totals.specs.LookBack.{Game}
use Rattle.report.specs.Report.{end_text, round_with_statement, unread_lines}
use Rattle.rounds.specs.Steps.{PlaysNext, Underway, game_so_far}
use Rattle.rounds.specs.declared.game.End.{End}
use Rattle.sheets.specs.File.{unread_of}
use Rattle.tables.specs.declared.round.Round as round

-- the events of the round that began last: those from the last on that begins a round, or all if
-- none does
abbrev pub last_round : List Event → List Event
last_round [] = []
last_round (event ∷ events) = if list_any (λ other. is_some (round_begun_by other)) events then last_round
    events else event ∷ events

-- the lines of its events, and the statement as the game stands; nothing before the first round
abbrev pub last_round_text : List ℕ → ℕ → List Event → List ℕ
last_round_text file seats [] = []
last_round_text file seats (event ∷ events) =
    round_with_statement file (record { seats = seats; events = event ∷ events }) (last_round (event ∷ events))

-- the text of the round that began last in a game, if there is a game
abbrev pub text_of_last : List ℕ → Option Game → List ℕ
text_of_last file None = []
text_of_last file (Some game) = last_round_text file game.seats game.events

-- the text of the round that was played last; nothing before the first, and once play was broken
-- off
abbrev pub next_text_of : Underway → List ℕ
next_text_of play = text_of_last play.file (game_so_far play)

-- why play of a game stopped, if that is known
abbrev pub end_text_if : List ℕ → Option Game → Option End → List ℕ
end_text_if file (Some game) (Some end) = end_text file game end
end_text_if file (Some game) None = []
end_text_if file None end = []

-- why play stopped; nothing before it has, and once it was broken off
abbrev pub outcome_text_of : Underway → List ℕ
outcome_text_of play = end_text_if play.file (game_so_far play) play.outcome

-- what follows the rounds: the unread lines, and why play stopped
abbrev pub end_text_of : Underway → List ℕ
end_text_of play = unread_lines 0 (unread_of play.file) ++ outcome_text_of play

-- this many steps, each of which played a round, lead from one play to another, and these are the
-- texts of their rounds, one after the other
abbrev pub IsTextOfSteps : ℕ → Underway → Underway → List ℕ → Type 0
IsTextOfSteps zero old new text = (new ≡ old) × (text ≡ [])
IsTextOfSteps (suc steps) old new text =
    (mid : Underway) × (before : List ℕ) × IsTextOfSteps steps old mid before
    × (round : round.Round) × PlaysNext mid round new × (text ≡ before ++ next_text_of new)
