-- Sheets that replace others: what was there of the round at the line that replaced one, and before
-- which line the game is looked at again, to tell what has changed since.
use Rattle.std.specs.Prelude.{◌≡◌, ℕ, ◌-◌, ◌==◌, Bool, true, false, ◌&&◌, ◌||◌, not, if◌then◌else◌, List, [], ◌∷◌, ◌++◌}
use Rattle.std.specs.Prelude.{length, take, Option, Some, None, Err, nat_le, nat_lt}
use Rattle.std.specs.List.{flat_map, fold}
use Rattle.desk_check.specs.RoundsPlayed.{AreRoundsOf, line_kept}
use Rattle.desk_check.specs.declared.check_late.Rounds.{Rounds}
use Rattle.desk_check.specs.declared.check_late.Turn.{Turn}
use Rattle.desk_check.specs.declared.check_late.Turning.{Turning}
use Rattle.desk_trials.specs.Found.{finding}
use Rattle.desk_trials.specs.Heads.{came}
use Rattle.desk_trials.specs.SheetLines.{complete_by, is_at, is_under}
use Rattle.desk_trials.specs.declared.check_found.Change.{Change}
use Rattle.desk_trials.specs.declared.check_found.Finding.{Finding}
use Rattle.desk_trials.specs.declared.check_found.Lateness.{Lateness}
use Rattle.desk_trials.specs.declared.check_found.Lateness.TheVariants as lateness
use Rattle.desk_trials.specs.declared.check_found.Matter.{Matter}
use Rattle.desk_trials.specs.declared.check_found.Matter.TheVariants as matter
use Rattle.desk_trials.specs.declared.check_found.Standing.{Standing}
use Rattle.desk_trials.specs.declared.check_lines.FileLine.{FileLine}
use Rattle.desk_trials.specs.declared.check_sheets.Head.{Head}
use Rattle.desk_trials.specs.declared.check_sheets.Heads.{Heads}
use Rattle.totals.specs.LookBack.{round_of}
use Rattle.rounds.specs.Play.{IsTheGame, Played}
use Rattle.sheets.specs.File.{content_of}
use Rattle.sheets.specs.declared.fault.FileFault.{FileFault}
use Rattle.tables.specs.declared.round.Round.{Round}

-- the line by which a round is complete
abbrev pub complete_in : Heads → Round → Option ℕ
complete_in heads round = complete_by heads.seats round (came heads)

-- what is in a file before a line of it
abbrev pub before : List ℕ → FileLine → List ℕ
before file line = take (length file - length line.from.now) file

-- how far a game has come: the round that was played last, and why play stopped
abbrev pub standing_of : Played → Standing
standing_of played = record { last = round_of played.game.events; end = played.end }

-- what is before a line that begins a sheet, as a game: its rounds, each with the line by which
-- every player had sheets for it and those before it, and how far it had come
pub record IsTurn (file : List ℕ) (heads : Heads) (head : Head) (turn : Turn) : Type 0 where
  pub played : Played
  pub of_file : played.file ≡ before file head.line
  pub game : IsTheGame played
  pub line : turn.line ≡ head.line.number
  pub rounds : AreRoundsOf heads turn.rounds played.game.events
  pub standing : turn.standing ≡ standing_of played

-- so it is with that game, or what is before the line is refused
abbrev pub TurnsAt : List ℕ → Heads → Head → Option Turn → Type 0
TurnsAt file heads head None = (fault : FileFault) × (content_of (before file head.line) ≡ Err fault)
TurnsAt file heads head (Some turn) = IsTurn file heads head turn

-- a line is among those that are reported from this line on, which do not begin with the file: it came in the batch that is
-- looked at
abbrev pub is_of_batch : ℕ → ℕ → Bool
is_of_batch from line = nat_lt 1 from && nat_le from line

-- a sheet is replaced that came before that batch
abbrev pub replaces_older : ℕ → Option ℕ → Bool
replaces_older from None = false
replaces_older from (Some line) = not (is_of_batch from line)

-- a line that replaced a sheet for a round after every player had one for it and for each round
-- before it; a sheet of the same batch is only corrected
abbrev pub is_late : ℕ → Rounds → Head → Bool
is_late from rounds head =
    replaces_older from head.replaces && is_under (line_kept rounds head.sent.round) head.line.number

-- no late line has come since a line by which the last sheet for a round came
abbrev pub is_fresh_at : Heads → Turning → Head → Bool
is_fresh_at heads turning head = turning.is_fresh || is_at (complete_in heads head.sent.round) head.line.number

-- with one more head: a late one that is fresh is where the game turns, as far as it has come
abbrev pub turning_then : ℕ → Heads → Rounds → Turning → Head → Turning
turning_then from heads rounds turning head =
    let fresh = is_fresh_at heads turning head in
    if is_late from rounds head
    then record { head = if fresh then Some head else turning.head; is_fresh = false }
    else record { head = turning.head; is_fresh = fresh }

-- where the game turns: of the late lines after the last line by which the last sheet for a round
-- came the first; where there is none after that, the first of those that follow one another
-- without such a line, the last time
abbrev pub turning_of : ℕ → Heads → Rounds → Turning
turning_of from heads rounds =
    fold (turning_then from heads rounds) (record { head = None; is_fresh = true }) heads.heads.items

-- the game before that line, if there is such a line
abbrev pub TurnsBefore : List ℕ → Heads → Option Head → Option Turn → Type 0
TurnsBefore file heads None turn = turn ≡ None
TurnsBefore file heads (Some head) turn = TurnsAt file heads head turn

-- the line that was kept of a round of the game before that line
abbrev pub line_in_turn : Option Turn → Round → Option ℕ
line_in_turn None round = None
line_in_turn (Some turn) round = line_kept turn.rounds round

-- what was there of a round when a line came: it corrects a sheet of its batch, or by then the round was played, every player
-- had a sheet for it, or neither
abbrev pub lateness_of : Heads → Rounds → Option Turn → Round → ℕ → Bool → Lateness
lateness_of heads rounds turn round line corrects =
    if corrects
    then lateness.Corrects
    else
    (if is_under (line_kept rounds round) line || is_under (line_in_turn turn round) line
    then lateness.Played
    else (if is_under (complete_in heads round) line then lateness.NotReached else lateness.Open))

-- how far the game had come before a line, how far it comes now, and the first round of another report, if it turns at that line
abbrev pub turned : Option Turn → ℕ → Standing → Option Change
turned None line now = None
turned (Some turn) line now =
    if turn.line == line then Some (record { before = turn.standing; now = now; round = turn.changed }) else None

-- what there is to say of a line that begins a sheet in place of that of another, where lines are reported from one on
abbrev pub matter_of : ℕ → Heads → Rounds → Option Turn → Standing → Head → ℕ → Matter
matter_of from heads rounds turn now head replaced =
    matter.Replaces replaced head.sent.round
    (lateness_of heads rounds turn head.sent.round head.line.number (is_of_batch from replaced))
    (turned turn head.line.number now)

-- so it is a finding
abbrev pub replacing : ℕ → Heads → Rounds → Option Turn → Standing → Head → ℕ → Finding
replacing from heads rounds turn now head replaced =
    finding head.line (matter_of from heads rounds turn now head replaced)

-- if it does
abbrev pub replacing_if : ℕ → Heads → Rounds → Option Turn → Standing → Head → Option ℕ → List Finding
replacing_if from heads rounds turn now head None = []
replacing_if from heads rounds turn now head (Some replaced) =
    replacing from heads rounds turn now head replaced ∷ []

-- what there is to say of a head
abbrev pub findings_of : ℕ → Heads → Rounds → Option Turn → Standing → Head → List Finding
findings_of from heads rounds turn now head = replacing_if from heads rounds turn now head head.replaces

-- each sheet that replaces another is a finding, with what that changes
pub record AddsReplaced (file : List ℕ) (from : ℕ) (heads : Heads) (rounds : Rounds) (now : Standing)
    (old new : List Finding) : Type 0 where
  pub turn : Option Turn
  pub turns : TurnsBefore file heads (turning_of from heads rounds).head turn
  pub added : new ≡ old ++ flat_map (findings_of from heads rounds turn now) heads.heads.items
