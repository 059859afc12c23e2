-- What the report of a file says of the first line of a seat's first turn, where no other line is
-- ruled before it in its round. Below the header and the rounds before it comes the line ROUND, then
-- PASSES of each seat before it, then what becomes of the line, and what its order moves. Of a company's
-- first line it says the same, with what play brings before the company in place of PASSES.
use Rattle.std.specs.Prelude.{◌≡◌, ℕ, List, ◌∷◌, ◌++◌}
use Rattle.std.specs.List.{flat_map}
use Rattle.events.specs.declared.event.Event.{Event}
use Rattle.events.specs.declared.event.Event.TheVariants as event
use Rattle.events.specs.declared.ruling.Ruling.{Ruling}
use Rattle.report.specs.Line.{event_line, ruled_line}
use Rattle.report.specs.Report.{header, rounds_text}
use Rattle.tables.specs.declared.round.Round.{Round}
use Rattle.tables.specs.declared.seat.Seat.{Seat}
use Rattle.totals.specs.LookBack.{Game}

-- that a seat passes, as its line of the report
abbrev pub pass_line : List ℕ → Seat → List ℕ
pass_line file seat = event_line file (event.Passes seat)

-- in the report the round begins after this game, these seats pass, and the line of a seat's sheet
-- with this number is ruled so; right below it are these events
pub record IsReportedFirst (file text : List ℕ) (game : Game) (round : Round) (seat : Seat) (number : ℕ) (ruling : Ruling)
    (moved : List Event) : Type 0 where
  pub passing : List Seat
  pub rest : List ℕ
  pub is : text ≡ header file ++ (rounds_text file game ++ (event_line file (event.Round round)
      ++ (flat_map (pass_line file) passing ++ (ruled_line file seat number ruling
      ++ (flat_map (event_line file) moved ++ rest)))))

-- in the report the round begins after this game, its lines are those of the events up to the head,
-- and these events come next
pub record IsReportedNext (file text : List ℕ) (before : Game) (round : Round) (head : Game) (said : List Event)
    : Type 0 where
  pub added : List Event
  pub there : head.events ≡ before.events ++ event.Round round ∷ added
  pub rest : List ℕ
  pub is : text ≡ header file ++ (rounds_text file before ++ (flat_map (event_line file) (event.Round round ∷ added)
      ++ (flat_map (event_line file) said ++ rest)))
