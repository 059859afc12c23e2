use Rattle.std.proofs.Common.{◌≡◌, ◌++◌, codes, take}
use Rattle.order_grammar.specs.Print.{spaced}
use Rattle.report.specs.Report.{game_line}
use Rattle.sheets.specs.File.{players_of, version_of}
use Rattle.report.proofs.text.push_header.Given as goal

-- the names so far
abbrev pub invariant-loop-seat : goal.invariant-loop-seat
invariant-loop-seat l =
    l.out.items ≡ ((l.fn.out.items ++ game_line (version_of l.sheets)) ++ codes "PLAYERS")
    ++ spaced (take l.seat (players_of l.sheets))
