use Rattle.std.proofs.Common.{◌≡◌, ◌++◌}
use Rattle.std.specs.List.{flat_map, range_with_len}
use Rattle.report.specs.Statement.{player_line}
use Rattle.report.proofs.statement.push_players.Given as goal

-- the players so far
abbrev pub invariant-loop-seat : goal.invariant-loop-seat
invariant-loop-seat l =
    l.out.items ≡ l.fn.out.items ++ flat_map (λ seat. player_line l.sheets l.view (record { 0 = seat })) (range_with_len 0 l.seat)
