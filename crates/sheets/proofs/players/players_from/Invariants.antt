use Rattle.std.proofs.Common.{◌≡◌, take, true}
use Rattle.sheets.specs.File.{all_differ, with_seats}
use Rattle.sheets.proofs.players.players_from.Given as goal

-- the map has the names so far with their seats, and they differ
abbrev pub invariant-loop-index : goal.invariant-loop-index
invariant-loop-index l = record {
  kept : l.seats.entries ≡ with_seats 0 (take l.index l.names);
  differ : all_differ (take l.index l.names) ≡ true;
}
