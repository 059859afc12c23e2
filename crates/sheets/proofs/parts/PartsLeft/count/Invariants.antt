use Rattle.std.proofs.Common.{◌≡◌, ◌+◌, ◌≤◌, length}
use Rattle.sheets.specs.Part.{lines_in, parts_left}
use Rattle.sheets.proofs.parts.PartsLeft.count.Given as goal

-- those that are counted, and those that are still to come
abbrev pub invariant-loop-line : goal.invariant-loop-line
invariant-loop-line l = record {
  counted : l.count + lines_in (parts_left l.self-inside.round l.rest)
      ≡ lines_in (parts_left l.self-inside.round l.self-inside.lines);
  few : l.count ≤ l.rest.number;
}

abbrev pub decreases-loop-line : goal.decreases-loop-line
decreases-loop-line l = length l.rest.lines
