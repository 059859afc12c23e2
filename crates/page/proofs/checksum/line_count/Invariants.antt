use Rattle.std.proofs.Common.{◌≡◌, ◌≤◌, take, false}
use Rattle.std.specs.List.{fold}
use Rattle.page.specs.Checksum.{lines_then}
use Rattle.page.proofs.checksum.line_count.Given as goal

-- the lines of the bytes so far
abbrev pub invariant-loop-byte : goal.invariant-loop-byte
invariant-loop-byte l =
    ((l.count, l.is_begun) ≡ fold lines_then (0, false) (take l.byte-index l.text)) × (l.count ≤ l.byte-index)
