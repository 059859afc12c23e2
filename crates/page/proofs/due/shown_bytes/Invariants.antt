use Rattle.std.proofs.Common.{◌≡◌, map, take}
use Rattle.page.specs.Due.{shown_byte}
use Rattle.page.proofs.due.shown_bytes.Given as goal

-- the bytes so far, as they are shown
abbrev pub invariant-loop-byte : goal.invariant-loop-byte
invariant-loop-byte l = l.shown.items ≡ map shown_byte (take l.byte-index l.bytes)
