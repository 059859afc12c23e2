use Rattle.std.proofs.Common.{◌≡◌, ◌++◌, map, take}
use Rattle.std.specs.Char.{to_ascii_uppercase}
use Rattle.hints.specs.Words.{parted}
use Rattle.hints.proofs.edits.push_word.Given as goal

-- the bytes so far are added, in upper case
abbrev pub invariant-loop-byte : goal.invariant-loop-byte
invariant-loop-byte l =
    l.line.items ≡ l.fn.line.items ++ parted l.fn.line.items ++ map to_ascii_uppercase (take l.byte-index l.word)
