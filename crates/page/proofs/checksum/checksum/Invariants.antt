use Rattle.std.proofs.Common.{◌≡◌, take}
use Rattle.std.specs.List.{fold}
use Rattle.page.specs.Checksum.{after_byte}
use Rattle.page.proofs.checksum.checksum.Given as goal

-- what is left after the bytes so far
abbrev pub invariant-loop-byte : goal.invariant-loop-byte
invariant-loop-byte l = l.rest ≡ fold after_byte 0xffff_ffff (take l.byte-index l.text)
