use Rattle.std.proofs.Common.{◌≡◌, map, take}
use Rattle.hints.specs.Mail.{clean}
use Rattle.hints.proofs.mail.without_strays.Given as goal

-- the bytes so far are clean
abbrev pub invariant-loop-byte : goal.invariant-loop-byte
invariant-loop-byte l = l.cleaned.items ≡ map clean (take l.byte-index l.line)
