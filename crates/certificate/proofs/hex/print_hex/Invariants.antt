use Rattle.std.proofs.Common.{◌≡◌, ◌++◌, length}
use Rattle.certificate.specs.Digits.{digits_of}
use Rattle.certificate.proofs.hex.print_hex.Given as goal

abbrev pub invariant-loop-rest : goal.invariant-loop-rest
invariant-loop-rest l = l.text.items ++ digits_of l.rest ≡ digits_of l.fn.bits

abbrev pub decreases-loop-rest : goal.decreases-loop-rest
decreases-loop-rest l = length l.rest
