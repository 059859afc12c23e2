use Rattle.std.proofs.Common.{◌≡◌, ◌++◌, drop}
use Rattle.certificate.specs.Digits.{bits_of_digits}
use Rattle.certificate.proofs.hex.read_hex.Given as goal

abbrev pub invariant-loop-digit : goal.invariant-loop-digit
invariant-loop-digit l = l.bits.items ++ bits_of_digits (drop l.digit-index l.text) ≡ bits_of_digits l.text
