use Rattle.std.proofs.Common.{◌≡◌, ◌++◌, drop}
use Rattle.certificate.specs.Digits.{bits_of_digits}
use Rattle.certificate.proofs.bits.Bits.add_digits.Given as goal

abbrev pub invariant-loop-digit : goal.invariant-loop-digit
invariant-loop-digit l = l.self ++ bits_of_digits (drop l.digit-index l.text) ≡ l.fn.self ++ bits_of_digits l.text
