use Rattle.std.proofs.Common.{◌-◌, ◌*◌, ◌++◌, take, drop}
use Rattle.certificate.specs.Digits.{digits_of}
use Rattle.certificate.proofs.Digits.{Prints}
use Rattle.certificate.proofs.bits.BitReader.print_digits.Given as goal

abbrev pub invariant-loop : goal.invariant-loop
invariant-loop l = Prints l.text.items l.self (l.most - l.counter)
    (l.fn.text.items ++ digits_of (take (4 * l.most) l.fn.self)) (drop (4 * l.most) l.fn.self)
