use Rattle.std.proofs.Common.{◌≡◌, ◌++◌, drop}
use Rattle.certificate.proofs.bits.Bits.push_all.Given as goal

abbrev pub invariant-loop-bit : goal.invariant-loop-bit
invariant-loop-bit l = l.self ++ drop l.bit-index l.bits ≡ l.fn.self ++ l.bits
