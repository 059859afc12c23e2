use Rattle.std.proofs.Common.{◌++◌, ◌∙◌, arith}
use Rattle.certificate.specs.Digits.{bits_of, bits_of_bytes}
use Rattle.certificate.proofs.Digits.{first_in_hand}
use Rattle.certificate.proofs.bits.BitReader.is_one.Goals as goal

pub returns-then-self-gt0 : goal.returns-then-self-gt0
returns-then-self-gt0 c =
    let i = c.self.inside in
    c.first_bit.ensures
    ∙ first_in_hand i.left i.«open» (bits_of_bytes i.bytes.now ++ bits_of i.count i.last) c.args.self.now (omega arith)
    c.self.view_is
