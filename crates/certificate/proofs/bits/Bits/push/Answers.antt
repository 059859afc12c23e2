use Rattle.std.proofs.Common.{◌≡◌, arith}
use Rattle.certificate.proofs.Digits.{filled, pushed}
use Rattle.certificate.proofs.bits.Bits.push.Goals as goal

pub returns-then-self-lt7-clause-added : goal.returns-then-self-lt7-clause-added
returns-then-self-lt7-clause-added c =
    pushed c.self.inside.bytes.items c.self.inside.count c.self.inside.last c.bit_number.result c.args.bit
    c.args.self.now c.bit_number.ensures.value c.self.view_is

pub returns-clause-added : goal.returns-clause-added
returns-clause-added c =
    let seven : c.self.inside.count ≡ 7 = omega arith in
    filled c.self.inside.bytes.items c.push.new.self.items c.self.inside.count c.self.inside.last c.bit_number.result
    c.args.bit c.args.self.now seven
    c.bit_number.ensures.value c.in_ok-push.ensures.items c.self.view_is
