use Rattle.std.proofs.Common.{◌*◌, ◌<◌, ◌++◌, take, drop, arith}
use Rattle.certificate.specs.Digits.{digits_of}
use Rattle.certificate.proofs.Digits.{print_more}
use Rattle.certificate.proofs.bits.BitReader.print_digits.Goals as goal

pub loop-preserved : goal.loop-preserved
loop-preserved c =
    let some : c.loop.counter < c.args.most = omega arith in
    print_more c.loop.text.items c.push.new.self.items c.in-Some.digit c.loop.self c.digit.new.self c.args.most
    c.loop.counter
    (c.args.text.now.items ++ digits_of (take (4 * c.args.most) c.args.self.now))
    (drop (4 * c.args.most) c.args.self.now) some
    c.in_ok-push.ensures.items c.in-Some.ensures.digit c.digit.ensures.left c.loop.invariant
