use Rattle.std.proofs.Common.{ℕ, ◌≡◌, ◌++◌, ap, ◌∙◌, arith}
use Rattle.certificate.specs.Digits.{bits_of}
use Rattle.certificate.proofs.Digits.{digit_ended}
use Rattle.certificate.proofs.bits.Bits.add_digit.Goals as goal

pub returns-then-self-eq4 : goal.returns-then-self-eq4
returns-then-self-eq4 c =
    let half_full : c.self.inside.count ≡ 4 = omega (arith, c.if-self-eq4.true) in
    digit_ended c.self.inside.bytes.items c.push.new.self.items c.self.inside.count c.self.inside.last
    c.value_of_digit-value.result c.args.self.now half_full c.value_of_digit-value.ensures.bound
    c.in_ok-push.ensures.items c.self.view_is
    ∙ ap (λ (n : ℕ). c.args.self.now ++ bits_of 4 n) c.value_of_digit-value.ensures.value
