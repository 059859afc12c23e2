use Rattle.std.proofs.Common.{ℕ, ◌++◌, List, ap, ◌∙◌}
use Rattle.certificate.specs.Digits.{digits_of}
use Rattle.certificate.proofs.Digits.{printed_more}
use Rattle.certificate.proofs.hex.print_hex.Goals as goal

pub loop-rest-preserved : goal.loop-rest-preserved
loop-rest-preserved c =
    ap (λ (t : List ℕ). t ++ digits_of c.split_four.result.1.now) c.in_ok-push.ensures.items
    ∙ printed_more c.loop-rest.text.items c.digit_at.result c.loop-rest.rest.now c.split_four.result.0.now
    c.split_four.result.1.now
    (digits_of c.args.bits.now) c.split_four.ensures.first c.split_four.ensures.later c.digit_at.ensures
    c.loop-rest.invariant
