-- A claim is accepted where it holds and the bits are marks.
use Rattle.std.proofs.Common.{◌≡◌, true, false, sym, ◌∙◌}
use Rattle.certificate.proofs.accept.accepts.Goals as goal

pub returns-then-not-claim_holds : goal.returns-then-not-claim_holds
returns-then-not-claim_holds g c = (
  λ wrong. absurd cc,
  λ accepted. let wrong : true ≡ false = sym (c.claim_holds.ensures.1 accepted.claim_holds)
      ∙ c.if-not-claim_holds.true in cc,
)

pub returns : goal.returns
returns g c = (
  λ yes. record {
    claim_holds = c.claim_holds.ensures.0 c.if-not-claim_holds.false;
    are_marks =
        c.marks_hold.ensures.0 yes;
  },
  λ accepted. c.marks_hold.ensures.1 accepted.are_marks,
)
