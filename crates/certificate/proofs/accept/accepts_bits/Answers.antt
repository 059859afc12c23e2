-- A claim is accepted where it holds and the bits are marks.
use Rattle.std.proofs.Common.{◌≡◌, Bool, true, false, List, sym, subst, ◌∙◌}
use Rattle.reach.specs.Position.{Position}
use Rattle.certificate.specs.Holding.{AreMarks}
use Rattle.certificate.proofs.accept.accepts_bits.Goals as goal

pub returns-then-not-claim_holds : goal.returns-then-not-claim_holds
returns-then-not-claim_holds g c = (
  λ wrong. absurd cc,
  λ accepted. let wrong : true ≡ false = sym (c.claim_holds.ensures.1 accepted.claim_holds)
      ∙ c.if-not-claim_holds.true in cc,
)

pub returns : goal.returns
returns g c =
    let position : Position = g.N.Network.position c.args.network.now in
    let marks : List Bool → Type 0 = λ bits. AreMarks position c.args.company c.args.trains.now
    c.args.claim.now.revenue bits in (
      λ yes. record {
        claim_holds = c.claim_holds.ensures.0 c.if-not-claim_holds.false;
        are_marks =
            subst marks c.reader.ensures (c.marks_hold.ensures.0 yes);
      },
      λ accepted. c.marks_hold.ensures.1 (subst marks (sym c.reader.ensures) accepted.are_marks),
    )
