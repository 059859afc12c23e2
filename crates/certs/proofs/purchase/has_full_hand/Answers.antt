use Rattle.std.proofs.Common.{ℤ, pos, ap, ◌∙◌, SFits, arith, ◌≡◌}
use Rattle.std.specs.Int.{w128}
use Rattle.std.specs.Int.Signed.{le_z}
use Rattle.std.proofs.lemmas.Int.{ints, to_z-of_z}
use Rattle.certs.specs.Counted.{counted_of}
use Rattle.tables.specs.Roster.{certificate_limit_of}
use Rattle.certs.proofs.purchase.has_full_hand.Goals as goal
use mir.Val.{to_z}

pub returns : goal.returns
returns c =
    let now = c.args.now.now in
    let fits : SFits w128 c.counted_now.result = record { sfits = c.counted_now.type_inv } in
    let counted = to_z-of_z w128 c.counted_now.result fits ∙ c.counted_now.ensures in
    let small = c.certificate_limit.type_inv in
    let is : to_z w128 c.certificate_limit.result ≡ pos c.certificate_limit.result = omega (arith, ints, small) in
    ap (λ (z : ℤ). le_z (to_z w128 c.certificate_limit.result) z) counted
    ∙ ap (λ (z : ℤ). le_z z (counted_of now.events c.args.seat)) (is
    ∙ ap pos (c.certificate_limit.ensures ∙ ap certificate_limit_of c.seats.ensures))
