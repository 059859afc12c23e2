use Rattle.std.proofs.Common.{◌≡◌, ◌∙◌, ap, ℤ, pos, SFits, arith}
use Rattle.std.specs.Prelude.{◌+ℤ◌}
use Rattle.std.specs.Int.{w128}
use Rattle.std.proofs.lemmas.Int.{ints}
use Rattle.certs.specs.Sale.{another_has, kept_after}
use Rattle.certs.proofs.sale.another_has_more.Goals as goal
use mir.Val.{of_z, to_z}

-- what is kept, and one more, is no number too large
pub returns : goal.returns
returns c =
    let now = c.args.now.now in
    let kept = kept_after now.events c.args.seat c.args.sale in
    let is = c.would_keep.ensures.kept in
    let fits : SFits w128 c.would_keep.result = record { sfits = c.would_keep.type_inv } in
    let more : to_z w128 (of_z w128 (to_z w128 (of_z w128 c.would_keep.result) +ℤ pos 1)) ≡ kept +ℤ pos 1 =
    omega (arith, ints, is, fits, c.would_keep.ensures.not_over) in
    c.another_has.ensures
    ∙ ap (λ (least : ℤ). another_has now.seats now.events c.args.sale.company c.args.seat least) more
