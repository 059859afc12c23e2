use Rattle.std.proofs.Common.{ℤ, pos, ap, SFits}
use Rattle.std.specs.Int.{w128}
use Rattle.std.specs.Int.Signed.{lt_z}
use Rattle.std.proofs.lemmas.Int.{to_z-of_z}
use Rattle.privates.proofs.bank.is_short.Goals as goal

pub returns : goal.returns
returns c =
    let free : SFits w128 c.free_for.result = record { sfits = c.free_for.type_inv } in
    let sum : SFits w128 c.from.result = record { sfits = c.from.type_inv } in
    rw (to_z-of_z w128 c.free_for.result free, to_z-of_z w128 c.from.result sum, c.from.ensures)
    (ap (λ (cash : ℤ). lt_z cash (pos c.args.sum)) c.free_for.ensures)
