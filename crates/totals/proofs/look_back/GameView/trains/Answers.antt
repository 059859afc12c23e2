use Rattle.std.proofs.Common.{ap, ◌∙◌}
use Rattle.std.specs.Int.{w64}
use Rattle.std.proofs.lemmas.Int.{to_z-of_z}
use Rattle.totals.specs.Trains.{trains_at}
use Rattle.totals.proofs.look_back.GameView.trains.Goals as goal

pub returns-clause-sum : goal.returns-clause-sum
returns-clause-sum c =
    to_z-of_z w64 c.trains_at.result (record { sfits = c.trains_at.type_inv })
    ∙ (c.trains_at.ensures.sum
    ∙ ap (λ place. trains_at c.args.self.now.events place c.args.kind) c.of_owner.ensures)
