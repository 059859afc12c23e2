use Rattle.std.proofs.Common.{unsigned_abs, ap, ◌∙◌}
use Rattle.std.specs.Int.{w64}
use Rattle.std.proofs.lemmas.Int.{to_z-of_z}
use Rattle.totals.proofs.AllTrains.{bank_sold}
use Rattle.totals.proofs.TrainCounts.{size_of_debt}
use Rattle.totals.specs.Trains.{trains_sold}
use Rattle.totals.proofs.look_back.GameView.trains_sold.Goals as goal

pub returns : goal.returns
returns c =
    let kept = to_z-of_z w64 c.trains_at.result (record { sfits = c.trains_at.type_inv }) in
    c.unsigned_abs.ensures.value
    ∙ ap unsigned_abs (kept ∙ (c.trains_at.ensures.sum ∙ bank_sold c.args.self.now.events c.args.kind))
    ∙ size_of_debt (trains_sold c.args.self.now.events c.args.kind)
