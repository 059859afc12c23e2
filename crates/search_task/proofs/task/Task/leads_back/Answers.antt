-- A leg leads back.
use Rattle.std.proofs.Common.{◌∙◌, ℕ, get_or, ap, arith}
use Rattle.search_task.proofs.Mirrored.{leg_at}
use Rattle.search_task.proofs.task.Task.leads_back.Goals as goal

pub returns-then-is_within : goal.returns-then-is_within
returns-then-is_within c holds =
    record {
      place = c.loop-index.index;
      back = c.index-back.result.now;
      is_there = leg_at c.args.self.now c.args.leg.now.segment.to c.index-from.result.now c.loop-index.index
          c.index-back.result.now (omega (arith, c.index-to.ensures.value, c.number.ensures))
          (c.index-from.ensures ∙ ap (λ (to : ℕ). get_or c.args.self.now.departures.items to c.index-from.result.now)
          (c.index-to.ensures.value ∙ c.number.ensures)) (omega arith) c.index-back.ensures;
      within = c.is_within.ensures c.if-is_within.true;
    }
