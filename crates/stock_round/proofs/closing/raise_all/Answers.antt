use Rattle.std.proofs.Common.{◌∙◌}
use Rattle.stock_round.proofs.ClosingLemmas.{rises_go_on}
use Rattle.stock_round.proofs.closing.raise_all.Goals as goal

pub loop-company-preserved : goal.loop-company-preserved
loop-company-preserved c =
    record {
      after = rises_go_on c.loop-company.history c.move_up_if_sold_out.new.history c.args.companies.now
          c.loop-company.company-index _ c.loop-company-test.true c.in_ok-move_up_if_sold_out.ensures.after
          ∙ c.loop-company.invariant.after;
      game = c.in_ok-move_up_if_sold_out.ensures.game;
    }
