use Rattle.std.proofs.Common.{[], arith}
use Rattle.page_map.specs.TokensShown.{token_there}
use Rattle.tables.specs.Roster.{companies}
use Rattle.tables.proofs.OneMore.{elements_step}
use Rattle.page_map.proofs.tokens.tokens_at.Goals as goal

pub loop-company-preserved : goal.loop-company-preserved
loop-company-preserved c =
    let so_far = c.loop-company.invariant in
    record {
      tokens = elements_step (token_there c.args.history.now.events c.args.stop) companies c.loop-company.company-index _
          [] _ _ c.loop-company-test.true so_far.tokens c.add_token.ensures.added;
      few = omega (arith, so_far.few, c.add_token.ensures.few);
    }
