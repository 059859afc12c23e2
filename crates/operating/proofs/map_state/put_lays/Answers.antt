-- The next is brought, until there is none.
use Rattle.std.proofs.Common.{ap, sym, subst, ◌∙◌}
use Rattle.std.specs.Prelude.{slice_get}
use Rattle.board_state.specs.MapState.{MapState}
use Rattle.totals.specs.Operating.{lays_of}
use Rattle.operating.proofs.Prefixes.{next, prefix_is_all}
use Rattle.operating.specs.MapState.{BeginsWith}
use Rattle.operating.proofs.map_state.put_lays.Goals as goal

pub loop-lay-preserved : goal.loop-lay-preserved
loop-lay-preserved c =
    let all = lays_of c.args.history.now.events in
    let prefix = c.loop-lay.board.lays in
    record {
      begins = subst (λ (laid : MapState). BeginsWith laid.lays all) (sym c.in_ok-put_lay.ensures.ok)
          (next prefix all c.in-Some.lay c.loop-lay.invariant.begins
          (ap (λ n. slice_get all n) (sym c.tiles_laid.ensures) ∙ sym c.laid.ensures ∙ c.in-Some.is));
      others = ap (λ (laid : MapState). laid.tokens) c.in_ok-put_lay.ensures.ok ∙ c.loop-lay.invariant.others;
    }

pub returns-clause-lays : goal.returns-clause-lays
returns-clause-lays c =
    let all = lays_of c.args.history.now.events in
    prefix_is_all c.loop-lay.board.lays all c.loop-lay.invariant.begins
    (ap (λ n. slice_get all n) (sym c.tiles_laid.ensures) ∙ sym c.laid.ensures ∙ c.in_default.is)
