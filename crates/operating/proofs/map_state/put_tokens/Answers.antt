-- The next is brought, until there is none.
use Rattle.std.proofs.Common.{ap, sym, subst, ◌∙◌}
use Rattle.std.specs.Prelude.{slice_get}
use Rattle.board_state.specs.MapState.{MapState}
use Rattle.totals.specs.Operating.{tokens_of}
use Rattle.operating.proofs.Prefixes.{next, prefix_is_all}
use Rattle.operating.specs.MapState.{BeginsWith}
use Rattle.operating.proofs.map_state.put_tokens.Goals as goal

pub loop-place-preserved : goal.loop-place-preserved
loop-place-preserved c =
    let all = tokens_of c.args.history.now.events in
    let prefix = c.loop-place.board.tokens in
    record {
      begins = subst (λ (laid : MapState). BeginsWith laid.tokens all) (sym c.in_ok-put_token.ensures.ok)
          (next prefix all (c.in-Some.place, c.in-Some.company) c.loop-place.invariant.begins
          (ap (λ n. slice_get all n) (sym c.tokens_placed.ensures) ∙ sym c.token.ensures ∙ c.in-Some.is));
      others = ap (λ (laid : MapState). laid.lays) c.in_ok-put_token.ensures.ok ∙ c.loop-place.invariant.others;
    }

pub returns-clause-tokens : goal.returns-clause-tokens
returns-clause-tokens c =
    let all = tokens_of c.args.history.now.events in
    prefix_is_all c.loop-place.board.tokens all c.loop-place.invariant.begins
    (ap (λ n. slice_get all n) (sym c.tokens_placed.ensures) ∙ sym c.token.ensures ∙ c.in_default.is)
