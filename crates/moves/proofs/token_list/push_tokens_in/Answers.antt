use Rattle.std.proofs.Common.{◌∷◌, [], Option, None, Some, refl}
use Rattle.board.specs.TokenRules.{IsTokenAnswer}
use Rattle.map_tables.specs.declared.place.StopNumber.{StopNumber}
use Rattle.map_tables.specs.declared.place.StopNumber.TheVariants.{First, Second}
use Rattle.moves.specs.Candidates.{place_at}
use Rattle.moves.proofs.ListedLemmas.{lists_done, lists_next, lists_none}
use Rattle.moves.proofs.token_list.push_tokens_in.Goals as goal

pub loop-stop-init : goal.loop-stop-init
loop-stop-init c = lists_none (IsTokenAnswer c.args.board.now c.args.asker.now) _ _ refl

pub loop-stop-preserved : goal.loop-stop-preserved
loop-stop-preserved c =
    lists_next (IsTokenAnswer c.args.board.now c.args.asker.now) (λ (stop : Option StopNumber). place_at c.args.hex stop ∷ []) _ c.loop-stop.stop-index _ _ _ _ c.loop-stop-test.true c.loop-stop.invariant
    c.in_ok-push_token.ensures

pub returns : goal.returns
returns c = lists_done (IsTokenAnswer c.args.board.now c.args.asker.now) (λ (stop : Option StopNumber). place_at c.args.hex stop ∷ []) (None ∷ Some First ∷ Some Second ∷ []) c.loop-stop.stop-index _ _ c.loop-stop-test.false c.loop-stop.invariant
