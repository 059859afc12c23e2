use Rattle.std.proofs.Common.{◌∷◌, [], Bool, true, false, refl}
use Rattle.board.specs.LayRules.{IsLayAnswer}
use Rattle.moves.specs.Candidates.{lay_of}
use Rattle.moves.proofs.ListedLemmas.{lists_done, lists_next, lists_none}
use Rattle.desk_map_rules.proofs.lays.push_lays_at.Goals as goal

pub loop-swap-init : goal.loop-swap-init
loop-swap-init c = lists_none (IsLayAnswer c.args.board.now c.args.asker.now) _ _ refl

pub loop-swap-preserved : goal.loop-swap-preserved
loop-swap-preserved c =
    lists_next (IsLayAnswer c.args.board.now c.args.asker.now) (λ (swap : Bool). lay_of c.args.hex c.args.tile c.args.rot swap ∷ []) _ c.loop-swap.swap-index _ _ _ _ c.loop-swap-test.true c.loop-swap.invariant
    c.in_ok-push_lay.ensures

pub returns : goal.returns
returns c = lists_done (IsLayAnswer c.args.board.now c.args.asker.now) (λ (swap : Bool). lay_of c.args.hex c.args.tile c.args.rot swap ∷ []) (false ∷ true ∷ []) c.loop-swap.swap-index _ _ c.loop-swap-test.false c.loop-swap.invariant
