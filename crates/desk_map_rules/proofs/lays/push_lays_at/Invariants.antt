-- The lays without SWAP and with it, so far.
use Rattle.std.proofs.Common.{◌∷◌, [], take, flat_map}
use Rattle.board.specs.LayRules.{IsLayAnswer}
use Rattle.moves.specs.Candidates.{lay_of}
use Rattle.moves.specs.Listed.{Lists}
use Rattle.desk_map_rules.proofs.lays.push_lays_at.Given as goal

abbrev pub invariant-loop-swap : goal.invariant-loop-swap
invariant-loop-swap l =
    Lists (IsLayAnswer l.board l.asker) (flat_map (λ swap. lay_of l.hex l.tile l.rot swap ∷ [])
    (take l.swap-index l.swap-items)) l.fn.lays.items l.lays.items
