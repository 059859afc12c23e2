use Rattle.std.proofs.Common.{◌≡◌}
use Rattle.market.specs.Moves.{fallen}
use Rattle.market.proofs.moves.fall.Given as goal

-- the token has moved down as often as the loop has run
abbrev pub invariant-loop : goal.invariant-loop
invariant-loop l = l.at ≡ fallen l.counter l.fn.from
