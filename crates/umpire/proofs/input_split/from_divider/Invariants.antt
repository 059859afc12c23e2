use Rattle.std.proofs.Common.{length, true, ◌≡◌}
use Rattle.std.specs.Prelude.{option_map}
use Rattle.std.specs.Option.{option_or}
use Rattle.umpire.specs.InputSplit.{from_divider}
use Rattle.umpire.proofs.input_split.from_divider.Given as goal

-- what divides ahead, or the last that was found
abbrev pub invariant-loop-piece : goal.invariant-loop-piece
invariant-loop-piece l = from_divider true l.text
    ≡ option_or (from_divider true l.rest) (option_map (λ found. found.now) l.found)

abbrev pub decreases-loop-piece : goal.decreases-loop-piece
decreases-loop-piece l = length l.rest
