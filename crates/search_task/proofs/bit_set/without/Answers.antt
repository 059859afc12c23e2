-- Bit by bit: what is in one and not in the other.
use Rattle.std.proofs.Common.{arith, w64}
use Rattle.std.proofs.lemmas.Nat.Bits.{bit_at-lt, bit_at_and, bit_at_not}
use Rattle.std.specs.Int.{bit_not}
use Rattle.search_task.proofs.bit_set.without.Goals as goal

pub returns : goal.returns
returns c bit low =
    omega (
      arith,
      bit_at_and c.args.word (bit_not w64 c.args.other) bit,
      bit_at_not w64 c.args.other bit (omega arith)
          low,
      bit_at-lt c.args.word bit,
      bit_at-lt c.args.other bit,
    )
