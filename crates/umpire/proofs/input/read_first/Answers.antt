use Rattle.std.proofs.Common.{arith}
use Rattle.std.proofs.lemmas.Grind.{common_steps}
use Rattle.umpire.proofs.Known.{all_taken, enough_taken, within_limit}
use Rattle.umpire.proofs.input.read_first.Goals as goal

pub returns-then-count-eq0-clause-bytes : goal.returns-then-count-eq0-clause-bytes
returns-then-count-eq0-clause-bytes g c =
    all_taken _ _ _ c.loop-buffer.file.items _ c.args.most c.loop-buffer.invariant.0 c.in-Ok.ensures.bytes.0
    (grind (arith, common_steps))
    (c.in-Ok.ensures.bytes.1 (grind arith) (grind (arith, common_steps))) (grind arith)

pub returns-clause-bytes : goal.returns-clause-bytes
returns-clause-bytes g c = enough_taken _ _ c.loop-buffer.file.items c.args.most c.loop-buffer.invariant.0
    (grind (arith, common_steps))

pub returns-in_err-extend_from_slice-clause-limit : goal.returns-in_err-extend_from_slice-clause-limit
returns-in_err-extend_from_slice-clause-limit g c =
    within_limit _ _ _ c.loop-buffer.file.items _ c.args.most c.loop-buffer.invariant.0 c.in-Ok.ensures.bytes.0
    (grind (arith, common_steps))
