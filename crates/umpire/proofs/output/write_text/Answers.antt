use Rattle.std.proofs.Common.{arith}
use Rattle.std.proofs.lemmas.Grind.{common_steps}
use Rattle.std.proofs.lemmas.Slice.{between_to_end}
use Rattle.umpire.proofs.Known.{appends_part}
use Rattle.umpire.proofs.output.write_text.Goals as goal

pub loop-done-preserved : goal.loop-done-preserved
loop-done-preserved g c = (
  appends_part _ _ _ c.args.text.now _ c.loop-done.done c.in-Ok.count
      (between_to_end c.args.text.now c.loop-done.done _ (grind arith))
      c.loop-done.invariant.0 c.in-Ok.ensures.bytes,
  grind (arith, common_steps),
  grind (arith, common_steps),
)
