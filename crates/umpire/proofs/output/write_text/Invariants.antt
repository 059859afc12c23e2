use Rattle.std.proofs.Common.{◌≡◌, ◌≤◌, ◌-◌, length, take, false}
use Rattle.std.specs.Io.KnownBytes.{Appends}
use Rattle.umpire.proofs.output.write_text.Given as goal

-- what is done was appended, and no call failed
abbrev pub invariant-loop-done : goal.invariant-loop-done
invariant-loop-done g l =
    Appends (g.W.Write.contents l.fn.writer.inner) (g.W.Write.contents l.writer.inner) (take l.done l.text)
    × (l.done ≤ length l.text) × (l.writer.failed ≡ false)

-- how many bytes are left
abbrev pub decreases-loop-done : goal.decreases-loop-done
decreases-loop-done g l = length l.text - l.done
