use Rattle.std.proofs.Common.{◌≡◌, ◌≤◌, ◌-◌, length, false}
use Rattle.std.specs.Io.KnownBytes.{Consumes}
use Rattle.umpire.proofs.input.read_first.Given as goal

-- what is in the file was taken from the reader, and no call failed
abbrev pub invariant-loop-buffer : goal.invariant-loop-buffer
invariant-loop-buffer g l =
    Consumes (g.R.Read.remaining l.fn.reader.inner) (g.R.Read.remaining l.reader.inner) l.file.items
    × (l.reader.failed ≡ false) × (length l.file.items ≤ l.most) × (length l.buffer ≡ 65536)

-- how many bytes a file may still have
abbrev pub decreases-loop-buffer : goal.decreases-loop-buffer
decreases-loop-buffer g l = l.most - length l.file.items
