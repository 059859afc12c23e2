use Rattle.std.proofs.Common.{take}
use Rattle.replay.specs.Shown.{AddsNew, texts}
use Rattle.replay.proofs.merge.add_new.Given as goal

-- the first parts of the page are added
abbrev pub invariant-loop-part : goal.invariant-loop-part
invariant-loop-part l = AddsNew l.initial.parts.items l.parts.items (texts (take l.part-index l.page)) l.number
