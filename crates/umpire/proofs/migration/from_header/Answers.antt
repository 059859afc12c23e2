use Rattle.std.proofs.Common.{sym, ◌∙◌}
use Rattle.umpire.proofs.BodyLemmas.{one_more_blank}
use Rattle.umpire.proofs.EndedLines.{first_ended}
use Rattle.umpire.proofs.migration.from_header.Goals as goal

pub loop-piece-preserved : goal.loop-piece-preserved
loop-piece-preserved c =
    let h = c.in-Some.ensures in
    one_more_blank _ c.loop-piece.rest.now c.in-Some.piece.line.now c.in-Some.piece.rest.now c.loop-piece.invariant
    (first_ended _ _ _ h.lines h.rest) (sym c.is_blank.ensures ∙ c.if-not-is_blank.false)
