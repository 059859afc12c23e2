use Rattle.std.proofs.Common.{sym, ◌∙◌}
use Rattle.umpire.proofs.PartingLemmas.{divided_first, divided_later}
use Rattle.umpire.proofs.input_split.from_divider.Goals as goal
use Rattle.umpire.proofs.input_split.from_divider.Goals.{then-is_divider, else-is_divider}

pub loop-piece-preserved : goal.loop-piece-preserved
loop-piece-preserved c =
    let h = c.in-Some.ensures in
    let piece = c.in-Some.piece in
    elim c.if-is_divider.branch [
      | then-is_divider w ↦ rw w.found-is (divided_first c.args.text.now c.loop-piece.rest.now piece.rest.now
          piece.line.now _ _ h.lines h.rest (sym c.is_divider.ensures ∙ w.if-is_divider.true) c.loop-piece.invariant)
      | else-is_divider w ↦ rw w.found-is (divided_later c.args.text.now c.loop-piece.rest.now piece.rest.now
          piece.line.now _ _ h.lines h.rest (sym c.is_divider.ensures ∙ w.if-is_divider.false) c.loop-piece.invariant)
    ]
