use Rattle.std.proofs.Common.{sym, ◌∙◌, arith}
use Rattle.sheets.proofs.ReachLemmas.{in_sheet_at_start, in_sheet_further}
use Rattle.sheets.proofs.collecting.from_sheet_line.Goals as goal

pub loop-piece-init : goal.loop-piece-init
loop-piece-init c = record { shorter = omega arith; in_sheet = in_sheet_at_start c.args.text.now }

pub loop-piece-preserved : goal.loop-piece-preserved
loop-piece-preserved c = record {
  shorter = omega (arith, c.in-Some.ensures.shorter, c.loop-piece.invariant.shorter);
  in_sheet = in_sheet_further c.in-Some.piece.line.now _ _ _ (sym c.is_sheet_line.ensures ∙ c.if-is_sheet_line.false)
      c.loop-piece.invariant.in_sheet c.in-Some.ensures.first;
}
