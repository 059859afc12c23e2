use Rattle.std.proofs.Common.{[], ◌∷◌, ◌++◌, sym, ◌∙◌}
use Rattle.sheets.proofs.TextLemmas.{begins_with_nothing, after_blank, before_line, lines_of_both}
use Rattle.sheets.proofs.text.first_written.Goals as goal

pub loop-piece-init : goal.loop-piece-init
loop-piece-init c = ([], begins_with_nothing c.args.text.now)

pub loop-piece-preserved : goal.loop-piece-preserved
loop-piece-preserved c =
    let a = c.loop-piece.invariant in
    let b = c.in-Some.ensures.first in (
      a.0 ++ b.0,
      after_blank a.0 b.0 c.in-Some.piece.line.now _ _ _ (sym c.is_blank.ensures ∙ c.if-not-is_blank.false)
          a.1 b.1,
    )

pub returns-then-not-is_blank-clause-first : goal.returns-then-not-is_blank-clause-first
returns-then-not-is_blank-clause-first c =
    let a = c.loop-piece.invariant in
    let b = c.in-Some.ensures.first in (
      a.0 ++ b.0,
      before_line a.0 b.0 c.in-Some.piece.line.now _ _ _ (sym c.is_blank.ensures ∙ c.if-not-is_blank.true)
          a.1 b.1,
    )

pub returns-then-not-is_blank-clause-lines : goal.returns-then-not-is_blank-clause-lines
returns-then-not-is_blank-clause-lines c =
    let a = c.loop-piece.invariant in
    let b = c.in-Some.ensures.first in
    lines_of_both (a.0 ++ b.0) (c.in-Some.piece.line.now ∷ []) c.in-Some.piece.rest.now c.args.text.now
    (before_line a.0 b.0 c.in-Some.piece.line.now _ _ _ (sym c.is_blank.ensures ∙ c.if-not-is_blank.true) a.1 b.1)
