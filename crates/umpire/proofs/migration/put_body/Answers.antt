use Rattle.std.proofs.Common.{sym, ◌∙◌}
use Rattle.order_grammar.proofs.PrefixLemmas.{at_error}
use Rattle.umpire.proofs.BodyLemmas.{prefix_by_rest, prefix_of_rest, prefix_of_stretch, prefix_of_x, line_within}
use Rattle.umpire.proofs.BodyLemmas.{putting_all, putting_line, putting_none, putting_x}
use Rattle.umpire.proofs.EndedLines.{first_ended}
use Rattle.umpire.proofs.migration.put_body.Goals as goal
use Rattle.umpire.proofs.migration.put_body.Goals.{then-is_if_line+in_ok-put+in_ok-put-2, else-is_if_line}

pub loop-piece-init : goal.loop-piece-init
loop-piece-init g c = record { putting = putting_none _ _ _; unfailed = c.requires }

pub returns-in_err-put-clause-prefix : goal.returns-in_err-put-clause-prefix
returns-in_err-put-clause-prefix g c =
    let at = c.loop-piece.invariant.putting in
    at_error c.from_residual.result
    (prefix_of_stretch _ _ _ _ _ _ _ _ _ at (prefix_by_rest _ at.stretch _ at.is_kept) c.in_err-put.ensures.prefix)

pub returns-in_err-put-2-clause-prefix : goal.returns-in_err-put-2-clause-prefix
returns-in_err-put-2-clause-prefix g c =
    let at = c.loop-piece.invariant.putting in
    let h = c.in-Some.ensures in
    at_error c.from_residual-in_err-put-2.result
    (prefix_of_x _ _ _ _ _ _ _ _ _ _ _ _ _ at (first_ended _ _ _ h.lines h.rest)
    (sym c.is_if_line.ensures ∙ c.if-is_if_line.true) (prefix_by_rest _ at.stretch _ at.is_kept)
    c.in_ok-put.ensures.ok c.in_err-put-2.ensures.prefix)

pub behind-kept-requires : goal.behind-kept-requires
behind-kept-requires g c = let h = c.in-Some.ensures in line_within _ _ _ (first_ended _ _ _ h.lines h.rest)

pub loop-piece-preserved : goal.loop-piece-preserved
loop-piece-preserved g c =
    let at = c.loop-piece.invariant.putting in
    let h = c.in-Some.ensures in
    let first = first_ended c.loop-piece.rest.now c.in-Some.piece.line.now c.in-Some.piece.rest.now h.lines h.rest in
    elim c.if-is_if_line.branch [
      | then-is_if_line+in_ok-put+in_ok-put-2 w ↦ rw (w.gathered-is, w.writer-is, w.kept-is)
          (record {
            putting = putting_x _ _ _ _ _ _ _ _ _ _ _ _ _ _ _ at first
                (sym c.is_if_line.ensures ∙ w.if-is_if_line.true) (prefix_by_rest _ at.stretch _ at.is_kept)
                w.in_ok-put.ensures.ok w.in_ok-put-2.ensures.ok w.behind-kept.ensures;
            unfailed = w.in_ok-put-2.ensures.unfailed;
          })
      | else-is_if_line w ↦ rw (w.gathered-is, w.writer-is, w.kept-is)
          (record {
            putting = putting_line _ _ _ _ _ _ _ _ _ at first (sym c.is_if_line.ensures ∙ w.if-is_if_line.false);
            unfailed = c.loop-piece.invariant.unfailed;
          })
    ]

pub returns-in_err-put-3-clause-prefix : goal.returns-in_err-put-3-clause-prefix
returns-in_err-put-3-clause-prefix g c =
    at_error c.from_residual-in_err-put-3.result
    (prefix_of_rest _ _ _ _ _ _ _ _ c.loop-piece.invariant.putting c.in_default.ensures.lines
    c.in_err-put-3.ensures.prefix)

pub returns-clause-ok : goal.returns-clause-ok
returns-clause-ok g c =
    putting_all _ _ _ _ _ _ _ _ _ c.loop-piece.invariant.putting c.in_default.ensures.lines c.in_ok-put-3.ensures.ok
