use Rattle.std.proofs.Common.{ℕ, List, ◌+◌, take, sym, arith, length, ◌≡◌}
use Rattle.std.proofs.lemmas.Bool.{eqb-false}
use Rattle.sheets.proofs.TextLemmas.{begins_with_line, begins_with_last, behind, lines_at_newline}
use Rattle.sheets.proofs.TextLemmas.{lines_without_newline, rest_at_newline, rest_without_newline}
use Rattle.sheets.proofs.text.first_line.Goals as goal

pub returns-in-Some-clause-first : goal.returns-in-Some-clause-first
returns-in-Some-clause-first c =
    let text : List ℕ = c.args.text.now in
    let end : ℕ = c.in-Some.end in
    let h = c.in-Some.ensures in
    rw (c.without_return.ensures, behind c.args.text.now (c.in-Some.end + 1))
    (take (end + 1) text, begins_with_line text end h.within h.is h.none_before)

pub returns-in-None-clause-first : goal.returns-in-None-clause-first
returns-in-None-clause-first c =
    let some : length c.args.text.now ≡ 0 → ⊥ =
    eqb-false (length c.args.text.now) 0 (sym c.if-is_empty.ensures) in (
      c.args.text.now,
      begins_with_last
          c.args.text.now (omega arith) c.in-None.ensures,
    )

pub returns-in-Some-clause-lines : goal.returns-in-Some-clause-lines
returns-in-Some-clause-lines c =
    let h = c.in-Some.ensures in
    rw (c.without_return.ensures, behind c.args.text.now (c.in-Some.end + 1))
    (lines_at_newline c.args.text.now c.in-Some.end h.within h.is h.none_before)

pub returns-in-Some-clause-rest : goal.returns-in-Some-clause-rest
returns-in-Some-clause-rest c =
    let h = c.in-Some.ensures in
    rw (behind c.args.text.now (c.in-Some.end + 1))
    (rest_at_newline c.args.text.now c.in-Some.end h.within h.is h.none_before)

pub returns-in-None-clause-lines : goal.returns-in-None-clause-lines
returns-in-None-clause-lines c =
    let some : length c.args.text.now ≡ 0 → ⊥ =
    eqb-false (length c.args.text.now) 0 (sym c.if-is_empty.ensures) in lines_without_newline c.args.text.now
    (omega arith) c.in-None.ensures

pub returns-in-None-clause-rest : goal.returns-in-None-clause-rest
returns-in-None-clause-rest c = rest_without_newline c.args.text.now c.in-None.ensures
