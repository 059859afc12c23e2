use Rattle.order_grammar.proofs.PrefixLemmas.{at_error}
use Rattle.umpire.proofs.BodyLemmas.{all_of_file, blank_file_stays, prefix_by_rest, prefix_of_body, prefix_of_file}
use Rattle.umpire.proofs.BodyLemmas.{line_within}
use Rattle.umpire.proofs.EndedLines.{first_ended}
use Rattle.umpire.proofs.migration.put_in_two.Goals as goal

pub returns-in_err-put-in-Some-clause-prefix : goal.returns-in_err-put-in-Some-clause-prefix
returns-in_err-put-in-Some-clause-prefix g c =
    let found = c.from_header-text.ensures in
    let h = c.in-Some.ensures in
    at_error c.from_residual-in_err-put-in-Some.result
    (prefix_of_file _ _ _ _ _ _ _ _ _ _ _ found h.lines (first_ended _ _ _ h.lines h.rest)
    (prefix_by_rest _ found.prefix _ found.whole) c.in_ok-put.ensures.ok c.in_err-put-in-Some.ensures.prefix)

pub behind-requires : goal.behind-requires
behind-requires g c = let h = c.in-Some.ensures in line_within _ _ _ (first_ended _ _ _ h.lines h.rest)

pub returns-in_err-put_body-in-Some-clause-prefix : goal.returns-in_err-put_body-in-Some-clause-prefix
returns-in_err-put_body-in-Some-clause-prefix g c =
    let found = c.from_header-text.ensures in
    let h = c.in-Some.ensures in
    at_error c.from_residual-in_err-put_body-in-Some.result
    (prefix_of_body _ _ _ _ _ _ _ _ _ _ _ _ _ _ found h.lines (first_ended _ _ _ h.lines h.rest)
    (prefix_by_rest _ found.prefix _ found.whole) c.in_ok-put.ensures.ok c.in_ok-put-in-Some.ensures.ok
    c.behind.ensures c.in_err-put_body-in-Some.ensures.prefix)

pub returns-in_ok-put_body-in-Some-clause-ok : goal.returns-in_ok-put_body-in-Some-clause-ok
returns-in_ok-put_body-in-Some-clause-ok g c =
    let found = c.from_header-text.ensures in
    let h = c.in-Some.ensures in
    all_of_file _ _ _ _ _ _ _ _ _ _ _ _ _ _ _ found h.lines (first_ended _ _ _ h.lines h.rest)
    (prefix_by_rest _ found.prefix _ found.whole) c.in_ok-put.ensures.ok c.in_ok-put-in-Some.ensures.ok
    c.behind.ensures c.in_ok-put_body-in-Some.ensures.ok

pub returns-in-None-clause-ok : goal.returns-in-None-clause-ok
returns-in-None-clause-ok g c =
    let found = c.from_header-text.ensures in
    rw (blank_file_stays _ _ found c.in-None.ensures.lines, ← prefix_by_rest _ found.prefix _ found.whole)
    c.in_ok-put.ensures.ok
