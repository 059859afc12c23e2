use Rattle.std.proofs.Common.{◌≡◌, ◌≤◌, ◌∙◌, Some, refl, sym, subst}
use Rattle.std.proofs.lemmas.Result.{err_from_is_err_and}
use Rattle.sheets.specs.File.{content_of, body_content, Fails, good_lines, version_of}
use Rattle.sheets.specs.Limits.{sheets_most}
use Rattle.sheets.specs.Text.{written_lines}
use Rattle.sheets.proofs.ContentLemmas.{too_long, short_enough, few_enough, fails, fails_by}
use Rattle.sheets.proofs.file.examine.Goals as goal

pub returns-then-file-gt-FILE_MOST-clause-version : goal.returns-then-file-gt-FILE_MOST-clause-version
returns-then-file-gt-FILE_MOST-clause-version c = too_long c.args.file.now c.if-file-gt-FILE_MOST.true

pub returns-in_err-version-clause-version : goal.returns-in_err-version-clause-version
returns-in_err-version-clause-version c =
    let p = err_from_is_err_and c.from_residual.result c.from_residual.ensures.1 in
    rw (p.1, p.2) (fails _ (content_of c.args.file.now)
    (short_enough c.args.file.now c.if-file-gt-FILE_MOST.false ∙ c.in_err-version.ensures.content))

pub returns-in_err-players-clause-version : goal.returns-in_err-players-clause-version
returns-in_err-players-clause-version c =
    let p = err_from_is_err_and c.from_residual-in_err-players.result c.from_residual-in_err-players.ensures.1 in
    rw (p.1, p.2)
    (subst (Fails c.in_err-players.field-0.0)
    (sym (short_enough c.args.file.now c.if-file-gt-FILE_MOST.false ∙ c.in_ok-version.ensures.content))
    c.in_err-players.ensures.content)

pub returns-in_err-examine_body-clause-version : goal.returns-in_err-examine_body-clause-version
returns-in_err-examine_body-clause-version c =
    let p = err_from_is_err_and c.from_residual-in_err-examine_body.result
    c.from_residual-in_err-examine_body.ensures.1 in
    let names = c.in_ok-players.players in
    let body = written_lines c.in_ok-players.body.now in
    let content : content_of c.args.file.now ≡ body_content body (Some names) =
    short_enough c.args.file.now c.if-file-gt-FILE_MOST.false ∙ c.in_ok-version.ensures.content
    ∙ c.in_ok-players.ensures.content in
    rw (p.1, p.2) (fails_by names body _ (content_of c.args.file.now) content
    c.in_err-examine_body.ensures.err)

pub returns-clause-accepted : goal.returns-clause-accepted
returns-clause-accepted c =
    let names = c.in_ok-players.players in
    let body = written_lines c.in_ok-players.body.now in
    let few : good_lines names body ≤ sheets_most = c.in_ok-examine_body.ensures.good in
    let content : content_of c.args.file.now ≡ body_content body (Some names) =
    short_enough c.args.file.now c.if-file-gt-FILE_MOST.false ∙ c.in_ok-version.ensures.content
    ∙ c.in_ok-players.ensures.content in
    rw (content ∙ few_enough names body few) refl

pub returns-clause-version : goal.returns-clause-version
unfolding version_of
returns-clause-version c = c.in_ok-version.ensures.version
