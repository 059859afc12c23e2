use Rattle.std.proofs.Common.{◌≡◌, ◌≤◌, ◌∙◌, Some, refl, sym, subst}
use Rattle.std.specs.HashMap.{get}
use Rattle.std.proofs.lemmas.Result.{err_from_is_err_and}
use Rattle.sheets.specs.File.{content_of, body_content, Fails, same_sheet_key, good_lines}
use Rattle.sheets.specs.Limits.{sheets_most}
use Rattle.sheets.specs.Text.{written_lines}
use Rattle.sheets.proofs.ContentLemmas.{too_long, short_enough, few_enough, fails, fails_by, collected}
use Rattle.sheets.proofs.file.collect.Goals as goal

pub returns-then-file-gt-FILE_MOST-clause-file : goal.returns-then-file-gt-FILE_MOST-clause-file
returns-then-file-gt-FILE_MOST-clause-file c = too_long c.args.file.now c.if-file-gt-FILE_MOST.true

pub returns-in_err-version-clause-file : goal.returns-in_err-version-clause-file
returns-in_err-version-clause-file c =
    let p = err_from_is_err_and c.from_residual.result c.from_residual.ensures.1 in
    rw (p.1, p.2) (fails _ (content_of c.args.file.now)
    (short_enough c.args.file.now c.if-file-gt-FILE_MOST.false ∙ c.in_err-version.ensures.content))

pub returns-in_err-players-clause-file : goal.returns-in_err-players-clause-file
returns-in_err-players-clause-file c =
    let p = err_from_is_err_and c.from_residual-in_err-players.result c.from_residual-in_err-players.ensures.1 in
    rw (p.1, p.2)
    (subst (Fails c.in_err-players.field-0.0)
    (sym (short_enough c.args.file.now c.if-file-gt-FILE_MOST.false ∙ c.in_ok-version.ensures.content))
    c.in_err-players.ensures.content)

pub returns-in_err-collection-clause-file : goal.returns-in_err-collection-clause-file
returns-in_err-collection-clause-file c =
    let p = err_from_is_err_and c.from_residual-in_err-collection.result c.from_residual-in_err-collection.ensures.1 in
    let names = c.in_ok-players.players in
    let body = written_lines c.in_ok-players.body.now in
    let content : content_of c.args.file.now ≡ body_content body (Some names) =
    short_enough c.args.file.now c.if-file-gt-FILE_MOST.false ∙ c.in_ok-version.ensures.content
    ∙ c.in_ok-players.ensures.content in
    rw (p.1, p.2) (fails_by names body _ (content_of c.args.file.now) content
    c.in_err-collection.ensures.err)

pub invariant_of-result : goal.invariant_of-result
invariant_of-result c =
    let names = c.in_ok-players.players in
    let body = written_lines c.in_ok-players.body.now in
    let kept = c.in_ok-collection.collection in
    let few : good_lines names body ≤ sheets_most = c.in_ok-collection.ensures.good in
    let content : content_of c.args.file.now ≡ body_content body (Some names) =
    short_enough c.args.file.now c.if-file-gt-FILE_MOST.false ∙ c.in_ok-version.ensures.content
    ∙ c.in_ok-players.ensures.content in
    collected c.args.file.now c.in_ok-version.version names body (get same_sheet_key kept.sheets) kept.unread.items
    c.in_ok-version.ensures.version (content ∙ few_enough names body few) c.in_ok-players.ensures.least
    c.in_ok-players.ensures.most
    c.in_ok-collection.ensures.sheets c.in_ok-collection.ensures.unread

pub returns-clause-accepted : goal.returns-clause-accepted
returns-clause-accepted c =
    let names = c.in_ok-players.players in
    let body = written_lines c.in_ok-players.body.now in
    let few : good_lines names body ≤ sheets_most = c.in_ok-collection.ensures.good in
    let content : content_of c.args.file.now ≡ body_content body (Some names) =
    short_enough c.args.file.now c.if-file-gt-FILE_MOST.false ∙ c.in_ok-version.ensures.content
    ∙ c.in_ok-players.ensures.content in
    rw (content ∙ few_enough names body few) refl
