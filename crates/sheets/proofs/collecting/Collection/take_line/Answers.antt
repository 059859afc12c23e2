use Rattle.std.proofs.Common.{◌≡◌, true, false, List, ◌∷◌, ℕ, None, sym, subst}
use Rattle.std.specs.HashMap.{get}
use Rattle.std.proofs.lemmas.Result.{on_ok_weaker, IfErr-weaker}
use Rattle.sheets.specs.Collecting.{CollectedSoFar, lines_kept}
use Rattle.sheets.specs.File.{same_sheet_key, is_sheet_line}
use Rattle.sheets.specs.Text.{written_lines}
use Rattle.sheets.proofs.ReachLemmas.{reaches_sheet_line, reaches_begun, stops_begun, reaches_inside, reaches_stray}
use Rattle.sheets.proofs.collecting.Collection.take_line.Goals as goal

pub returns-in_ok-close-clause-ok : goal.returns-in_ok-close-clause-ok
returns-in_ok-close-clause-ok c =
    let players = c.args.players.now in
    let old = c.args.self.now in
    let mid = c.close.new.self in
    let new = c.begin.new.self in
    let line : List ℕ = c.args.piece.line.now in
    let rest : List ℕ = c.args.piece.rest.now in
    let is : is_sheet_line line ≡ true = sym c.if-is_sheet_line.ensures in
    let h = c.in_ok-close.ensures in
    on_ok_weaker c.begin.result
    (λ m body r.
    let s =
    reaches_sheet_line c.args.version players body (lines_kept (get same_sheet_key old.sheets)) (lines_kept (get same_sheet_key mid.sheets))
    old.unread.items old.good line rest c.args.text.now old.current is
    c.requires.lines h.sheets r in
    let t : CollectedSoFar c.args.version players body (line ∷ written_lines rest) None (lines_kept (get same_sheet_key mid.sheets))
    mid.unread.items mid.good = rw (h.unread, h.good) s in
    rw c.begin.ensures.sheets
    (reaches_begun c.args.version players body (lines_kept (get same_sheet_key mid.sheets)) mid.unread.items mid.good line rest
    new.current new.unread.items new.good is m t))
    c.begin.ensures.ok

pub returns-in_ok-close-clause-err : goal.returns-in_ok-close-clause-err
returns-in_ok-close-clause-err c =
    let players = c.args.players.now in
    let old = c.args.self.now in
    let mid = c.close.new.self in
    let line : List ℕ = c.args.piece.line.now in
    let rest : List ℕ = c.args.piece.rest.now in
    let is : is_sheet_line line ≡ true = sym c.if-is_sheet_line.ensures in
    let h = c.in_ok-close.ensures in
    IfErr-weaker c.begin.result _ _
    (λ fault m body r.
    let s =
    reaches_sheet_line c.args.version players body (lines_kept (get same_sheet_key old.sheets)) (lines_kept (get same_sheet_key mid.sheets))
    old.unread.items old.good line rest c.args.text.now old.current is
    c.requires.lines h.sheets r in
    let t : CollectedSoFar c.args.version players body (line ∷ written_lines rest) None (lines_kept (get same_sheet_key mid.sheets))
    mid.unread.items mid.good = rw (h.unread, h.good) s in
    stops_begun c.args.version players body (lines_kept (get same_sheet_key mid.sheets)) mid.unread.items mid.good line
    (written_lines rest) fault is m t)
    c.begin.ensures.err

pub returns-then-is_some-clause-ok : goal.returns-then-is_some-clause-ok
returns-then-is_some-clause-ok c = λ body r.
    let line : List ℕ = c.args.piece.line.now in
    let rest : List ℕ = c.args.piece.rest.now in
    let old = c.args.self.now in
    let other : is_sheet_line line ≡ false = sym c.if-is_sheet_line.ensures in
    reaches_inside c.args.version c.args.players.now body (lines_kept (get same_sheet_key old.sheets)) old.unread.items old.good
    c.requires.first.0 line rest c.args.text.now old.current r.0
    (sym c.if-is_some.ensures) other c.requires.first.1 r.1
    (subst (λ ls. CollectedSoFar c.args.version c.args.players.now body ls r.0 (lines_kept (get same_sheet_key old.sheets))
    old.unread.items old.good) c.requires.lines r.2)

pub returns-in_ok-push-clause-ok : goal.returns-in_ok-push-clause-ok
returns-in_ok-push-clause-ok c = λ body r.
    let line : List ℕ = c.args.piece.line.now in
    let rest : List ℕ = c.args.piece.rest.now in
    let old = c.args.self.now in
    let other : is_sheet_line line ≡ false = sym c.if-is_sheet_line.ensures in
    rw (c.in_ok-push.ensures.items, c.unread_fault.ensures)
    (reaches_stray c.args.version c.args.players.now body (lines_kept (get same_sheet_key old.sheets)) old.unread.items old.good
    line rest c.args.text.now old.current r.0 (sym c.if-is_some.ensures) other r.1
    (subst (λ ls. CollectedSoFar c.args.version c.args.players.now body ls r.0 (lines_kept (get same_sheet_key old.sheets))
    old.unread.items old.good) c.requires.lines r.2))

pub returns-in_ok-close-clause-versions : goal.returns-in_ok-close-clause-versions
returns-in_ok-close-clause-versions c =
    on_ok_weaker c.begin.result (λ begun are. rw c.begin.ensures.sheets (c.in_ok-close.ensures.versions are))
    c.begin.ensures.ok
