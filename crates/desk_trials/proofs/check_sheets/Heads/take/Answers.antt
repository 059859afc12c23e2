use Rattle.std.proofs.Common.{◌≡◌, ℕ, ◌∷◌, [], ◌++◌, Option, Some, Bool, true, false, cond, is_some, map, refl}
use Rattle.std.proofs.Common.{sym, ap, ◌∙◌}
use Rattle.std.specs.HashMap.{get}
use Rattle.std.specs.Map.{lookup}
use Rattle.desk_trials.proofs.HeadLemmas.{came_with_one, first_comes, first_stays, last_after_insert, last_as_first}
use Rattle.desk_trials.proofs.HeadLemmas.{replaces_with_one}
use Rattle.sheets.proofs.PostLemmas.{found_after_insert, found_by_sheet_key}
use Rattle.desk_trials.specs.Heads.{AreKept, came}
use Rattle.desk_trials.specs.SheetLines.{first_line, head_at, last_line}
use Rattle.sheets.specs.contracts.sheet_key.SheetKeyPartialEq.TheImpl as derived
use Rattle.desk_trials.specs.declared.check_sheets.Head.{Head}
use Rattle.desk_trials.specs.declared.check_sheets.Heads.{Heads}
use Rattle.sheets.specs.declared.sheet_key.SheetKey.{SheetKey}
use Rattle.sheets.specs.File.{same_sheet_key}
use Rattle.desk_trials.proofs.check_sheets.Heads.take.Goals as goal
use Rattle.tables.proofs.Tests.{none_by_is_some}

-- what is kept, once one more head has come
kept_with_one : (old new : Heads) (head : Head) → AreKept old → new.seats ≡ old.seats
    → new.heads.items ≡ old.heads.items ++ head ∷ [] →
    ((sent : SheetKey) → lookup (derived.eq-value.it sent) new.last.entries
    ≡ cond (derived.eq-value.it head.sent sent) (Some head.line.number)
    (lookup (derived.eq-value.it sent) old.last.entries)) →
    head.replaces ≡ lookup (derived.eq-value.it head.sent) old.last.entries →
    ((sent : SheetKey) → get same_sheet_key new.first sent
    ≡ first_line sent (came old ++ head_at head ∷ [])) → AreKept new
kept_with_one old new head kept seats items put replaced firsts =
    let all : came new ≡ came old ++ head_at head ∷ [] =
    ap (map head_at) items ∙ came_with_one old.heads.items head in
    record {
      few = rw seats kept.few;
      firsts = λ sent. firsts sent ∙ sym (ap (first_line sent) all);
      lasts = λ sent.
          last_after_insert head.sent sent head.line.number old.last.entries new.last.entries (came old)
          (found_after_insert head.sent sent head.line.number old.last.entries new.last.entries (put sent))
          (kept.lasts sent)
          ∙ sym (ap (last_line sent) all);
      replaced =
          rw items (replaces_with_one [] old.heads.items head kept.replaced
          (replaced ∙ found_by_sheet_key head.sent old.last.entries ∙ kept.lasts head.sent));
    }

-- whether a sheet has a first head, by whether it had a last
has_first : (old : Heads) (sent : SheetKey) (replaces : Option ℕ) (test : Bool) → AreKept old →
    replaces ≡ lookup (derived.eq-value.it sent) old.last.entries → is_some replaces ≡ test →
    is_some (first_line sent (came old)) ≡ test
has_first old sent replaces test kept replaced is =
    sym (last_as_first sent (came old))
    ∙ sym (ap is_some (replaced ∙ found_by_sheet_key sent old.last.entries ∙ kept.lasts sent)) ∙ is

pub returns-then-is_some-clause-came : goal.returns-then-is_some-clause-came
returns-then-is_some-clause-came c =
    ap (map head_at) c.in_ok-push.ensures.items ∙ came_with_one c.args.self.now.heads.items _

pub returns-clause-came : goal.returns-clause-came
returns-clause-came c =
    ap (map head_at) c.in_ok-push.ensures.items ∙ came_with_one c.args.self.now.heads.items _

pub returns-then-is_some-clause-kept : goal.returns-then-is_some-clause-kept
returns-then-is_some-clause-kept c =
    let old = c.args.self.now in
    kept_with_one old _ _ c.requires refl c.in_ok-push.ensures.items c.in_ok-replaces.ensures.updates.0
    c.in_ok-replaces.ensures.old
    (λ sent. first_stays c.args.sent sent c.args.line.number (came old) old.first.entries (c.requires.firsts sent)
    (has_first old c.args.sent c.in_ok-replaces.replaces true c.requires c.in_ok-replaces.ensures.old
    (sym c.is_some.ensures ∙ c.if-is_some.true)))

pub returns-clause-kept : goal.returns-clause-kept
returns-clause-kept c =
    let old = c.args.self.now in
    kept_with_one old _ _ c.requires refl c.in_ok-push.ensures.items c.in_ok-replaces.ensures.updates.0
    c.in_ok-replaces.ensures.old
    (λ sent. first_comes c.args.sent sent c.args.line.number (came old) old.first.entries c.insert-2.new.self.entries
    (found_after_insert c.args.sent sent c.args.line.number old.first.entries c.insert-2.new.self.entries
    (c.in_ok-insert.ensures.updates.0 sent))
    (c.requires.firsts sent)
    (none_by_is_some _ (has_first old c.args.sent c.in_ok-replaces.replaces false c.requires c.in_ok-replaces.ensures.old
    (sym c.is_some.ensures ∙ c.if-is_some.false))))
