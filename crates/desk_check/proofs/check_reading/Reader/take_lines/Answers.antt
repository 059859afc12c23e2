use Rattle.std.proofs.Common.{◌≡◌, ℕ, false, List, ◌∷◌, rules, refl, sym, ap, subst, ◌∙◌, arith}
use Rattle.desk_check.proofs.SaidLemmas.{adds_none, behind_ended, behind_first, behind_further, behind_left, is_read}
use Rattle.desk_check.proofs.SaidLemmas.{number_within, shown_ended, shown_first, shown_further, shown_left}
use Rattle.desk_check.specs.SheetSaid.{Adds, game_of}
use Rattle.desk_check.specs.declared.check_reading.Read.{Read}
use Rattle.desk_trials.specs.SheetFaults.{ends_sheet}
use Rattle.desk_trials.specs.declared.check_lines.FileLines.{FileLines}
use Rattle.sheets.specs.Text.{lines_of}
use Rattle.desk_check.proofs.check_reading.Reader.take_lines.Goals as goal

pub loop-line-init : goal.loop-line-init
loop-line-init c =
    let same = c.into_iter-line-iterator.ensures.into_iter_gives in
    let passed = ap (λ (lines : FileLines). lines.passed) same in
    let texts = ap (λ (lines : FileLines). lines_of lines.rest.now) same in
    let reader = c.args.self.now in (
      search rules,
      search rules,
      rw (ap (λ (read : Read). read.number) c.nothing-read.ensures) (omega arith),
      refl,
      λ new told.
          shown_first c.args.found.now new reader.version (game_of reader) reader.sent c.args.found.now.from _ _ _ _ _
          c.nothing-read.ensures passed texts told,
      behind_first reader.version reader.sent _ _ _ _ _ c.nothing-read.ensures passed texts,
    )

pub take-said-requires : goal.take-said-requires
take-said-requires c =
    is_read c.loop-line.read.number c.in-Some.line.text.now (sym c.ends_sheet.ensures ∙ c.if-ends_sheet.false)

pub returns-then-ends_sheet : goal.returns-then-ends_sheet
returns-then-ends_sheet c =
    let text = c.in-Some.line.text.now in
    let comes = c.in-Some.ensures.steps.text in
    let ended = sym c.ends_sheet.ensures ∙ c.if-ends_sheet.true in
    record {
      adds =
          c.loop-line.invariant.4 c.loop-line.found
          (subst (Adds c.loop-line.found c.loop-line.found) (sym (shown_ended _ _ _ _ _ _ text _ _ comes ended))
          (adds_none c.loop-line.found));
      read_is = sym (behind_ended _ _ _ _ text _ _ comes ended) ∙ c.loop-line.invariant.5;
    }

pub loop-line-preserved : goal.loop-line-preserved
loop-line-preserved c =
    let before = c.loop-line.invariant in
    let line = c.in-Some.line in
    let reader = c.args.self.now in
    let read = c.loop-line.read in
    let goes_on : ends_sheet read.number line.text.now ≡ false = sym c.ends_sheet.ensures ∙ c.if-ends_sheet.false in
    let comes =
    c.in-Some.ensures.steps.text ∙ ap (λ (rest : List ℕ). line.text.now ∷ lines_of rest) (sym c.in-Some.ensures.steps.left)
    in (
      search rules,
      search rules,
      rw c.take-said.ensures.read
          (number_within reader.version reader.sent read line.number line.text.now (is_read read.number line.text.now goes_on)),
      c.in_ok-add_said.ensures.from ∙ before.3,
      shown_further c.args.found.now c.loop-line.found _ _ reader.version (game_of reader) reader.sent c.args.found.now.from
          read _ line.text.now _ _ line.number _ _ _ before.4 comes goes_on before.3 c.in-Some.ensures.steps.number
          c.in-Some.ensures.steps.passed c.take-said.ensures.read c.take-said.ensures.said c.in_ok-add_said.ensures,
      behind_further _ reader.version reader.sent read _ line.text.now _ _ line.number _ _ before.5 comes goes_on
          c.in-Some.ensures.steps.number c.in-Some.ensures.steps.passed c.take-said.ensures.read,
    )

pub returns : goal.returns
returns c =
    let none = ap lines_of c.in-None.ensures.steps.0 in
    record {
      adds =
          c.loop-line.invariant.4 c.loop-line.found
          (subst (Adds c.loop-line.found c.loop-line.found) (sym (shown_left _ _ _ _ _ _ _ none))
          (adds_none c.loop-line.found));
      read_is = sym (behind_left _ _ _ _ _ none) ∙ c.loop-line.invariant.5;
    }
