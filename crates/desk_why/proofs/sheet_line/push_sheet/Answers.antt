use Rattle.std.proofs.Common.{◌++◌, map, take, ap}
use Rattle.desk_why.proofs.SheetSteps.{keeps, kept_all, kept_most}
use Rattle.desk_why.specs.SheetLines.{lines_left, placed}
use Rattle.desk_why.specs.Why.{lines_kept}
use Rattle.desk_why.specs.declared.sheet_line.LinePlace.TheVariants as line_place
use Rattle.sheets.specs.Part.{SheetParts}
use Rattle.desk_why.proofs.sheet_line.push_sheet.Goals as goal

pub loop-init : goal.loop-init
loop-init c =
    ap (λ (parts : SheetParts). map placed c.args.lines.now.items
    ++ take lines_kept (lines_left c.args.seat line_place.Standing parts)) c.parts-parts.ensures

pub loop-preserved : goal.loop-preserved
loop-preserved c =
    keeps c.loop.lines.items _ c.in-Some.line _ _ _ lines_kept c.loop.counter c.loop-test.true c.loop.invariant
    c.in-Some.ensures c.in_ok-push-in-Some.ensures.items

pub returns-in-None : goal.returns-in-None
returns-in-None c = kept_all c.loop.lines.items _ _ _ c.in-None.ensures c.loop.invariant

pub returns : goal.returns
returns c = kept_most c.loop.lines.items _ _ lines_kept c.loop.counter c.loop-test.false c.loop.invariant
