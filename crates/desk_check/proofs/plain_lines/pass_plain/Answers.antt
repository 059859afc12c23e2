use Rattle.std.proofs.Common.{refl, ◌∙◌, arith}
use Rattle.sheets.specs.Text.{lines_of}
use Rattle.desk_check.proofs.PlainLemmas.{no_head_passed}
use Rattle.desk_check.proofs.plain_lines.pass_plain.Goals as goal

pub loop-rest-init : goal.loop-rest-init
loop-rest-init c = record { heads = λ players. refl; shorter = omega arith }

pub loop-rest-preserved : goal.loop-rest-preserved
loop-rest-preserved c =
    let behind = c.in-Some.ensures in
    let before = c.loop-rest.invariant in
    record {
      heads = λ players. no_head_passed players c.loop-rest.lines.passed (lines_of c.loop-rest.lines.rest.now)
          behind.line (lines_of c.in-Some.rest.now) behind.lines (behind.plain.no_head players)
          ∙ before.heads players;
      shorter = omega (arith, behind.shorter, before.shorter);
    }
