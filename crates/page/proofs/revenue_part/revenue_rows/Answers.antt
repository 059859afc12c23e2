use Rattle.std.proofs.Common.{◌≡◌, ◌∷◌, ◌+◌, ◌≤◌, ◌∙◌, length, take, drop, arith}
use Rattle.std.specs.Prelude.{slice_range}
use Rattle.std.proofs.lemmas.Grind.{common_steps}
use Rattle.report.proofs.Rounds.{first_from}
use Rattle.report.specs.Report.{rounds_in}
use Rattle.page.proofs.RevenueLemmas.{rows_step}
use Rattle.page.proofs.revenue_part.revenue_rows.Goals as goal

pub loop-begun-preserved : goal.loop-begun-preserved
loop-begun-preserved c =
    let events = c.args.events.now in
    let begun = c.loop-begun.begun in
    let count = c.length_of_round.result in
    let within : begun + count ≤ length events = grind (arith, common_steps) in
    let first : rounds_in (drop begun events) ≡ take count (drop begun events)
    ∷ rounds_in (drop count (drop begun events)) = grind (arith, common_steps) in
    let rest : rounds_in (drop begun events) ≡ slice_range events begun (begun + count)
    ∷ rounds_in (drop (begun + count) events) = first_from events begun count within first in
    record {
      within = within;
      rows = rows_step c.loop-begun.rows.items c.add_row.new.rows.items (slice_range events begun (begun + count))
          (rounds_in (drop begun events)) (rounds_in (drop (begun + count) events)) c.in_ok-add_row.ensures rest
          ∙ c.loop-begun.invariant.rows;
    }
