use Rattle.std.proofs.Common.{◌≡◌, ◌++◌, ap, ◌∙◌, arith}
use Rattle.std.specs.List.{flat_map, range_with_len}
use Rattle.report.specs.EndWorth.{worth_line, worth_lines}
use Rattle.report.proofs.end_worth.push_worths.Goals as goal
use Rattle.tables.proofs.OneMore.{seats_step}

pub loop-seat-preserved : goal.loop-seat-preserved
loop-seat-preserved c =
    seats_step (λ seat. worth_line c.args.sheets.now c.args.view.now
    (record { 0 = seat })) c.loop-seat.seat _ _ _
    c.loop-seat.invariant c.in_ok-push_worth.ensures

pub returns : goal.returns
unfolding worth_lines
returns c =
    let view = c.args.view.now in
    let all : c.loop-seat.seat ≡ view.seats = omega arith in
    c.loop-seat.invariant
    ∙ ap (λ n. c.args.out.now.items ++ flat_map (λ seat. worth_line c.args.sheets.now view
    (record { 0 = seat })) (range_with_len 0 n)) all
