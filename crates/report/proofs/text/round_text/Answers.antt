use Rattle.std.proofs.Common.{◌≡◌, ◌∷◌, ◌+◌, ◌≤◌, true, false, length, take, drop, slice_range, arith}
use Rattle.std.proofs.lemmas.Grind.{common_steps}
use Rattle.report.specs.Report.{is_round, rounds_in}
use Rattle.report.proofs.Rounds.{one_from}
use Rattle.report.proofs.text.round_text.Goals as goal

pub returns-then-is_round : goal.returns-then-is_round
returns-then-is_round c =
    let events = c.args.game.now.game.events in
    let begun = c.loop-begun.begun in
    let count = c.length_of_round.result in
    let within : begun + count ≤ length events = grind (arith, common_steps) in
    let first : rounds_in (drop begun events) ≡ take count (drop begun events)
    ∷ rounds_in (drop count (drop begun events)) = grind (arith, common_steps) in
    let text = one_from c.args.game.now.file c.args.game.now.game.seats c.args.round events begun count within first in
    let here : is_round c.args.round (slice_range events begun (begun + count)) ≡ true = grind (arith, common_steps) in
    grind (arith, common_steps, text, here, c.loop-begun.invariant.later, c.loop-begun.invariant.none)

pub loop-begun-preserved : goal.loop-begun-preserved
loop-begun-preserved c =
    let events = c.args.game.now.game.events in
    let begun = c.loop-begun.begun in
    let count = c.length_of_round.result in
    let within : begun + count ≤ length events = grind (arith, common_steps) in
    let first : rounds_in (drop begun events) ≡ take count (drop begun events)
    ∷ rounds_in (drop count (drop begun events)) = grind (arith, common_steps) in
    let text = one_from c.args.game.now.file c.args.game.now.game.seats c.args.round events begun count within first in
    let elsewhere : is_round c.args.round (slice_range events begun (begun + count)) ≡ false =
    grind (arith, common_steps) in
    record {
      within = within;
      none = c.loop-begun.invariant.none;
      later = grind (arith, common_steps, text, elsewhere, c.loop-begun.invariant.later);
    }
