use Rattle.std.proofs.Common.{◌≡◌, ◌∷◌, ◌+◌, ◌≤◌, length, take, drop, arith}
use Rattle.std.proofs.lemmas.Grind.{common_steps}
use Rattle.report.specs.Report.{rounds_in}
use Rattle.report.proofs.Rounds.{texts_from}
use Rattle.report.proofs.text.push_rounds.Goals as goal

pub loop-begun-preserved : goal.loop-begun-preserved
loop-begun-preserved c =
    let events = c.args.game.now.game.events in
    let begun = c.loop-begun.begun in
    let count = c.length_of_round.result in
    let within : begun + count ≤ length events = grind (arith, common_steps) in
    let first : rounds_in (drop begun events) ≡ take count (drop begun events)
    ∷ rounds_in (drop count (drop begun events)) = grind (arith, common_steps) in
    let texts = texts_from c.args.game.now.file c.args.game.now.game.seats events begun count within first in
    record {
      within = within;
      along = grind (arith, common_steps);
      text = grind (arith, common_steps, texts, c.loop-begun.invariant.text);
    }
