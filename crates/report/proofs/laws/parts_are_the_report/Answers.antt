use Rattle.report.proofs.StepTexts.{text_is_prefix, text_is_report}
use Rattle.report.proofs.laws.parts_are_the_report.Goals as goal

pub returns : goal.returns
returns c =
    record {
      prefix = text_is_prefix c.one_game.ensures c.rounds_only_add.ensures c.steps_play_the_game.ensures;
      whole = text_is_report c.rounds_only_add.ensures c.steps_play_the_game.ensures;
    }
