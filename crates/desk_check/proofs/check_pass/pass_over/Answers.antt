use Rattle.std.proofs.Common.{◌∙◌}
use Rattle.desk_check.specs.PlainLines.{heads_left}
use Rattle.desk_trials.specs.Heads.{came}
use Rattle.desk_trials.proofs.HeadLemmas.{heads_step}
use Rattle.sheets.specs.File.{players_of}
use Rattle.desk_check.proofs.check_pass.pass_over.Goals as goal

pub loop-line-preserved : goal.loop-line-preserved
loop-line-preserved c =
    let players = players_of c.args.sheets.now in
    record {
      kept = c.in_ok-take.ensures.kept;
      seats = c.in_ok-take.ensures.seats ∙ c.loop-line.invariant.seats;
      heads = heads_step (came c.loop-line.pass.heads) (came c.take.new.self.heads) _
          (heads_left players c.loop-line.lines) (heads_left players c.next_line.new.lines) _
          c.loop-line.invariant.heads (c.in-Some.ensures.heads players) c.in_ok-take.ensures.heads;
    }
