use Rattle.std.proofs.Common.{rules}
use Rattle.rounds.proofs.StepByStep.{Fields, comes_next, is_over}
use Rattle.rounds.proofs.steps.Play.step.Goals as goal

pub play_next-requires : goal.play_next-requires
play_next-requires g c =
    let of : Fields = record {
      file = c.self.inside.sheets.now;
      fault = c.self.inside.fault;
      here = record {
        game = c.self.inside.history;
        in_set = c.self.inside.in_set;
        next =
            c.self.inside.upcoming;
      };
      last = c.self.inside.last_round;
      outcome = c.self.inside.outcome;
    } in
    comes_next of c.args.self.now _ c.self.view_is (search rules) (search rules)

pub stop-requires : goal.stop-requires
stop-requires g c =
    let of : Fields = record {
      file = c.self.inside.sheets.now;
      fault = c.self.inside.fault;
      here = record {
        game = c.self.inside.history;
        in_set = c.self.inside.in_set;
        next =
            c.self.inside.upcoming;
      };
      last = c.self.inside.last_round;
      outcome = c.self.inside.outcome;
    } in
    is_over of c.args.self.now c.self.view_is (search rules) (search rules)
