use Rattle.std.proofs.Common.{◌≡◌, Ok, Err, Option, rules, sym, subst}
use Rattle.totals.specs.LookBack.{Game}
use Rattle.operating.specs.Calls.{Makes}
use Rattle.rounds.proofs.Calls.{after_round, round_broken, round_on}
use Rattle.rounds.proofs.StepByStep.{Fields, calls_seen, come_on, comes_nearer, is_in_set}
use Rattle.rounds.proofs.StepByStep.{is_numbered, plays_next}
use Rattle.rounds.proofs.StepByStep.{upcoming}
use Rattle.rounds.specs.GameCalls.{PlayedCalls, RoundCalls}
use Rattle.rounds.specs.Play.{Between, IsPlayed}
use Rattle.rounds.specs.Steps.{there_unless}
use Rattle.rounds.specs.declared.fault.PlayFault.{PlayFault}
use Rattle.rounds.proofs.steps.Play.play_next.Goals as goal

pub coming-self-inside-requires : goal.coming-self-inside-requires
coming-self-inside-requires g c =
    let of : Fields = record {
      file = c.self.inside.sheets.now;
      fault = c.self.inside.fault;
      here = record {
        game = c.self.inside.history;
        in_set = c.self.inside.in_set;
        next =
            c.self.inside.upcoming;
      };
      last = c.self.inside.last_round;
      outcome = c.self.inside.outcome;
    } in
    let at = upcoming of c.args.self.now c.args.round c.self.view_is c.requires c.self.invariant in
    let within_set = is_in_set of c.args.self.now c.args.round at in
    record {
      number = is_numbered of c.args.self.now c.args.round at c.sheets_are_numbered.ensures;
      least = within_set.some;
      most = within_set.few;
      within = within_set.within;
    }

pub invariant_of-self : goal.invariant_of-self
invariant_of-self g c =
    let of : Fields = record {
      file = c.self.inside.sheets.now;
      fault = c.self.inside.fault;
      here = record {
        game = c.self.inside.history;
        in_set = c.self.inside.in_set;
        next =
            c.self.inside.upcoming;
      };
      last = c.self.inside.last_round;
      outcome = c.self.inside.outcome;
    } in
    let at = upcoming of c.args.self.now c.args.round c.self.view_is c.requires c.self.invariant in
    let played : IsPlayed of.file c.args.round of.here.game c.in-Ok.history =
    subst (λ (from : Game). IsPlayed of.file c.args.round from c.in-Ok.history)
    c.replace-history.ensures.value
    c.in-Ok.ensures.round in
    let seats : c.in-Ok.history.seats ≡ of.here.game.seats = search rules in
    λ none.
    come_on of c.args.self.now c.args.round at c.in-Ok.history c.in_set_before-self-inside.result
    c.coming-self-inside.result played c.coming-self-inside.ensures
    c.in_set_before-self-inside.ensures
    c.in-Ok.ensures.sound seats c.in-Ok.ensures.gifts

pub returns-in-Ok-clause-step : goal.returns-in-Ok-clause-step
returns-in-Ok-clause-step g c =
    let of : Fields = record {
      file = c.self.inside.sheets.now;
      fault = c.self.inside.fault;
      here = record {
        game = c.self.inside.history;
        in_set = c.self.inside.in_set;
        next =
            c.self.inside.upcoming;
      };
      last = c.self.inside.last_round;
      outcome = c.self.inside.outcome;
    } in
    let at = upcoming of c.args.self.now c.args.round c.self.view_is c.requires c.self.invariant in
    let played : IsPlayed of.file c.args.round of.here.game c.in-Ok.history =
    subst (λ (from : Game). IsPlayed of.file c.args.round from c.in-Ok.history)
    c.replace-history.ensures.value
    c.in-Ok.ensures.round in
    plays_next of c.args.self.now c.args.round at c.in-Ok.history c.in_set_before-self-inside.result
    c.coming-self-inside.result played c.coming-self-inside.ensures
    c.in_set_before-self-inside.ensures

pub returns-in-Ok-clause-nearer : goal.returns-in-Ok-clause-nearer
returns-in-Ok-clause-nearer g c =
    let of : Fields = record {
      file = c.self.inside.sheets.now;
      fault = c.self.inside.fault;
      here = record {
        game = c.self.inside.history;
        in_set = c.self.inside.in_set;
        next =
            c.self.inside.upcoming;
      };
      last = c.self.inside.last_round;
      outcome = c.self.inside.outcome;
    } in
    let at = upcoming of c.args.self.now c.args.round c.self.view_is c.requires c.self.invariant in
    let played : IsPlayed of.file c.args.round of.here.game c.in-Ok.history =
    subst (λ (from : Game). IsPlayed of.file c.args.round from c.in-Ok.history)
    c.replace-history.ensures.value
    c.in-Ok.ensures.round in
    comes_nearer of c.args.self.now c.args.round at c.in-Ok.history
    c.in_set_before-self-inside.result
    c.coming-self-inside.result played c.coming-self-inside.ensures
    c.in_set_before-self-inside.ensures
    c.sheets_are_numbered.ensures

pub returns-in-Ok-clause-calls : goal.returns-in-Ok-clause-calls
returns-in-Ok-clause-calls g c =
    let of : Fields = record {
      file = c.self.inside.sheets.now;
      fault = c.self.inside.fault;
      here = record {
        game = c.self.inside.history;
        in_set = c.self.inside.in_set;
        next =
            c.self.inside.upcoming;
      };
      last = c.self.inside.last_round;
      outcome = c.self.inside.outcome;
    } in
    let at = upcoming of c.args.self.now c.args.round c.self.view_is c.requires c.self.invariant in
    let there : Between = record {
      game = c.in-Ok.history;
      in_set = c.in_set_before-self-inside.result;
      next = c.coming-self-inside.result;
    } in
    let after = after_round c.args.round of.here.in_set there.in_set there.next there.game
    c.coming-self-inside.ensures
    c.in_set_before-self-inside.ensures in
    let played : Makes g.R.Runner.earns c.args.runner.now
    (PlayedCalls of.file c.args.round of.here.game (Ok there.game)) c.play_round.new.runner =
    subst (λ (game : Game). Makes g.R.Runner.earns c.args.runner.now
    (PlayedCalls of.file c.args.round game (Ok there.game)) c.play_round.new.runner)
    c.replace-history.ensures.value
    c.in-Ok.ensures.calls in
    let course = round_on g.R.Runner.earns of.file c.args.round of.here there _ _ at.to_play after
    played in
    calls_seen of c.args.self.now c.args.round at g.R.Runner.earns (there_unless of.fault there) _ _
    (subst (λ (f : Option PlayFault). Makes g.R.Runner.earns c.args.runner.now
    (RoundCalls of.file of.here (there_unless f there)) c.play_round.new.runner) (sym at.none)
    course)

pub returns-in-Err-clause-calls : goal.returns-in-Err-clause-calls
returns-in-Err-clause-calls g c =
    let of : Fields = record {
      file = c.self.inside.sheets.now;
      fault = c.self.inside.fault;
      here = record {
        game = c.self.inside.history;
        in_set = c.self.inside.in_set;
        next =
            c.self.inside.upcoming;
      };
      last = c.self.inside.last_round;
      outcome = c.self.inside.outcome;
    } in
    let at = upcoming of c.args.self.now c.args.round c.self.view_is c.requires c.self.invariant in
    let played : Makes g.R.Runner.earns c.args.runner.now
    (PlayedCalls of.file c.args.round of.here.game (Err c.in-Err.fault)) c.play_round.new.runner =
    subst (λ (game : Game). Makes g.R.Runner.earns c.args.runner.now
    (PlayedCalls of.file c.args.round game (Err c.in-Err.fault)) c.play_round.new.runner)
    c.replace-history.ensures.value c.in-Err.ensures.calls in
    let course = round_broken g.R.Runner.earns of.file c.args.round of.here c.in-Err.fault _ _
    at.to_play played in
    calls_seen of c.args.self.now c.args.round at g.R.Runner.earns (Err c.in-Err.fault) _ _ course
