use Rattle.std.proofs.Common.{zero, suc, [], ◌++◌, Ok, refl, sym, subst, arith}
use Rattle.std.proofs.lemmas.Grind.{common_steps}
use Rattle.std.proofs.lemmas.Result.{err_from_is_err_and}
use Rattle.rounds.specs.Steps.{IsUnbroken, PlaysNext, StepLeads, Stays}
use Rattle.rounds.specs.declared.steps.Step.{Step}
use Rattle.umpire.proofs.Judged.{answered_have, broken_judged, made_after}
use Rattle.umpire.proofs.verification.play_checked.Goals as goal

pub loop-texts-init : goal.loop-texts-init
loop-texts-init c =
    record {
      steps = zero;
      calls = [];
      called = (c.requires.started, refl);
      made = c.new-verifier.ensures;
      rounds = zero;
      is_text = (c.requires.started, c.new-texts.ensures.items);
      unbroken = subst IsUnbroken (sym c.requires.started) refl;
    }

pub loop-texts-preserved : goal.loop-texts-preserved
loop-texts-preserved c =
    let at = c.loop-texts.invariant in
    let step : PlaysNext c.loop-texts.play c.in_default.field-0 c.step.new.self =
    subst (λ (step : Step). StepLeads c.loop-texts.play (Ok step) c.step.new.self) c.in_default.is
    c.in_ok-step.ensures.step
    in
    let made = c.in_ok-step.ensures.calls in
    record {
      steps = suc at.steps;
      calls = at.calls ++ made.0;
      called = (c.loop-texts.play, at.calls, at.called, c.in_default.field-0, step, made.0, made.1, refl);
      made = made_after _ _ _ at.calls made.0 at.made made.2;
      rounds = suc at.rounds;
      is_text = (
        c.loop-texts.play,
        c.loop-texts.texts.items,
        at.is_text,
        c.in_default.field-0,
        step,
        grind
            (arith, common_steps),
      );
      unbroken = subst IsUnbroken (sym step.after) refl;
    }

pub returns-in_err-step-clause-judged : goal.returns-in_err-step-clause-judged
returns-in_err-step-clause-judged c =
    let at = c.loop-texts.invariant in
    let file = c.args.play.now.file in
    let fault = c.in_err-step.field-0.0 in
    let fault_is = err_from_is_err_and c.from_residual.result c.from_residual.ensures.1 in
    let made = c.in_err-step.ensures.calls in
    let calls = c.broken_steps_call_a_broken_game.ensures file at.steps c.loop-texts.play c.step.new.self fault
    at.calls made.0 at.called c.in_err-step.ensures.step made.1 in
    rw (fault_is.1, fault_is.2)
    (broken_judged c.calls_are_answered.ensures.games c.some_calls.ensures.accepted
    c.refused_calls_are_a_prefix.ensures file c.requires.accepted
    _ _ fault (at.calls ++ made.0) calls (made_after _ _ _ at.calls made.0 at.made made.2))

pub returns-in-Ended-clause-judged : goal.returns-in-Ended-clause-judged
returns-in-Ended-clause-judged c =
    let at = c.loop-texts.invariant in
    let file = c.args.play.now.file in
    let stays : Stays c.loop-texts.play c.in-Ended.field-0 c.step.new.self =
    subst (λ (step : Step). StepLeads c.loop-texts.play (Ok step) c.step.new.self) c.in-Ended.is
    c.in_ok-step.ensures.step
    in
    let game = c.steps_call_the_game.ensures file at.steps c.loop-texts.play c.step.new.self c.in-Ended.field-0
    at.calls at.called stays in
    answered_have c.calls_are_answered.ensures.games c.some_calls.ensures.accepted c.refused_calls_are_a_prefix.ensures
    file c.requires.accepted
    _ _ game.0 at.calls game.1 at.made

pub returns-in-Ended-clause-texts : goal.returns-in-Ended-clause-texts
returns-in-Ended-clause-texts c =
    let at = c.loop-texts.invariant in
    let stays : Stays c.loop-texts.play c.in-Ended.field-0 c.step.new.self =
    subst (λ (step : Step). StepLeads c.loop-texts.play (Ok step) c.step.new.self) c.in-Ended.is
    c.in_ok-step.ensures.step
    in
    record {
      steps = at.rounds;
      last = c.loop-texts.play;
      is_text = at.is_text;
      end = c.in-Ended.field-0;
      stays = stays;
    }
