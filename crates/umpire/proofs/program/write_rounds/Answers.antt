use Rattle.std.proofs.Common.{Ok, refl, sym, subst}
use Rattle.order_grammar.proofs.PrefixLemmas.{at_error}
use Rattle.rounds.specs.Steps.{IsUnbroken, PlaysNext, StepLeads}
use Rattle.rounds.specs.declared.steps.Step.{Step}
use Rattle.umpire.proofs.Parts.{more_prefix, writes_more, writes_none, written_prefix}
use Rattle.umpire.proofs.program.write_rounds.Goals as goal

pub loop-play-init : goal.loop-play-init
loop-play-init g c =
    record {
      rounds = writes_none c.args.play.now.file c.args.play.now _ c.requires.started;
      unbroken = subst IsUnbroken (sym c.requires.started) refl;
      unfailed = c.requires.unfailed;
    }

pub loop-play-preserved : goal.loop-play-preserved
loop-play-preserved g c =
    let step : PlaysNext c.loop-play.play c.in-Played.field-0 c.step.new.play =
    subst (λ (step : Step). StepLeads c.loop-play.play (Ok step) c.step.new.play) c.in-Played.is
    c.in_ok-step.ensures.step
    in
    let bytes = rw c.as_slice.ensures.value at c.in_ok-write_text.ensures.ok in
    let written = rw c.in_ok-text.ensures at bytes in
    record {
      rounds = writes_more _ _ _ _ _ _ _ c.loop-play.invariant.rounds step written;
      unbroken = subst IsUnbroken (sym step.after) refl;
      unfailed = c.in_ok-write_text.ensures.unfailed;
    }

pub returns-in_err-step-clause-prefix : goal.returns-in_err-step-clause-prefix
returns-in_err-step-clause-prefix g c = at_error c.from_residual.result (written_prefix _ _ _ _
    c.loop-play.invariant.rounds)

pub returns-in_err-text-clause-prefix : goal.returns-in_err-text-clause-prefix
returns-in_err-text-clause-prefix g c = at_error c.from_residual-in_err-text.result
    (written_prefix _ _ _ _ c.loop-play.invariant.rounds)

pub returns-in_err-write_text-clause-prefix : goal.returns-in_err-write_text-clause-prefix
returns-in_err-write_text-clause-prefix g c =
    let step : PlaysNext c.loop-play.play c.in-Played.field-0 c.step.new.play =
    subst (λ (step : Step). StepLeads c.loop-play.play (Ok step) c.step.new.play) c.in-Played.is
    c.in_ok-step.ensures.step
    in
    let bytes = rw c.as_slice.ensures.value at c.in_err-write_text.ensures.prefix in
    let prefix = rw c.in_ok-text.ensures at bytes in
    at_error c.from_residual-in_err-write_text.result (more_prefix _ _ _ _ _ _ _ c.loop-play.invariant.rounds step prefix)
