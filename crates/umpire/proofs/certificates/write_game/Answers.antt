use Rattle.std.proofs.Common.{◌≡◌, zero, suc, List, [], ◌++◌, Ok, refl, sym, ap, subst, ◌∙◌}
use Rattle.certificate.specs.declared.group.Group.{Group}
use Rattle.order_grammar.proofs.PrefixLemmas.{at_error}
use Rattle.rounds.specs.Steps.{IsUnbroken, PlaysNext, StepLeads, Stays}
use Rattle.rounds.specs.declared.steps.Step.{Step}
use Rattle.umpire.proofs.CertsLemmas.{certified_more, cut_at_start, kept_of, prefix_grows, text_grows}
use Rattle.umpire.proofs.Parts.{whole_prefix}
use Rattle.umpire.proofs.certificates.write_game.Goals as goal

pub loop-keeping-init : goal.loop-keeping-init
loop-keeping-init g c =
    record {
      steps = zero;
      calls = [];
      groups = [];
      called = (c.in_ok-play.ensures, refl);
      certified = tt;
      written = c.in_ok-write_head.ensures.ok;
      unbroken = subst IsUnbroken (sym c.in_ok-play.ensures) refl;
      unfailed = c.in_ok-write_head.ensures.unfailed;
    }

pub loop-keeping-preserved : goal.loop-keeping-preserved
loop-keeping-preserved g c =
    let at = c.loop-keeping.invariant in
    let step : PlaysNext c.loop-keeping.play c.in_default.field-0 c.step.new.play =
    subst (λ (step : Step). StepLeads c.loop-keeping.play (Ok step) c.step.new.play) c.in_default.is
    c.in_ok-step.ensures.step
    in
    let made = c.in_ok-step.ensures.calls in
    let kept = kept_of made.0 c.new-keeping.result c.step.new.keeping
    (c.calls_are_answered.ensures.steps _ _ _ made.0 step made.1) made.2 in
    let groups : c.kept.result.now ≡ kept.groups =
    c.kept.ensures ∙ kept.kept ∙ ap (λ (l : List Group). l ++ kept.groups) c.new-keeping.ensures in
    record {
      steps = suc at.steps;
      calls = at.calls ++ made.0;
      groups = at.groups ++ kept.groups;
      called = (c.loop-keeping.play, at.calls, at.called, c.in_default.field-0, step, made.0, made.1, refl);
      certified = certified_more at.calls made.0 at.groups kept.groups at.certified kept.certified;
      written = text_grows _ _ _ at.groups kept.groups c.kept.result.now groups at.written
          c.in_ok-write_groups.ensures.ok;
      unbroken = subst IsUnbroken (sym step.after) refl;
      unfailed = c.in_ok-write_groups.ensures.unfailed;
    }

pub returns-in-Ended-clause-ok : goal.returns-in-Ended-clause-ok
returns-in-Ended-clause-ok g c =
    let at = c.loop-keeping.invariant in
    let stays : Stays c.loop-keeping.play c.in-Ended.field-0 c.step.new.play =
    subst (λ (step : Step). StepLeads c.loop-keeping.play (Ok step) c.step.new.play) c.in-Ended.is
    c.in_ok-step.ensures.step
    in
    let game = c.steps_call_the_game.ensures c.args.sheets.now at.steps c.loop-keeping.play c.step.new.play
    c.in-Ended.field-0 at.calls at.called stays in
    record {
      file = c.args.sheets.now;
      groups = at.groups;
      whole = refl;
      accepted = c.requires.accepted;
      certify = record { played = game.0; calls = at.calls; made = game.1; certified = at.certified };
      written = at.written;
    }

-- nothing is certified yet
pub returns-in_err-write_head-clause-prefix : goal.returns-in_err-write_head-clause-prefix
returns-in_err-write_head-clause-prefix g c =
    at_error c.from_residual.result
    (cut_at_start c.args.sheets.now _ _ c.requires.accepted c.in_err-write_head.ensures.prefix)

pub returns-in_err-play-clause-prefix : goal.returns-in_err-play-clause-prefix
returns-in_err-play-clause-prefix g c =
    at_error c.from_residual-in_err-play.result
    (cut_at_start c.args.sheets.now _ _ c.requires.accepted (whole_prefix _ _ _ c.in_ok-write_head.ensures.ok))

-- the groups so far are written
pub returns-in_err-step-clause-prefix : goal.returns-in_err-step-clause-prefix
returns-in_err-step-clause-prefix g c =
    let at = c.loop-keeping.invariant in
    at_error c.from_residual-in_err-step.result (record {
      file = c.args.sheets.now;
      whole = refl;
      accepted = c.requires.accepted;
      steps = at.steps;
      play = c.loop-keeping.play;
      calls = at.calls;
      called = at.called;
      groups = at.groups;
      certified = at.certified;
      prefix = whole_prefix _ _ _ at.written;
    })

-- and a prefix of those of the round
pub returns-in_err-write_groups-clause-prefix : goal.returns-in_err-write_groups-clause-prefix
returns-in_err-write_groups-clause-prefix g c =
    let at = c.loop-keeping.invariant in
    let step : PlaysNext c.loop-keeping.play c.in_default.field-0 c.step.new.play =
    subst (λ (step : Step). StepLeads c.loop-keeping.play (Ok step) c.step.new.play) c.in_default.is
    c.in_ok-step.ensures.step
    in
    let made = c.in_ok-step.ensures.calls in
    let kept = kept_of made.0 c.new-keeping.result c.step.new.keeping
    (c.calls_are_answered.ensures.steps _ _ _ made.0 step made.1) made.2 in
    let groups : c.kept.result.now ≡ kept.groups =
    c.kept.ensures ∙ kept.kept ∙ ap (λ (l : List Group). l ++ kept.groups) c.new-keeping.ensures in
    at_error c.from_residual-in_err-write_groups.result (record {
      file = c.args.sheets.now;
      whole = refl;
      accepted = c.requires.accepted;
      steps = suc at.steps;
      play = c.step.new.play;
      calls = at.calls ++ made.0;
      called = (c.loop-keeping.play, at.calls, at.called, c.in_default.field-0, step, made.0, made.1, refl);
      groups = at.groups ++ kept.groups;
      certified = certified_more at.calls made.0 at.groups kept.groups at.certified kept.certified;
      prefix = prefix_grows _ _ _ at.groups kept.groups c.kept.result.now groups at.written
          c.in_err-write_groups.ensures.prefix;
    })
