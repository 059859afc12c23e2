use Rattle.std.proofs.Common.{◌≡◌, [], Result, Err, inl, refl, sym, ap, subst, ◌∙◌}
use Rattle.std.proofs.lemmas.Result.{err_from_is_err_and}
use Rattle.totals.specs.LookBack.{Game}
use Rattle.operating.proofs.Calls.{broken_off}
use Rattle.operating.specs.Calls.{Makes, Unasked}
use Rattle.rounds.proofs.Calls.{turns_followed, turns_of_round}
use Rattle.rounds.proofs.CompanyTurns.{whole_round}
use Rattle.rounds.specs.GameCalls.{IsFinished, OperatingCalls, TurnsCall}
use Rattle.rounds.specs.declared.fault.PlayFault.{PlayFault}
use Rattle.rounds.specs.declared.fault.PlayFault.TheVariants.{Memory}
use Rattle.rounds.proofs.operating_round.play_operating.Goals as goal

pub returns-clause-round : goal.returns-clause-round
returns-clause-round g c =
    let is = c.in_ok-open.ensures.opened in
    whole_round c.args.sheets.now c.args.round c.args.history c.open.new.history c.in_ok-history.history
    c.record_all_left.new.history c.requires.seats is c.in_ok-history.ensures.turns c.in_ok-history.ensures.seats
    c.in_ok-record_all_left.ensures.after

pub returns-in_err-open-clause-calls : goal.returns-in_err-open-clause-calls
returns-in_err-open-clause-calls g c =
    let fault_is = err_from_is_err_and c.from_residual.result
    c.from_residual.ensures.1 in
    let is_fault : c.from_residual.result ≡ Err Memory = fault_is.1 ∙ ap Err fault_is.2 in
    subst (λ (met : Result Game PlayFault). Makes g.R.Runner.earns c.args.runner.now
    (OperatingCalls c.args.sheets.now c.args.round c.args.history met) c.args.runner.now) (sym is_fault)
    ([], inl (refl, refl), refl)

pub returns-in_err-record_all_left-clause-calls : goal.returns-in_err-record_all_left-clause-calls
returns-in_err-record_all_left-clause-calls g c =
    let fault_is = err_from_is_err_and c.from_residual-in_err-record_all_left.result
    c.from_residual-in_err-record_all_left.ensures.1 in
    let is_fault : c.from_residual-in_err-record_all_left.result ≡ Err Memory = fault_is.1 ∙ ap Err fault_is.2 in
    let is = c.in_ok-open.ensures.opened in
    subst (λ (met : Result Game PlayFault). Makes g.R.Runner.earns c.args.runner.now
    (OperatingCalls c.args.sheets.now c.args.round c.args.history met) c.take_turns.new.runner) (sym is_fault)
    (turns_of_round g.R.Runner.earns c.args.sheets.now c.args.round c.args.history c.open.new.history
    (Err Memory) _ _ is
    (turns_followed g.R.Runner.earns c.args.sheets.now c.args.round c.open.new.history c.in_ok-history.history
    (Err Memory) _ _ c.in_ok-history.ensures.calls (refl, refl)))

pub returns-in_err-history-clause-calls : goal.returns-in_err-history-clause-calls
returns-in_err-history-clause-calls g c =
    let fault_is = err_from_is_err_and c.from_residual-in_err-history.result c.from_residual-in_err-history.ensures.1 in
    let is_fault : c.from_residual-in_err-history.result ≡ Err c.in_err-history.field-0.0 = fault_is.1
    ∙ ap Err fault_is.2 in
    let is = c.in_ok-open.ensures.opened in
    subst (λ (met : Result Game PlayFault). Makes g.R.Runner.earns c.args.runner.now
    (OperatingCalls c.args.sheets.now c.args.round c.args.history met) c.take_turns.new.runner) (sym is_fault)
    (turns_of_round g.R.Runner.earns c.args.sheets.now c.args.round c.args.history c.open.new.history
    (Err c.in_err-history.field-0.0) _ _ is
    (broken_off g.R.Runner.earns (TurnsCall c.args.sheets.now c.args.round)
    (Unasked Memory (IsFinished c.args.sheets.now c.args.round)) c.open.new.history
    c.in_err-history.field-0.0 _ _ c.in_err-history.ensures.calls))
