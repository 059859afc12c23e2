use Rattle.std.proofs.Common.{◌≡◌, [], ◌∷◌, ◌++◌, Result, Ok, Err, refl, is_some, sym, ap}
use Rattle.std.proofs.Common.{subst, ◌∙◌}
use Rattle.std.proofs.lemmas.Result.{err_from_is_err_and}
use Rattle.std.proofs.lemmas.Bool.{and_parts}
use Rattle.totals.specs.LookBack.{Game}
use Rattle.totals.specs.Shares.{is_floated, square_of}
use Rattle.operating.proofs.Calls.{no_more, none_after, once_more, silent}
use Rattle.operating.specs.Calls.{Makes, Unasked}
use Rattle.rounds.proofs.Calls.{next_turn}
use Rattle.operating.proofs.Idle.{next_is_idle}
use Rattle.rounds.proofs.CompanyTurns.{one_more_turn, turn_leaves_fewer}
use Rattle.rounds.specs.GameCalls.{AreOver, NextCalls, TurnsCall}
use Rattle.rounds.specs.OperatingRound.{TakesTurn}
use Rattle.rounds.specs.declared.fault.PlayFault.{PlayFault}
use Rattle.rounds.specs.declared.fault.PlayFault.TheVariants.{Memory}
use Rattle.rounds.proofs.operating_round.take_turns.Goals as goal

-- the next company has floated
pub take_turn-requires-clause-floated : goal.take_turn-requires-clause-floated
take_turn-requires-clause-floated g c =
    let events = c.loop-company.game.history.events in
    (and_parts (is_floated events c.in-Some.company) (is_some (square_of events c.in-Some.company))
    (next_is_idle c.floated_companies_in_order.ensures events c.in-Some.company
    (sym c.next_company.ensures ∙ c.in-Some.is)).0).0

-- no board, no turn: no call was made
pub returns-in_err-game-clause-calls : goal.returns-in_err-game-clause-calls
returns-in_err-game-clause-calls g c =
    let fault_is = err_from_is_err_and c.from_residual.result c.from_residual.ensures.1 in
    let is : c.from_residual.result ≡ Err Memory = fault_is.1 ∙ ap Err fault_is.2 in
    subst (λ (met : Result Game PlayFault). Makes g.R.Runner.earns c.args.runner.now
    (TurnsCall c.args.sheets.now c.args.round c.args.history met) c.args.runner.now) (sym is)
    (no_more g.R.Runner.earns (NextCalls c.args.sheets.now c.args.round) (Unasked Memory AreOver) c.args.history
    (Err Memory) _ _ ([], (refl, refl), refl))

pub loop-company-init : goal.loop-company-init
loop-company-init g c =
    let same = c.in_ok-game.ensures.history in
    record {
      companies = [];
      turns = sym same;
      calls = λ outcome after made.
          subst (λ (game : Game). Makes g.R.Runner.earns c.args.runner.now
          (TurnsCall c.args.sheets.now c.args.round game outcome) after) same made;
      seats = ap (λ (game : Game). game.seats) same;
      laid = c.in_ok-game.ensures.laid;
    }

pub loop-company-preserved : goal.loop-company-preserved
loop-company-preserved g c =
    let taken : TakesTurn c.args.sheets.now c.args.round c.in-Some.company c.loop-company.game.history
    c.in_ok-game-2.game.history =
    record { is_next = sym c.next_company.ensures ∙ c.in-Some.is; turn = c.in_ok-game-2.ensures.turn }
    in
    record {
      companies = c.loop-company.invariant.companies ++ c.in-Some.company ∷ [];
      turns = one_more_turn c.args.sheets.now c.args.round c.loop-company.invariant.companies c.in-Some.company
          c.args.history c.loop-company.game.history c.in_ok-game-2.game.history c.loop-company.invariant.turns
          taken;
      calls =
          λ outcome after made.
          c.loop-company.invariant.calls outcome after
          (once_more g.R.Runner.earns (NextCalls c.args.sheets.now c.args.round) (Unasked Memory AreOver)
          c.loop-company.game.history c.in_ok-game-2.game.history outcome _ _ after
          (next_turn g.R.Runner.earns c.args.sheets.now c.args.round c.in-Some.company c.loop-company.game.history
          (Ok c.in_ok-game-2.game.history) _ _ (sym c.next_company.ensures ∙ c.in-Some.is)
          c.in_ok-game-2.ensures.calls) made);
      seats = c.in_ok-game-2.ensures.seats ∙ c.loop-company.invariant.seats;
      laid = c.in_ok-game-2.ensures.laid;
    }

pub loop-company-smaller : goal.loop-company-smaller
loop-company-smaller g c =
    turn_leaves_fewer c.company_operates.ensures c.floated_companies_in_order.ensures c.args.sheets.now c.args.round
    c.in-Some.company c.loop-company.game.history c.in_ok-game-2.game.history
    (record { is_next = sym c.next_company.ensures ∙ c.in-Some.is; turn = c.in_ok-game-2.ensures.turn })

pub returns-clause-turns : goal.returns-clause-turns
returns-clause-turns g c =
    record {
      companies = c.loop-company.invariant.companies;
      turns = c.loop-company.invariant.turns;
      over_then = sym c.next_company.ensures ∙ c.in_default.is;
    }

pub returns-in_err-game-2-clause-calls : goal.returns-in_err-game-2-clause-calls
returns-in_err-game-2-clause-calls g c =
    let fault_is = err_from_is_err_and c.from_residual-in_err-game-2.result c.from_residual-in_err-game-2.ensures.1 in
    let is : c.from_residual-in_err-game-2.result ≡ Err c.in_err-game-2.field-0.0 = fault_is.1 ∙ ap Err fault_is.2 in
    subst (λ (met : Result Game PlayFault). Makes g.R.Runner.earns c.args.runner.now
    (TurnsCall c.args.sheets.now c.args.round c.args.history met) c.take_turn.new.runner) (sym is)
    (c.loop-company.invariant.calls (Err c.in_err-game-2.field-0.0) _
    (none_after g.R.Runner.earns (NextCalls c.args.sheets.now c.args.round) (Unasked Memory AreOver)
    c.loop-company.game.history c.in_err-game-2.field-0.0 _ _
    (next_turn g.R.Runner.earns c.args.sheets.now c.args.round c.in-Some.company c.loop-company.game.history
    (Err c.in_err-game-2.field-0.0) _ _ (sym c.next_company.ensures ∙ c.in-Some.is)
    c.in_err-game-2.ensures.calls)))

pub returns-clause-calls : goal.returns-clause-calls
returns-clause-calls g c =
    c.loop-company.invariant.calls (Ok c.loop-company.game.history) _
    (no_more g.R.Runner.earns (NextCalls c.args.sheets.now c.args.round) (Unasked Memory AreOver)
    c.loop-company.game.history (Ok c.loop-company.game.history) _ _
    (silent g.R.Runner.earns Memory AreOver c.loop-company.game.history c.loop-company.game.history _ _
    (record { none = sym c.next_company.ensures ∙ c.in_default.is; stays = refl }) refl))
