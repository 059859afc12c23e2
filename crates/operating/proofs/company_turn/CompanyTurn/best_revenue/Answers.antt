use Rattle.std.proofs.Common.{Ok, Err, sym, ap, ◌∙◌}
use Rattle.std.proofs.lemmas.Result.{err_from_is_err_and}
use Rattle.board_state.specs.MapState.{position_of}
use Rattle.operating.proofs.RunBestCalls.{answered_fault, answered_revenue}
use Rattle.operating.proofs.RunBestLemmas.{answered_greatest, same_sum, small_sum}
use Rattle.operating.specs.RunBest.{trains_now}
use Rattle.totals.specs.LookBack.{Game}
use Rattle.operating.proofs.company_turn.CompanyTurn.best_revenue.Goals as goal

pub amount-requires-clause-most : goal.amount-requires-clause-most
amount-requires-clause-most g c =
    small_sum c.a_greatest_exists.ensures c.one_greatest.ensures _ c.args.self.now.by.company _ c.in_ok-money.money
    c.keeps_laws.ensures c.in_ok-money.ensures.greatest

pub returns-clause-greatest : goal.returns-clause-greatest
returns-clause-greatest g c =
    (answered_greatest c.a_greatest_exists.ensures c.one_greatest.ensures _ _ c.args.self.now.by.company _ _
    c.in_ok-money.money c.amount.result c.in_ok-update_map_state.ensures.map_state
    (c.as_slice.ensures ∙ c.in_ok-trains.ensures ∙ ap (λ (game : Game). trains_now game.events c.args.self.now.by.company)
    c.now.ensures) c.keeps_laws.ensures c.amount.ensures c.in_ok-money.ensures.greatest).0

pub returns-clause-small : goal.returns-clause-small
returns-clause-small g c =
    (answered_greatest c.a_greatest_exists.ensures c.one_greatest.ensures _ _ c.args.self.now.by.company _ _
    c.in_ok-money.money c.amount.result c.in_ok-update_map_state.ensures.map_state
    (c.as_slice.ensures ∙ c.in_ok-trains.ensures ∙ ap (λ (game : Game). trains_now game.events c.args.self.now.by.company)
    c.now.ensures) c.keeps_laws.ensures c.amount.ensures c.in_ok-money.ensures.greatest).1

pub returns-in_err-money-clause-calls : goal.returns-in_err-money-clause-calls
returns-in_err-money-clause-calls g c =
    let fault_is = err_from_is_err_and c.from_residual-in_err-money.result c.from_residual-in_err-money.ensures.1 in
    answered_fault g.R.Runner.earns c.args.self.now.history.events _ c.args.self.now.round c.args.self.now.by.company _
    c.earn.result _ _ c.args.runner.now c.earn.new.self
    (ap position_of c.in_ok-update_map_state.ensures.map_state)
    (c.as_slice.ensures ∙ c.in_ok-trains.ensures ∙ ap (λ (game : Game). trains_now game.events c.args.self.now.by.company)
    c.now.ensures)
    (c.in_err-money.was ∙ ap Err (sym fault_is.2)) fault_is.1 c.earn.ensures.earns

pub returns-clause-calls : goal.returns-clause-calls
returns-clause-calls g c =
    answered_revenue g.R.Runner.earns c.args.self.now.history.events _ c.args.self.now.round c.args.self.now.by.company
    _ c.earn.result _ c.args.runner.now c.earn.new.self
    (ap position_of c.in_ok-update_map_state.ensures.map_state)
    (c.as_slice.ensures ∙ c.in_ok-trains.ensures ∙ ap (λ (game : Game). trains_now game.events c.args.self.now.by.company)
    c.now.ensures)
    (c.in_ok-money.was ∙ ap Ok (same_sum c.a_greatest_exists.ensures c.one_greatest.ensures _
    c.args.self.now.by.company _ c.in_ok-money.money c.amount.result c.keeps_laws.ensures c.amount.ensures
    c.in_ok-money.ensures.greatest)) (returns-clause-greatest g c) c.earn.ensures.earns
