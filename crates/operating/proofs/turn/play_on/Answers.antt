-- The home token and the orders of a company make its turn.
use Rattle.std.proofs.Common.{◌≡◌, ◌<◌, Some, Result, Ok, Err, sym, ap, subst, ◌∙◌}
use Rattle.std.specs.Prelude.{Box}
use Rattle.std.specs.Global.{Global}
use Rattle.std.proofs.lemmas.Result.{err_from_is_err_and}
use Rattle.board_state.specs.MapState.{MapState}
use Rattle.legal_runs.specs.declared.runner.RunnerFault.{RunnerFault}
use Rattle.totals.specs.LookBack.{Game}
use Rattle.totals.specs.Shares.{president_of}
use Rattle.history.specs.Sound.{IsSound}
use Rattle.forced_purchase.specs.declared.operator.Operator.{Operator}
use Rattle.operating.proofs.CompanyOrders.{orders_small}
use Rattle.operating.proofs.PrefixStays.{home_prefix}
use Rattle.operating.proofs.TurnBegun.{HasBegun, called, played}
use Rattle.operating.proofs.TurnLemmas.{president_there, seats_stay}
use Rattle.operating.specs.Calls.{Makes}
use Rattle.operating.specs.GameAndBoard.{game_on}
use Rattle.operating.specs.MapState.{IsPrefix}
use Rattle.operating.specs.TurnCalls.{TurnCalls}
use Rattle.operating.specs.declared.game_and_board.GameAndBoard.{GameAndBoard}
use Rattle.turns.specs.Small.{AreSmall}
use Rattle.operating.proofs.turn.play_on.Goals as goal

pub play-requires-clause-small : goal.play-requires-clause-small
play-requires-clause-small g c =
    subst AreSmall (sym c.company_orders-orders.ensures) (orders_small c.args.sheets.now c.args.round
    c.in-Some.president.0 c.args.company)

pub play-requires-clause-at_table : goal.play-requires-clause-at_table
play-requires-clause-at_table g c =
    let president : Some c.in-Some.president ≡ president_of c.args.game.history.events c.args.company =
    sym c.in-Some.is ∙ c.president-president.ensures
    ∙ ap (λ (game : Game). president_of game.events c.args.company) c.now.ensures in
    subst (λ (by : Operator). by.president.0 < c.begin-turn.result.history.seats) (sym c.begin-turn.ensures.by)
    (subst (λ (game : Game). c.in-Some.president.0 < game.seats) (sym c.begin-turn.ensures.history)
    (president_there c.args.game.history c.place_home.new.history c.args.company (Some c.in-Some.president)
    c.requires.laid.sound c.requires.floated president c.in_ok-place_home.ensures.seats))

pub play-requires-clause-order : goal.play-requires-clause-order
play-requires-clause-order g c =
    record {
      sound = subst IsSound (sym c.begin-turn.ensures.history) c.in_ok-place_home.ensures.sound;
      prefix = subst (λ (board : Box MapState Global). IsPrefix board.value c.begin-turn.result.history.events)
          (sym c.begin-turn.ensures.board)
          (subst (λ (game : Game). IsPrefix c.args.game.board.value game.events) (sym c.begin-turn.ensures.history)
          (home_prefix c.args.game.board.value c.args.game.history c.place_home.new.history c.args.company
          c.in_ok-place_home.ensures.event c.requires.laid.prefix));
    }

pub returns-clause-turn : goal.returns-clause-turn
returns-clause-turn g c =
    let begun : HasBegun c.args.sheets.now c.args.round c.args.company c.in-Some.president c.place_home.new.history
    c.begin-turn.result c.company_orders-orders.result.before =
    record {
      is_by = c.begin-turn.ensures.by;
      is_round = c.begin-turn.ensures.round;
      is_game = c.begin-turn.ensures.history;
      is_start = c.begin-turn.ensures.progress;
      are_lines = c.company_orders-orders.ensures;
    }
    in
    let president : Some c.in-Some.president ≡ president_of c.args.game.history.events c.args.company =
    sym c.in-Some.is ∙ c.president-president.ensures
    ∙ ap (λ (game : Game). president_of game.events c.args.company) c.now.ensures in
    played c.args.sheets.now c.args.round c.args.company c.in-Some.president c.place_home.new.history
    c.begin-turn.result c.company_orders-orders.result.before begun c.args.game.history c.play.new.self.history
    president c.in_ok-place_home.ensures.event c.in_ok-play.ensures.turn

pub returns-clause-seats : goal.returns-clause-seats
returns-clause-seats g c =
    seats_stay c.args.sheets.now c.args.round c.args.company c.args.game.history c.play.new.self.history
    (returns-clause-turn g c)

pub returns-clause-calls : goal.returns-clause-calls
returns-clause-calls g c =
    let begun : HasBegun c.args.sheets.now c.args.round c.args.company c.in-Some.president c.place_home.new.history
    c.begin-turn.result c.company_orders-orders.result.before =
    record {
      is_by = c.begin-turn.ensures.by;
      is_round = c.begin-turn.ensures.round;
      is_game = c.begin-turn.ensures.history;
      is_start = c.begin-turn.ensures.progress;
      are_lines = c.company_orders-orders.ensures;
    }
    in
    let president : Some c.in-Some.president ≡ president_of c.args.game.history.events c.args.company =
    sym c.in-Some.is ∙ c.president-president.ensures
    ∙ ap (λ (game : Game). president_of game.events c.args.company) c.now.ensures in
    called c.args.sheets.now c.args.round c.args.company c.in-Some.president c.place_home.new.history
    c.begin-turn.result c.company_orders-orders.result.before begun g.R.Runner.earns c.args.game.history
    (Ok c.play.new.self.history) c.args.runner.now c.play.new.runner president c.in_ok-place_home.ensures.event
    c.in_ok-play.ensures.calls

pub returns-in_err-play-clause-calls : goal.returns-in_err-play-clause-calls
returns-in_err-play-clause-calls g c =
    let fault_is = err_from_is_err_and c.from_residual-in_err-play.result c.from_residual-in_err-play.ensures.1 in
    let fault : RunnerFault = c.in_err-play.field-0.0 in
    let is : c.from_residual-in_err-play.result ≡ Err fault = fault_is.1 ∙ ap Err fault_is.2 in
    let begun : HasBegun c.args.sheets.now c.args.round c.args.company c.in-Some.president c.place_home.new.history
    c.begin-turn.result c.company_orders-orders.result.before =
    record {
      is_by = c.begin-turn.ensures.by;
      is_round = c.begin-turn.ensures.round;
      is_game = c.begin-turn.ensures.history;
      is_start = c.begin-turn.ensures.progress;
      are_lines = c.company_orders-orders.ensures;
    }
    in
    let president : Some c.in-Some.president ≡ president_of c.args.game.history.events c.args.company =
    sym c.in-Some.is ∙ c.president-president.ensures
    ∙ ap (λ (game : Game). president_of game.events c.args.company) c.now.ensures in
    subst (λ (met : Result GameAndBoard RunnerFault). Makes g.R.Runner.earns c.args.runner.now
    (TurnCalls c.args.sheets.now c.args.round c.args.company c.args.game.history (game_on met)) c.play.new.runner)
    (sym is)
    (called c.args.sheets.now c.args.round c.args.company c.in-Some.president c.place_home.new.history
    c.begin-turn.result c.company_orders-orders.result.before begun g.R.Runner.earns c.args.game.history (Err fault)
    c.args.runner.now c.play.new.runner president c.in_ok-place_home.ensures.event c.in_err-play.ensures.calls)
