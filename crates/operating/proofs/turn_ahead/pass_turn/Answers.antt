-- The home token and no orders make the turn of a company of which no sheet has any.
use Rattle.std.proofs.Common.{◌≡◌, ◌<◌, [], List, Some, refl, sym, ap, subst, ◌∙◌}
use Rattle.std.specs.Prelude.{Box}
use Rattle.std.specs.Global.{Global}
use Rattle.board_state.specs.MapState.{MapState}
use Rattle.forced_purchase.specs.declared.operator.Operator.{Operator}
use Rattle.history.specs.Sound.{IsSound}
use Rattle.operating.proofs.NoSheet.{no_orders}
use Rattle.operating.proofs.PrefixStays.{home_prefix}
use Rattle.operating.proofs.TurnBegun.{HasBegun, played}
use Rattle.operating.proofs.TurnLemmas.{president_there, seats_stay}
use Rattle.operating.specs.CompanyTurn.{state}
use Rattle.operating.specs.MapState.{IsPrefix}
use Rattle.operating.specs.Pay.{withheld_if_unpaid}
use Rattle.operating.specs.TurnEnd.{EndLeads}
use Rattle.sheets.specs.Part.{Numbered}
use Rattle.totals.specs.LookBack.{Game}
use Rattle.totals.specs.Shares.{president_of}
use Rattle.operating.proofs.turn_ahead.pass_turn.Goals as goal

pub finish-requires-clause-at_table : goal.finish-requires-clause-at_table
finish-requires-clause-at_table c =
    let president : Some c.in-Some.president ≡ president_of c.args.game.history.events c.args.company =
    sym c.in-Some.is ∙ c.president-president.ensures
    ∙ ap (λ (game : Game). president_of game.events c.args.company) c.now.ensures in
    subst (λ (by : Operator). by.president.0 < c.begin-turn.result.history.seats) (sym c.begin-turn.ensures.by)
    (subst (λ (game : Game). c.in-Some.president.0 < game.seats) (sym c.begin-turn.ensures.history)
    (president_there c.args.game.history c.place_home.new.history c.args.company (Some c.in-Some.president)
    c.requires.laid.sound c.requires.floated president c.in_ok-place_home.ensures.seats))

pub finish-requires-clause-order : goal.finish-requires-clause-order
finish-requires-clause-order c =
    record {
      sound = subst IsSound (sym c.begin-turn.ensures.history) c.in_ok-place_home.ensures.sound;
      prefix = subst (λ (board : Box MapState Global). IsPrefix board.value c.begin-turn.result.history.events)
          (sym c.begin-turn.ensures.board)
          (subst (λ (game : Game). IsPrefix c.args.game.board.value game.events) (sym c.begin-turn.ensures.history)
          (home_prefix c.args.game.board.value c.args.game.history c.place_home.new.history c.args.company
          c.in_ok-place_home.ensures.event c.requires.laid.prefix));
    }

pub returns-clause-turn : goal.returns-clause-turn
returns-clause-turn c =
    let turn = c.begin-turn.result in
    let begun : HasBegun [] c.args.round c.args.company c.in-Some.president c.place_home.new.history turn [] =
    record {
      is_by = c.begin-turn.ensures.by;
      is_round = c.begin-turn.ensures.round;
      is_game = c.begin-turn.ensures.history;
      is_start = c.begin-turn.ensures.progress;
      are_lines = sym (no_orders c.args.round c.in-Some.president.0 c.args.company);
    }
    in
    let president : Some c.in-Some.president ≡ president_of c.args.game.history.events c.args.company =
    sym c.in-Some.is ∙ c.president-president.ensures
    ∙ ap (λ (game : Game). president_of game.events c.args.company) c.now.ensures in
    played [] c.args.round c.args.company c.in-Some.president c.place_home.new.history turn [] begun
    c.args.game.history c.in_ok-next.next.history president c.in_ok-place_home.ensures.event (
      state turn,
      refl,
      subst (λ (raises : List Numbered). EndLeads turn.by raises (withheld_if_unpaid turn.by.company (state turn)).game
          c.in_ok-next.next.history) c.new.ensures.items c.in_ok-next.ensures.turn,
    )

pub returns-clause-seats : goal.returns-clause-seats
returns-clause-seats c =
    seats_stay [] c.args.round c.args.company c.args.game.history c.in_ok-next.next.history (returns-clause-turn c)
