use Rattle.std.proofs.Common.{◌≡◌, ◌<◌, Some, true, refl, sym, ap, subst, ◌∙◌}
use Rattle.market.specs.OperatingOrder.{next_company}
use Rattle.purchases.specs.Discard.{is_president}
use Rattle.foresight.proofs.TurnsAhead.{behind, next_has_floated, raised, seat_leads}
use Rattle.foresight.specs.Ahead.{AheadState, IsBehindDraft, OrdersState}
use Rattle.forced_purchase.specs.declared.operator.Operator.{Operator}
use Rattle.operating.proofs.TurnLemmas.{president_there}
use Rattle.operating.specs.CompanyTurn.{state}
use Rattle.totals.specs.LookBack.{Game}
use Rattle.totals.specs.Shares.{president_of}
use Rattle.foresight.proofs.round_ahead.RoundAhead.turn_of.Goals as goal

pub invariant_of-result : goal.invariant_of-result
invariant_of-result c =
    let game : Game = c.self.inside.game.history in
    let same : c.args.self.game ≡ game = ap (λ (ahead : AheadState). ahead.game) (sym c.self.view_is) in
    let seats : c.rule_orders.new.turn.history.seats ≡ game.seats =
    c.in_ok-raises.ensures.seats ∙ c.in_ok-turn.ensures.seats in
    let is_next : next_company game.events ≡ Some c.args.by.company =
    subst (λ (its : Game). next_company its.events ≡ Some c.args.by.company) same c.requires.next in
    let led : is_president (president_of game.events c.args.by.company) c.args.by.president ≡ true =
    subst (λ (its : Game). is_president (president_of its.events c.args.by.company) c.args.by.president ≡ true) same
    c.requires.led in (
      c.in_ok-raises.ensures.order,
      seats ∙ c.self.invariant.1,
      subst (λ (by : Operator). by.president.0 < c.rule_orders.new.turn.history.seats)
          (sym (c.in_ok-raises.ensures.by ∙ c.in_ok-turn.ensures.by))
          (seat_leads (president_of game.events c.args.by.company) c.args.by.president
          c.rule_orders.new.turn.history.seats led
          (president_there game c.rule_orders.new.turn.history c.args.by.company
          (president_of game.events c.args.by.company) c.self.invariant.0.sound
          (next_has_floated c.floated_companies_in_order.ensures game.events c.args.by.company is_next) refl seats)),
    )

pub returns : goal.returns
returns c =
    let ahead : AheadState = record {
      file = c.self.inside.draft.sheets.now;
      drafter = c.self.inside.draft.drafter;
      round = c.self.inside.round;
      game = c.self.inside.game.history;
    } in
    let orders : OrdersState = record {
      file = c.self.inside.draft.sheets.now;
      drafter = c.self.inside.draft.drafter;
      round = c.self.inside.round;
      by = c.rule_orders.new.turn.by;
      turn = state c.rule_orders.new.turn;
      raises = c.in_ok-raises.raises.items;
    } in
    let there : IsBehindDraft ahead c.args.by orders =
    record {
      file = refl;
      drafter = refl;
      round = refl;
      its = c.in_ok-raises.ensures.by ∙ c.in_ok-turn.ensures.by;
      turn = behind ahead c.args.by c.in_ok-turn.turn.by c.in_ok-turn.turn.round (state c.in_ok-turn.turn)
          (state c.rule_orders.new.turn) c.in_ok-turn.ensures.by c.in_ok-turn.ensures.round c.in_ok-turn.ensures.turn
          c.in_ok-raises.ensures.turn;
      raises = raised ahead c.args.by c.in_ok-turn.turn.by c.in_ok-turn.turn.round c.in_ok-raises.raises.items
          c.in_ok-turn.ensures.by c.in_ok-turn.ensures.round c.in_ok-raises.ensures.raises;
    }
    in
    subst (λ (its : AheadState). IsBehindDraft its c.args.by orders) c.self.view_is there
