use Rattle.std.proofs.Common.{refl, subst, ◌∙◌}
use Rattle.foresight.proofs.Ended.{end_seats}
use Rattle.foresight.specs.Ahead.{HasEnded, OrdersState}
use Rattle.operating.proofs.PayLemmas.{withheld_seats}
use Rattle.operating.specs.CompanyTurn.{state}
use Rattle.operating.specs.Pay.{withheld_if_unpaid}
use Rattle.foresight.proofs.orders_ahead.OrdersAhead.finish.Goals as goal

pub invariant_of-result : goal.invariant_of-result
invariant_of-result c =
    let turn = c.self.inside.turn in (
      c.in_ok-game.ensures.laid,
      end_seats turn.by c.self.inside.raises.items (withheld_if_unpaid turn.by.company (state turn)).game
          c.in_ok-game.game.history c.in_ok-game.ensures.turn
          ∙ withheld_seats turn.by.company (state turn) ∙ c.self.invariant.1,
    )

pub returns : goal.returns
returns c =
    let ended : HasEnded (record {
      file = c.self.inside.draft.sheets.now;
      drafter = c.self.inside.draft.drafter;
      round = c.self.inside.round;
      by = c.self.inside.turn.by;
      turn = state c.self.inside.turn;
      raises = c.self.inside.raises.items;
    }) (record {
      file = c.self.inside.draft.sheets.now;
      drafter = c.self.inside.draft.drafter;
      round = c.self.inside.round;
      game = c.in_ok-game.game.history;
    }) =
    record { file = refl; drafter = refl; round = refl; ends = c.in_ok-game.ensures.turn }
    in
    subst (λ (orders : OrdersState). HasEnded orders (record {
      file = c.self.inside.draft.sheets.now;
      drafter = c.self.inside.draft.drafter;
      round = c.self.inside.round;
      game = c.in_ok-game.game.history;
    })) c.self.view_is ended
