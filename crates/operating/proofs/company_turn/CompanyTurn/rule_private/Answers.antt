use Rattle.std.proofs.Common.{◌≡◌, true, is_none, refl, sym, ◌∙◌}
use Rattle.purchases.proofs.PrivateLemmas.{same_after_line}
use Rattle.operating.proofs.PrivateLemmas.{sold_steps}
use Rattle.purchases.proofs.Recorded.{kept_all, recorded_obeyed}
use Rattle.operating.specs.TurnState.{turn_state}
use Rattle.order_grammar.specs.declared.order.Order.TheVariants.{Play}
use Rattle.order_grammar.specs.declared.play.PlayOrder.TheVariants.{BuyOwnedPrivate}
use Rattle.sheets.specs.Part.{line_with}
use Rattle.operating.proofs.company_turn.CompanyTurn.rule_private.Goals as goal

pub buy_private-requires-clause-may : goal.buy_private-requires-clause-may
buy_private-requires-clause-may c =
    let none : is_none c.map-broken.result ≡ true = sym c.in_ok-record.ensures.obeyed ∙ c.if-branch.true in
    same_after_line c.args.self.now.history c.record.new.history c.args.self.now.by.president
    (line_with c.args.line (Play (BuyOwnedPrivate c.args.private c.args.price))) c.args.self.now.by.company
    c.args.private c.args.price
    (recorded_obeyed c.args.self.now.history c.record.new.history c.args.self.now.by.president
    (line_with c.args.line (Play (BuyOwnedPrivate c.args.private c.args.price)))
    (Play (BuyOwnedPrivate c.args.private c.args.price)) c.map-broken.result (rw c.requires.is at c.in_ok-record.ensures.ruling) none)
    ∙ sym c.judge_private-rule.ensures
    ∙ kept_all c.judge_private-rule.result c.map-broken.result none c.map-broken.ensures.variant

pub returns-in_ok-buy_private-clause-turn : goal.returns-in_ok-buy_private-clause-turn
returns-in_ok-buy_private-clause-turn c =
    let none : is_none c.map-broken.result ≡ true = sym c.in_ok-record.ensures.obeyed ∙ c.if-branch.true in
    sold_steps c.args.self.now.by (turn_state c.args.self.now.history c.args.self.now.progress)
    (line_with c.args.line (Play (BuyOwnedPrivate c.args.private c.args.price))) c.args.private c.args.price
    (Play (BuyOwnedPrivate c.args.private c.args.price)) c.record.new.history c.buy_private.new.history refl
    (sym c.judge_private-rule.ensures ∙ kept_all c.judge_private-rule.result c.map-broken.result none
    c.map-broken.ensures.variant)
    (recorded_obeyed c.args.self.now.history c.record.new.history c.args.self.now.by.president
    (line_with c.args.line (Play (BuyOwnedPrivate c.args.private c.args.price)))
    (Play (BuyOwnedPrivate c.args.private c.args.price)) c.map-broken.result (rw c.requires.is at c.in_ok-record.ensures.ruling) none)
    c.in_ok-buy_private.ensures.after
