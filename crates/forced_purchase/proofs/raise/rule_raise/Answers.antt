-- A RAISE that breaks no rule sells what it says.
use Rattle.std.proofs.Common.{◌≡◌, ◌<◌, true, false, Option, Some, is_none, refl, ap, sym, subst, ◌∙◌}
use Rattle.certs.proofs.SaleAllowed.{may_sell_after}
use Rattle.events.specs.declared.event.Event.TheVariants as event
use Rattle.totals.specs.LookBack.{Game}
use Rattle.order_grammar.specs.declared.condition.Condition.{Condition}
use Rattle.order_grammar.specs.declared.order.Order.TheVariants.{Play}
use Rattle.order_grammar.specs.declared.play.PlayOrder.TheVariants.{Raise}
use Rattle.forced_purchase.proofs.Steps.{raise_obeyed, raise_refused, raised}
use Rattle.purchases.proofs.Recorded.{recorded_obeyed}
use Rattle.forced_purchase.specs.Raise.{after_raise_line, raise_judgement}
use Rattle.sheets.specs.Part.{Numbered, line_with}
use Rattle.forced_purchase.proofs.raise.rule_raise.Goals as goal
use Rattle.tables.proofs.Tests.{none_by_is_none}

pub sell_block-requires-clause-at_table : goal.sell_block-requires-clause-at_table
sell_block-requires-clause-at_table c = subst (λ (game : Game). c.args.by.president.0 < game.seats)
    (sym c.in_ok-record_packed.ensures.ruling) c.requires.at_table

pub sell_block-requires-clause-may : goal.sell_block-requires-clause-may
sell_block-requires-clause-may c =
    let its = c.held.inside in
    let none : is_none c.judge_raise-broken.result ≡ true = sym c.in_ok-record_packed.ensures.obeyed ∙ c.if-branch.true in
    may_sell_after c.args.history.now c.record_packed.new.history
    (event.Ruled c.args.by.president its.line.number _) c.args.by.president its.sale (Some c.args.by.company)
    c.in_ok-record_packed.ensures.ruling
    (record {
      payment = refl;
      ownership = refl;
      bidding = refl;
      transfer = refl;
      par = refl;
      square = refl;
      office =
          refl;
      float = refl;
      sv_price = refl;
      train = refl;
      tile = refl;
      token = refl;
    })
    (raise_obeyed c.args.due c.args.by c.args.history.now its.line.condition its.sale
    (ap (λ (under : Option Condition). raise_judgement c.args.due c.args.by c.args.history.now under its.sale)
    (sym c.as_ref.ensures.value) ∙ sym c.judge_raise-broken.ensures ∙ none_by_is_none c.judge_raise-broken.result none))

pub returns-in_ok-sell_block-clause-seats : goal.returns-in_ok-sell_block-clause-seats
returns-in_ok-sell_block-clause-seats c = ap (λ (game : Game). game.seats) c.in_ok-sell_block.ensures.after
    ∙ ap (λ (game : Game). game.seats) c.in_ok-record_packed.ensures.ruling

pub returns-in_ok-sell_block-clause-after : goal.returns-in_ok-sell_block-clause-after
returns-in_ok-sell_block-clause-after c =
    let its = c.held.inside in
    let line = line_with its.line (Play (Raise its.sale.company its.sale.shares)) in
    let none : is_none c.judge_raise-broken.result ≡ true = sym c.in_ok-record_packed.ensures.obeyed ∙ c.if-branch.true in
    subst (λ (held : Numbered). c.sell_block.new.history
    ≡ after_raise_line c.args.due c.args.by c.args.history.now held held.reading) c.held.view_is
    (raised c.args.due c.args.by c.args.history.now c.record_packed.new.history c.sell_block.new.history line its.sale
    (ap (λ (under : Option Condition). raise_judgement c.args.due c.args.by c.args.history.now under its.sale)
    (sym c.as_ref.ensures.value) ∙ sym c.judge_raise-broken.ensures ∙ none_by_is_none c.judge_raise-broken.result none)
    (recorded_obeyed c.args.history.now c.record_packed.new.history c.args.by.president line
    (Play (Raise its.sale.company its.sale.shares)) c.judge_raise-broken.result
    (rw c.held.invariant at c.in_ok-record_packed.ensures.ruling) none)
    c.in_ok-sell_block.ensures.after)

pub returns-else-branch-clause-after : goal.returns-else-branch-clause-after
returns-else-branch-clause-after c =
    let its = c.held.inside in
    let line = line_with its.line (Play (Raise its.sale.company its.sale.shares)) in
    let some : is_none c.judge_raise-broken.result ≡ false = sym c.in_ok-record_packed.ensures.obeyed ∙ c.if-branch.false in
    subst (λ (held : Numbered). c.record_packed.new.history
    ≡ after_raise_line c.args.due c.args.by c.args.history.now held held.reading) c.held.view_is
    (raise_refused c.args.due c.args.by c.args.history.now c.record_packed.new.history line its.sale
    c.judge_raise-broken.result
    (ap (λ (under : Option Condition). raise_judgement c.args.due c.args.by c.args.history.now under its.sale)
    (sym c.as_ref.ensures.value) ∙ sym c.judge_raise-broken.ensures) some
    (rw c.held.invariant at c.in_ok-record_packed.ensures.ruling))
