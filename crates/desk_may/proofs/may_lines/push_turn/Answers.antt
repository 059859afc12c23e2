use Rattle.std.proofs.Common.{[], inr, refl, sym, ◌∙◌}
use Rattle.std.proofs.lemmas.List.{append-nil}
use Rattle.std.proofs.lemmas.Result.{IfOk-weaker}
use Rattle.desk_may.proofs.may_lines.push_turn.Goals as goal

pub returns-then-not-is_led_by : goal.returns-then-not-is_led_by
returns-then-not-is_led_by c =
    IfOk-weaker c.take_turn.result _ _
    (λ new turn. record {
      lines = [];
      written = inr (sym c.is_led_by.ensures ∙ c.if-not-is_led_by.true, turn, refl);
      added = sym (append-nil c.args.out.now.items);
    })
    c.take_turn.ensures
