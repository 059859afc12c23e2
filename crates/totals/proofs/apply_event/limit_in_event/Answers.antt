use Rattle.std.proofs.Common.{Some, refl, ap, sym, ◌∙◌}
use Rattle.std.specs.Option.{option_map}
use Rattle.events.specs.Orders.{limit_in, limit_obeyed, limit_said}
use Rattle.totals.proofs.Silent.{no_word_said}
use Rattle.totals.proofs.apply_event.limit_in_event.Goals as goal

pub returns-in-None : goal.returns-in-None
returns-in-None c = λ private seat.
    let none = ap (limit_said private) (sym c.in-None.is) ∙ c.limit.ensures private in
    ap (option_map Some)
    (no_word_said (limit_in private) (limit_obeyed private) c.args.event.now c.in-Ruled.seat c.in-Ruled.line seat
    c.in-Ruled.ruling (λ condition order. refl)
    c.in-Ruled.is none)
