use Rattle.std.proofs.Common.{◌++◌, Option, sym, ap, ◌∙◌}
use Rattle.std.proofs.lemmas.List.{append-nil}
use Rattle.std.proofs.lemmas.Option.{slice_get_past}
use Rattle.desk_trials.specs.Refusals.{row_by}
use Rattle.events.specs.declared.event.Event.{Event}
use Rattle.desk_trials.proofs.refusals.push_row.Goals as goal

pub returns-in-None : goal.returns-in-None
returns-in-None c =
    sym (append-nil c.args.rows.now.items)
    ∙ ap (λ (found : Option Event). c.args.rows.now.items ++ row_by c.args.seat c.args.place found)
    (sym (slice_get_past c.args.events.now c.args.place c.in-None.ensures.lookup.3))
