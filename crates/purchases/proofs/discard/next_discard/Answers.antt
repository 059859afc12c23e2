-- There is no line of the president to use, so the company discards of its least kind.
use Rattle.std.proofs.Common.{◌≡◌, ◌∙◌, ap, sym, Option, None}
use Rattle.std.specs.Option.{option_or}
use Rattle.purchases.specs.Discard.{discard_lines_left, first_held, next_discard}
use Rattle.totals.specs.Shares.{president_of}
use Rattle.tables.specs.Train.{kinds}
use Rattle.tables.specs.declared.rolling_stock.Kind.{Kind}
use Rattle.totals.specs.LookBack.{Game}
use Rattle.purchases.proofs.discard.next_discard.Goals as goal

pub returns : goal.returns
returns c =
    let events = c.now-now.result.events in
    let company = c.args.company in
    let lines = c.as_slice.ensures.value ∙ (c.in_ok-lines.ensures ∙ ap (discard_lines_left events company) c.president.ensures) in
    let none : None ≡ first_held events company (discard_lines_left events company (president_of events company)) =
    sym c.in-None.is ∙ (c.first_held.ensures ∙ ap (first_held events company) lines)
    in
    c.first_held-in-None.ensures
    ∙ (ap (λ (first : Option Kind). option_or first (first_held events company kinds)) none
    ∙ ap (λ (game : Game). next_discard game.events company) c.now-now.ensures)
