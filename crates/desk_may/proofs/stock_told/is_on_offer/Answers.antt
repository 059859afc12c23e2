-- A company that is started has shares on offer where there are some.
use Rattle.std.proofs.Common.{◌≡◌, ◌∙◌, ap, sym, true, ◌&&◌}
use Rattle.desk_may.specs.StockTold.{has_any}
use Rattle.events.specs.Event.{place_of_source}
use Rattle.totals.specs.Shares.{is_started}
use Rattle.totals.specs.LookBack.{Game}
use Rattle.desk_may.proofs.stock_told.is_on_offer.Goals as goal

pub returns-then-is_started : goal.returns-then-is_started
returns-then-is_started c =
    let events = c.args.history.now.events in
    let is_here : is_started events c.args.company ≡ true =
    sym (c.is_started.ensures ∙ ap (λ (game : Game). is_started game.events c.args.company) c.now.ensures)
    ∙ c.if-is_started.true in
    c.has_any.ensures ∙ ap (has_any events c.args.company) c.of_source.ensures
    ∙ sym (ap (λ started. started && has_any events c.args.company (place_of_source c.args.from)) is_here)
