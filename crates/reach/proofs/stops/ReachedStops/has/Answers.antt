-- The marks are those of the stops.
use Rattle.std.proofs.Common.{◌≡◌, Bool, false, List, get_or, ap, sym, ◌∙◌}
use Rattle.reach.specs.Reached.{stop_order}
use Rattle.reach.specs.Stops.{marks_of}
use Rattle.reach.proofs.StopLists.{among_mark, mark_among}
use Rattle.reach.proofs.stops.ReachedStops.has.Goals as goal

pub returns : goal.returns
returns c =
    let stop = c.args.stop in
    let mark : c.has.result ≡ get_or (marks_of c.args.self.now) (stop_order stop) false =
    c.has.ensures ∙ ap (λ (marks : List Bool). get_or marks (stop_order stop) false)
    (c.self.invariant.2 ∙ ap marks_of c.self.view_is) in (
      λ is. among_mark c.args.self.now stop (sym mark ∙ is),
      λ among. mark ∙ mark_among c.args.self.now stop among,
    )
