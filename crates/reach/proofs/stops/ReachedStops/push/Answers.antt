-- One more stop, with its mark.
use Rattle.std.proofs.Common.{◌≡◌, ℕ, ◌+◌, ◌<◌, Bool, true, List, length, set, take, ap, sym, ◌∙◌, arith, length-set}
use Rattle.std.proofs.lemmas.List.{length-take-le, take_more_set}
use Rattle.map_tables.specs.declared.place.Stop.{Stop}
use Rattle.reach.specs.Reached.{stop_order}
use Rattle.reach.specs.Stops.{marks_of}
use Rattle.reach.proofs.StopLists.{marks_push}
use Rattle.reach.proofs.stops.ReachedStops.push.Goals as goal

-- the marks of the first stops and one more
marks_more : (stops : List Stop) (count : ℕ) (stop : Stop) (marks new : List Bool) → count < length stops
    → marks ≡ marks_of (take count stops) → new ≡ set marks (stop_order stop) true
    → new ≡ marks_of (take (count + 1) (set stops count stop))
marks_more stops count stop marks new low are is =
    is ∙ ap (λ ms. set ms (stop_order stop) true) are
    ∙ sym (ap marks_of (take_more_set stops count stop low) ∙ marks_push (take count stops) stop)

pub invariant_of-self : goal.invariant_of-self
invariant_of-self c =
    let stops = c.self.inside.stops in
    let count = c.self.inside.count in
    let long : length stops ≡ 186 = c.self.invariant.1 in
    let whole : length (take count stops) ≡ length c.args.self.now = ap length c.self.view_is in
    let taken : length (take count stops) ≡ count = length-take-le count stops (omega (arith, c.self.invariant.0)) in
    let room : count < 186 = omega (arith, c.requires) in (
      omega arith,
      length-set stops count c.args.stop ∙ long,
      marks_more stops count c.args.stop c.self.inside.marks c.mark.new.self (omega arith) c.self.invariant.2
          c.mark.ensures,
    )
