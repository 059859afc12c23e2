-- Each step in hand is the first of those that are left.
use Rattle.std.proofs.Common.{Some, None, List, ◌++◌, ap, sym, ◌∙◌, arith}
use Rattle.std.proofs.lemmas.List.{append-nil}
use Rattle.std.specs.Iterator.Adapters.{rev_source}
use Rattle.std.specs.Slice.Iter.{iter_rest}
use Rattle.map_tables.specs.declared.place.Place.{Place}
use Rattle.legal_runs.specs.Written.{places_of, places_over}
use Rattle.legal_runs.proofs.Writing.{begun_with, room_for, step_further}
use Rattle.legal_runs.proofs.write.write_run.Goals as goal

pub loop-step-init : goal.loop-step-init
loop-step-init c = grind (arith, begun_with)

pub push-requires-in-Some-place_over : goal.push-requires-in-Some-place_over
push-requires-in-Some-place_over c =
    let all : List Place = places_of c.args.steps.now in
    let place : Place = c.in-Some-place_over.place in (
      omega arith,
      room_for c.loop-step.places.items all _ place
          (step_further c.loop-step.places.items all (Some place) _ _ _
          c.in-Some.ensures.steps (sym c.in-Some-place_over.is ∙ c.place_over.ensures) c.loop-step.invariant.2)
          c.requires.most,
    )

pub loop-step-preserved-in-Some-place_over : goal.loop-step-preserved-in-Some-place_over
loop-step-preserved-in-Some-place_over c =
    let all : List Place = places_of c.args.steps.now in
    let place : Place = c.in-Some-place_over.place in (
      tt,
      tt,
      ap (λ (places : List Place). places ++ places_over (iter_rest (rev_source c.next.new.self)))
          c.push-in-Some-place_over.ensures.items
          ∙ step_further c.loop-step.places.items all (Some place) _ _ _
          c.in-Some.ensures.steps (sym c.in-Some-place_over.is ∙ c.place_over.ensures) c.loop-step.invariant.2,
    )

pub loop-step-preserved : goal.loop-step-preserved
loop-step-preserved c =
    let all : List Place = places_of c.args.steps.now in (
      tt,
      tt,
      ap (λ (places : List Place). places ++ places_over (iter_rest (rev_source c.next.new.self)))
          (sym (append-nil c.loop-step.places.items))
          ∙ step_further c.loop-step.places.items all None _ _ _ c.in-Some.ensures.steps
          (sym c.in_default.is ∙ c.place_over.ensures) c.loop-step.invariant.2,
    )
