use Rattle.std.proofs.Common.{◌≡◌, map, take}
use Rattle.page_routes.specs.ShownRuns.{place_of}
use Rattle.page_routes.proofs.routes.visits_of.Given as goal

-- the visits so far have the places so far
abbrev pub invariant-loop-place : goal.invariant-loop-place
invariant-loop-place l = map place_of l.visits.items ≡ take l.place-index l.places
