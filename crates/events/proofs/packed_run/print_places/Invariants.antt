use Rattle.std.proofs.Common.{◌≡◌, ◌++◌, map, take}
use Rattle.map_tables.specs.Text.{text_of_place}
use Rattle.order_grammar.specs.Print.{spaced}
use Rattle.events.proofs.packed_run.print_places.Given as goal

-- the places so far, each after a space
abbrev pub invariant-loop-place : goal.invariant-loop-place
invariant-loop-place l = l.text.items ≡ l.fn.text.items ++ spaced (map text_of_place (take l.place-index l.places))
