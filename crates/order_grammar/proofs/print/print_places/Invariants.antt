use Rattle.std.proofs.Common.{◌≡◌, ◌++◌, take, map}
use Rattle.map_tables.specs.Text.{text_of_place}
use Rattle.order_grammar.specs.Print.{spaced}
use Rattle.order_grammar.proofs.print.print_places.Given as goal

-- the words of the places so far
abbrev pub invariant-loop-place : goal.invariant-loop-place
invariant-loop-place l = l.text.items ≡ l.fn.text.items ++ spaced (take l.place-index (map text_of_place l.places))
