use Rattle.std.proofs.Common.{◌≡◌, ◌≤◌, ◌++◌, length, true}
use Rattle.std.specs.List.{list_all}
use Rattle.order_grammar.specs.Name.{is_name}
use Rattle.order_grammar.specs.Words.{texts_of}
use Rattle.order_grammar.proofs.form.read_names.Given as goal

-- the names so far, and the words to come
abbrev pub invariant-loop-word : goal.invariant-loop-word
invariant-loop-word l =
    (goal.iterator-loop-word).can_next l.rest × (goal.iterator-loop-word).is_finite l.rest
    × (l.names.items ++ texts_of l.rest ≡ texts_of l.words) × (list_all is_name l.names.items ≡ true)
    × (length l.names.items ≤ l.most) × (l.most ≤ 6)
