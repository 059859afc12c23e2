use Rattle.order_grammar.specs.Words.{texts_of}
use Rattle.order_grammar.proofs.RunLemmas.{ArePlacesSoFar}
use Rattle.order_grammar.proofs.form.read_run.Given as goal

-- the places so far, and the words to come
abbrev pub invariant-loop-word : goal.invariant-loop-word
invariant-loop-word l =
    (goal.iterator-loop-word).can_next l.rest × (goal.iterator-loop-word).is_finite l.rest
    × ArePlacesSoFar l.places.items (texts_of l.rest) (texts_of l.words)
