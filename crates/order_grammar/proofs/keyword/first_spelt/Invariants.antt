use Rattle.std.proofs.Common.{◌≡◌, drop}
use Rattle.order_grammar.specs.Keyword.{spelt_of}
use Rattle.order_grammar.specs.Words.{raised}
use Rattle.order_grammar.proofs.keyword.first_spelt.Given as goal

-- none so far is it
abbrev pub invariant-loop-keyword : goal.invariant-loop-keyword
invariant-loop-keyword l =
    spelt_of (raised l.word) (drop l.keyword-index l.keywords) ≡ spelt_of (raised l.word) l.keywords
