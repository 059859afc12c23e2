use Rattle.std.proofs.Common.{◌≡◌, ◌-◌, length, take, drop, replicate}
use Rattle.order_grammar.specs.Words.{raised}
use Rattle.order_grammar.proofs.name.Name.from_word.Given as goal

-- the letters so far are raised, and the rest is blank
abbrev pub invariant-loop-i : goal.invariant-loop-i
invariant-loop-i l =
    (length l.letters ≡ 8) × (take l.i l.letters ≡ raised (take l.i l.word))
    × (drop l.i l.letters ≡ replicate (8 - l.i) 0)
