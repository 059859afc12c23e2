use Rattle.std.proofs.Common.{◌≡◌, ◌≤◌, length, take}
use Rattle.order_grammar.proofs.order.duplicate_names.Given as goal

-- the names so far
abbrev pub invariant-loop-name : goal.invariant-loop-name
invariant-loop-name l = (l.copies.items ≡ take l.name-index l.names.items) × (length l.names.items ≤ 6)
