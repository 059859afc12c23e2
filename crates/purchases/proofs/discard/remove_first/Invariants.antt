use Rattle.std.proofs.Common.{◌≡◌, ◌-◌, ◌++◌, drop, length, take}
use Rattle.purchases.specs.Discard.{without_first}
use Rattle.purchases.proofs.discard.remove_first.Given as goal

abbrev pub decreases-loop-place : goal.decreases-loop-place
decreases-loop-place l = length l.lines.items - l.place

-- none of those so far is of the kind
abbrev pub invariant-loop-place : goal.invariant-loop-place
invariant-loop-place l = record {
  same : l.lines.items ≡ l.fn.lines.items;
  kept : without_first l.kind l.lines.items ≡ take l.place l.lines.items
      ++ without_first l.kind (drop l.place l.lines.items);
}
