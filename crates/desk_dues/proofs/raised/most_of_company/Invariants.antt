-- the most of the blocks so far
use Rattle.std.proofs.Common.{◌≡◌, ◌≤◌, take}
use Rattle.std.specs.List.{fold}
use Rattle.desk_dues.specs.Raised.{block_sizes, or_block}
use Rattle.desk_dues.proofs.raised.most_of_company.Given as goal

abbrev pub invariant-loop-shares : goal.invariant-loop-shares
invariant-loop-shares l = record {
  value : l.most ≡ fold (or_block l.history l.by l.company) 0 (take l.shares-index block_sizes);
  small : l.most ≤ 3500;
}
