-- What the lines that are left bring from here, all bring from the start.
use Rattle.std.proofs.Common.{◌≡◌, length}
use Rattle.std.specs.Vec.Iter.{into_iter_items, into_iter_len}
use Rattle.forced_purchase.specs.Raise.{after_raises}
use Rattle.history.specs.Games.{IsGame}
use Rattle.forced_purchase.proofs.raise.rule_raises.Given as goal

abbrev pub invariant-loop-held : goal.invariant-loop-held
invariant-loop-held l = record {
  seats : l.history.seats ≡ l.fn.history.seats;
  after : after_raises l.due l.by l.history (into_iter_items l.left)
      ≡ after_raises l.due l.by l.fn.history l.fn.raises.items;
  game : IsGame l.history;
  len : into_iter_len l.left ≡ length (into_iter_items l.left);
}

abbrev pub decreases-loop-held : goal.decreases-loop-held
decreases-loop-held l = into_iter_len l.left
