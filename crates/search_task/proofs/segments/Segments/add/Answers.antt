-- The segment comes after those from its spot.
use Rattle.std.proofs.Common.{◌≡◌, ◌+◌, Some, slice_get, sym, refl, arith}
use Rattle.search_task.specs.declared.segments.Entry.{Entry}
use Rattle.search_task.specs.declared.segments.Chain.{Chain}
use Rattle.search_task.proofs.Chained.{chained_more, from_few}
use Rattle.search_task.proofs.Places.{read_there}
use Rattle.search_task.proofs.segments.Segments.add.Goals as goal

pub overflow_add-chain : goal.overflow_add-chain
overflow_add-chain c =
    let chains = c.self.inside.chains.items in
    let chain = c.index-chain.result.now in
    let at : slice_get chains c.args.from ≡ Some chain =
    read_there chains c.args.from c.index-at.result chain (sym c.self.invariant.long) c.index-at.ensures.value
    c.index-at.ensures.bound c.index-chain.ensures in
    let few = from_few c.args.from c.self.inside.entries.items in
    omega (arith, (c.self.invariant.chains_are c.args.from chain at).count, few, c.self.inside.entries.small)

pub invariant_of-self-2 : goal.invariant_of-self-2
invariant_of-self-2 c =
    let chains = c.self.inside.chains.items in
    let entries = c.self.inside.entries.items in
    let chain = c.index-chain.result.now in
    let at : slice_get chains c.args.from ≡ Some chain =
    read_there chains c.args.from c.index-at.result chain (sym c.self.invariant.long) c.index-at.ensures.value
    c.index-at.ensures.bound c.index-chain.ensures in
    let entry : Entry = record {
      from = c.args.from;
      place = chain.count;
      before = chain.last;
      segment =
          c.args.segment;
    } in
    let next : Chain = record { count = chain.count + 1; last = c.len-last.result } in
    rw (c.in_ok-push.ensures.items, c.index-at.ensures.value)
    (chained_more entries chains c.self.invariant entry chain at refl refl next refl (omega arith))
