-- The way back comes to the segment.
use Rattle.std.proofs.Common.{◌≡◌, ℕ, ◌+◌, ◌-◌, ◌<◌, Some, List, length, slice_get, sym, refl, subst, arith}
use Rattle.std.proofs.lemmas.Option.{slice_get_read}
use Rattle.search_task.specs.declared.segments.Entry.{Entry}
use Rattle.search_task.specs.Segments.{segments_from}
use Rattle.search_task.proofs.Chained.{IsAbove, above_before, above_it, above_last, above_low, from_few}
use Rattle.search_task.proofs.Places.{read_there}
use Rattle.search_task.proofs.segments.Segments.at.Goals as goal

pub overflow_step-next : goal.overflow_step-next
overflow_step-next c =
    let entries = c.self.inside.entries.items in
    let low : c.args.place < length (segments_from c.args.spot entries) =
    subst (λ (es : List Entry). c.args.place < length (segments_from c.args.spot es)) (sym c.self.view_is)
    c.requires in
    omega (arith, low, from_few c.args.spot entries, c.self.inside.entries.small)

pub loop-next-init : goal.loop-next-init
loop-next-init c =
    let chains = c.self.inside.chains.items in
    let entries = c.self.inside.entries.items in
    let chain = c.index-chain.result.now in
    let at : slice_get chains c.args.spot ≡ Some chain =
    read_there chains c.args.spot c.index-at.result chain (sym c.self.invariant.long) c.index-at.ensures.value
    c.index-at.ensures.bound c.index-chain.ensures in
    let low : c.args.place < length (segments_from c.args.spot entries) =
    subst (λ (es : List Entry). c.args.place < length (segments_from c.args.spot es)) (sym c.self.view_is)
    c.requires in
    above_last entries chains c.self.invariant c.args.spot chain at c.args.place low

pub index-requires : goal.index-requires
index-requires c = omega (arith, above_low c.self.inside.entries.items _ _ _ _ c.loop-next.invariant)

pub loop-next-preserved : goal.loop-next-preserved
loop-next-preserved c =
    let entries = c.self.inside.entries.items in
    let there = c.loop-next.entry in
    let left : ℕ = c.index-chain.result.now.count - c.loop-next.next in
    let entry = c.index.result.now in
    let low : there < length entries = above_low entries there c.args.spot c.args.place left c.loop-next.invariant in
    let at : slice_get entries there ≡ Some entry =
    slice_get_read entries (length entries) there entry refl low c.index.ensures in
    let one : left - 1 ≡ c.index-chain.result.now.count - (c.loop-next.next + 1) = omega arith in
    let less : 0 < left = omega (arith, c.loop-next-test.true) in
    subst (λ (n : ℕ). IsAbove entries entry.before c.args.spot c.args.place n) one
    (above_before entries c.self.inside.chains.items c.self.invariant there c.args.spot c.args.place left entry at less
    c.loop-next.invariant)

pub index-requires-2 : goal.index-requires-2
index-requires-2 c = omega (arith, above_low c.self.inside.entries.items _ _ _ _ c.loop-next.invariant)

pub returns : goal.returns
returns c =
    let entries = c.self.inside.entries.items in
    let there = c.loop-next.entry in
    let left : ℕ = c.index-chain.result.now.count - c.loop-next.next in
    let entry = c.index-2.result.now in
    let low : there < length entries = above_low entries there c.args.spot c.args.place left c.loop-next.invariant in
    let at : slice_get entries there ≡ Some entry =
    slice_get_read entries (length entries) there entry refl low c.index-2.ensures in
    let none : left ≡ 0 = omega (arith, c.loop-next-test.false) in
    subst (λ (es : List Entry). slice_get (segments_from c.args.spot es) c.args.place ≡ Some entry.segment)
    c.self.view_is
    (above_it entries c.self.inside.chains.items c.self.invariant there c.args.spot c.args.place left entry at none
    c.loop-next.invariant)
