use Rattle.std.proofs.Common.{◌≡◌, ◌-◌, List, [], length, take, drop, arith}
use Rattle.std.proofs.lemmas.Grind.{common_steps}
use Rattle.markup.specs.declared.part.Part.{Part}
use Rattle.replay.specs.Shown.{texts}
use Rattle.replay.proofs.ShownLemmas.{end_merging, merge_step, none_left}
use Rattle.replay.proofs.merge.with_page.Goals as goal

pub loop-old-preserved : goal.loop-old-preserved
loop-old-preserved c = (
  c.in_ok-taken.ensures.within,
  merge_step c.args.before.items c.loop-old.rest.items c.pop_front.new.self.items c.loop-old.parts.items
      c.add_old.new.parts.items c.in-Some.old (texts c.args.page.now) c.loop-old.taken c.in_ok-taken.taken c.args.number
      c.in-Some.ensures.items c.loop-old.invariant.1 c.in_ok-taken.ensures.added,
)

pub returns : goal.returns
returns c =
    let page : List Part = c.args.page.now in
    let last : List Part = take (length page - c.loop-old.taken) (drop c.loop-old.taken page) in
    let all : last ≡ drop c.loop-old.taken page = grind (arith, common_steps) in
    let left : c.loop-old.rest.items ≡ [] =
    none_left c.pop_front.result c.loop-old.rest.items c.pop_front.new.self.items c.in_default.not-Some
    c.pop_front.ensures.items c.pop_front.ensures.rest in
    end_merging c.args.before.items c.loop-old.rest.items c.loop-old.parts.items c.add_new.new.parts.items page last
    c.loop-old.taken c.args.number left all c.loop-old.invariant.1 c.in_ok-add_new.ensures
