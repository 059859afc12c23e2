use Rattle.std.proofs.Common.{◌≡◌, get_or, arith}
use Rattle.std.proofs.lemmas.Grind.{common_steps}
use Rattle.markup.specs.Part.{part_text}
use Rattle.replay.proofs.ShownLemmas.{place_found}
use Rattle.replay.proofs.merge.place_of.Goals as goal

pub returns-then-is_same : goal.returns-then-is_same
returns-then-is_same c =
    let d = c.index-page-place.result in
    let same : part_text (get_or c.args.page.now c.loop-place.place d) ≡ part_text c.args.old.now.part =
    grind (arith, common_steps) in
    place_found c.args.old.now c.args.page.now c.args.taken c.loop-place.place c.args.number d c.loop-place.invariant
    (omega arith) (omega arith) same
