use Rattle.std.proofs.Common.{◌≡◌, get_or, arith}
use Rattle.std.proofs.lemmas.Grind.{common_steps}
use Rattle.markup.specs.Part.{part_text}
use Rattle.page_all.proofs.DrawingLemmas.{found_number}
use Rattle.page_all.proofs.drawings.place_of.Goals as goal

pub returns-then-is_same : goal.returns-then-is_same
returns-then-is_same c =
    let d = c.index-drawings-place.result in
    let same : part_text (get_or c.args.drawings.now c.loop-place.place d) ≡ part_text c.args.part.now =
    grind (arith, common_steps) in
    found_number c.args.drawings.now c.loop-place.place d c.args.part.now (omega arith) same
