use Rattle.std.proofs.Common.{◌≡◌, true, Option, IfSome, sym, subst}
use Rattle.picture.proofs.FrameLemmas.{found_passes}
use Rattle.picture.specs.Frames.{fits}
use Rattle.markup.specs.declared.point.Point.{Point}
use Rattle.picture.proofs.frames.place_text.Goals as goal

pub returns-in-None-clause-free : goal.returns-in-None-clause-free
returns-in-None-clause-free c =
    subst (λ (found : Option Point). IfSome found (λ place. fits c.args.site.now.room c.args.taken.now c.args.half place ≡ true))
    (sym c.first_free.ensures)
    (found_passes (fits c.args.site.now.room c.args.taken.now c.args.half) c.args.places.now)
