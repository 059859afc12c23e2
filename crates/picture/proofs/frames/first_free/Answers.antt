use Rattle.std.proofs.Common.{sym, ◌∙◌}
use Rattle.picture.proofs.FrameLemmas.{find_here, find_later, find_none}
use Rattle.picture.specs.Frames.{fits}
use Rattle.picture.proofs.frames.first_free.Goals as goal

pub loop-place-preserved : goal.loop-place-preserved
loop-place-preserved c =
    sym (find_later (fits c.args.room.now c.args.taken.now c.args.half) c.args.places.now c.loop-place.place-index _
    c.loop-place-test.true (sym c.fits.ensures ∙ c.if-fits.false))
    ∙ c.loop-place.invariant

pub returns-then-fits : goal.returns-then-fits
returns-then-fits c =
    sym (find_here (fits c.args.room.now c.args.taken.now c.args.half) c.args.places.now c.loop-place.place-index _
    c.loop-place-test.true (sym c.fits.ensures ∙ c.if-fits.true))
    ∙ c.loop-place.invariant

pub returns : goal.returns
returns c =
    sym (find_none (fits c.args.room.now c.args.taken.now c.args.half) c.args.places.now c.loop-place.place-index
    c.loop-place-test.false)
    ∙ c.loop-place.invariant
