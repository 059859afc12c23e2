-- The bit is tested in its word.
use Rattle.std.proofs.Common.{ℕ, ◌<◌, Bool, false, List, get_or, ap, subst, sym, ◌∙◌}
use Rattle.search_task.specs.Marks.{mark_at}
use Rattle.search_task.proofs.Words.{at_is, mark_is}
use Rattle.search_task.proofs.bit_set.BitSet+SPOTS+SPOT_WORDS.has_at.Goals as goal

pub returns : goal.returns
returns c =
    let low : c.args.place.now < 744 = subst (λ (n : ℕ). n < 744) c.place.view_is c.place.invariant.0 in
    at_is c.self.inside.words c.place.inside.number c.place.inside.word c.place.inside.bit c.place.invariant.1
    c.place.invariant.2
    ∙ (ap (λ (n : ℕ). mark_at c.self.inside.words n) c.place.view_is
    ∙ (sym (mark_is 744 c.self.inside.words c.args.place.now low)
    ∙ ap (λ (marks : List Bool). get_or marks c.args.place.now false) c.self.view_is))
