-- The bit is tested in both at once.
use Rattle.std.proofs.Common.{ℕ, ◌<◌, Bool, false, ◌||◌, List, get_or, ap, subst, sym, ◌∙◌}
use Rattle.search_task.specs.Marks.{mark_at}
use Rattle.search_task.proofs.Words.{either_at_is, mark_is}
use Rattle.search_task.proofs.bit_set.BitSet+SPOTS+SPOT_WORDS.either_has.Goals as goal

pub returns : goal.returns
returns c =
    let number = c.args.place.now in
    let low : number < 744 = subst (λ (n : ℕ). n < 744) c.place.view_is c.place.invariant.0 in
    let here = sym (mark_is 744 c.self.inside.words number low)
    ∙ ap (λ (marks : List Bool). get_or marks number false) c.self.view_is in
    let there = sym (mark_is 744 c.other.inside.words number low)
    ∙ ap (λ (marks : List Bool). get_or marks number false) c.other.view_is in
    either_at_is c.self.inside.words c.other.inside.words c.place.inside.number c.place.inside.word c.place.inside.bit c.place.invariant.1
    c.place.invariant.2
    ∙ (ap (λ (n : ℕ). mark_at c.self.inside.words n || mark_at c.other.inside.words n) c.place.view_is
    ∙ (ap (λ (b : Bool). b || mark_at c.other.inside.words number) here
    ∙ ap (λ (b : Bool). get_or c.args.self.now number false || b) there))
