-- A stop that is marked is pushed, and another is not.
use Rattle.std.proofs.Common.{◌≡◌, true, false, inl, inr, refl, sym, ◌∙◌}
use Rattle.reach.proofs.stops.push_marked.Goals as goal

pub returns-then-has_stop-clause-pushed : goal.returns-then-has_stop-clause-pushed
returns-then-has_stop-clause-pushed c = inl (c.has_stop.ensures.0 c.if-has_stop.true, c.push.ensures)

pub returns-else-has_stop-clause-pushed : goal.returns-else-has_stop-clause-pushed
returns-else-has_stop-clause-pushed c =
    inr (λ is. (let found : true ≡ false = sym (c.has_stop.ensures.1 is) ∙ c.if-has_stop.false in cc), refl)
