-- Courses one after another make the calls of one and then those of the other.
use Rattle.std.proofs.Common.{◌≡◌, zero, suc, List, [], ◌∷◌, ◌++◌, Result, Ok, Err, refl, subst, inl, inr}
use Rattle.operating.specs.Calls.{AreMade, Call, Course, Earns, Makes, SomeTimesThen, Then, TimesThen, Unasked}

module _ {Runner : Type 0} (earns : Earns Runner) where
  -- calls made after others are made with them
  made_after :
      (before between after : Runner) (earlier later : List Call) → AreMade earns before earlier between
      → AreMade earns between later after →
      AreMade earns before (earlier ++ later) after
  made_after before between after [] later is made = subst (λ (from : Runner). AreMade earns from later after) is made
  made_after before between after (call ∷ earlier) later made others =
      (made.0, made.1, made_after made.0 between after earlier later made.2 others)

  -- a course that led to where another begins, and that one
  pub joined :
      {A B C F : Type 0} (first : Course A B F) (second : Course B C F) (from : A) (to : B)
      (outcome : Result C F) (before between after : Runner) →
      Makes earns before (first from (Ok to)) between → Makes earns between (second to outcome) after →
      Makes earns before (Then first second from outcome) after
  joined first second from to outcome before between after one other = (
    one.0 ++ other.0,
    inr (record { between = to; earlier = one.0; later = other.0; leads = one.1; goes_on = other.1; all = refl }),
    made_after before between after one.0 other.0 one.2 other.2,
  )

  -- a course that was broken off, where another would begin
  pub broken_off :
      {A B C F : Type 0} (first : Course A B F) (second : Course B C F) (from : A) (fault : F)
      (before after : Runner) →
      Makes earns before (first from (Err fault)) after → Makes earns before (Then first second from (Err fault)) after
  broken_off first second from fault before after made = (made.0, inl made.1, made.2)

  -- a course that makes no call leaves the runner as it is
  pub silent :
      {A B F : Type 0} (memory : F) (leads : A → B → Type 0) (from : A) (to : B) (before after : Runner)
      → leads from to → after ≡ before →
      Makes earns before (Unasked memory leads from (Ok to)) after
  silent memory leads from to before after is same = ([], (is, refl), same)

  -- a course once more before others
  pub once_more :
      {A B F : Type 0} (course : Course A A F) (last : Course A B F) (from to : A) (outcome : Result B F)
      (before between after : Runner) →
      Makes earns before (course from (Ok to)) between
      → Makes earns between (SomeTimesThen course last to outcome) after →
      Makes earns before (SomeTimesThen course last from outcome) after
  once_more course last from to outcome before between after one others =
      let all = joined course (TimesThen others.1.0 course last) from to outcome before between after one
      (others.0, others.1.1, others.2) in
      (all.0, (suc others.1.0, all.1), all.2)

  -- a course that is broken off is the last
  pub none_after :
      {A B F : Type 0} (course : Course A A F) (last : Course A B F) (from : A) (fault : F) (before after : Runner) →
      Makes earns before (course from (Err fault)) after
      → Makes earns before (SomeTimesThen course last from (Err fault)) after
  none_after course last from fault before after made = (made.0, (suc zero, inl made.1), made.2)

  -- no course, and then the last
  pub no_more :
      {A B F : Type 0} (course : Course A A F) (last : Course A B F) (from : A) (outcome : Result B F)
      (before after : Runner) →
      Makes earns before (last from outcome) after → Makes earns before (SomeTimesThen course last from outcome) after
  no_more course last from outcome before after made = (made.0, (zero, made.1), made.2)
