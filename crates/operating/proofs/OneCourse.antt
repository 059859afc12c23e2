-- Courses of play that make one list of calls and lead to one end, and a prefix of those calls
-- where they are broken off.
use Rattle.std.proofs.Common.{◌≡◌, ℕ, zero, suc, List, [], ◌∷◌, ◌++◌, append_assoc, Result, Ok, Err, sym, ap, subst}
use Rattle.std.proofs.Common.{◌∙◌, inl, inr}
use Rattle.legal_runs.specs.declared.runner.RunnerFault.{RunnerFault}
use Rattle.operating.specs.Calls.{Call, Course, IsPrefix, SomeTimesThen, Then, TimesThen, Unasked, unanswered}

-- calls before those of a prefix
behind :
    {Fault : Type 0} (memory : Fault) (Tells : Fault → RunnerFault → Call → Type 0) (fault : Fault)
    (earlier some all : List Call) →
    IsPrefix memory Tells fault some all → IsPrefix memory Tells fault (earlier ++ some) (earlier ++ all)
behind memory Tells fault earlier some all prefix =
    elim prefix [
      | inl first ↦ inl (
        first.0,
        record {
          later = first.1.later;
          are = ap (λ (calls : List Call). earlier ++ calls) first.1.are
              ∙ sym (append_assoc earlier some first.1.later);
        },
      )
      | inr short ↦ inr (
        short.0,
        record {
          earlier = earlier ++ short.1.earlier;
          next = short.1.next;
          later = short.1.later;
          are = ap (λ (calls : List Call). earlier ++ calls) short.1.are
              ∙ sym (append_assoc earlier short.1.earlier (short.1.next ∷ short.1.later));
          cut =
              ap (λ (calls : List Call). earlier ++ calls) short.1.cut
              ∙ sym (append_assoc earlier short.1.earlier (unanswered short.0 short.1.next ∷ []));
        },
        short.2,
      )
    ]

-- calls after those that have some as a prefix
ahead :
    {Fault : Type 0} (memory : Fault) (Tells : Fault → RunnerFault → Call → Type 0) (fault : Fault)
    (some all more : List Call) →
    IsPrefix memory Tells fault some all → IsPrefix memory Tells fault some (all ++ more)
ahead memory Tells fault some all more prefix =
    elim prefix [
      | inl first ↦ inl (
        first.0,
        record {
          later = first.1.later ++ more;
          are = ap (λ (calls : List Call). calls ++ more) first.1.are ∙ append_assoc some first.1.later more;
        },
      )
      | inr short ↦ inr (
        short.0,
        record {
          earlier = short.1.earlier;
          next = short.1.next;
          later = short.1.later ++ more;
          are =
              ap (λ (calls : List Call). calls ++ more) short.1.are
              ∙ append_assoc short.1.earlier (short.1.next ∷ short.1.later) more;
          cut = short.1.cut;
        },
        short.2,
      )
    ]

-- no call is the first of all
pub none_first :
    {Fault : Type 0} (memory : Fault) (Tells : Fault → RunnerFault → Call → Type 0) (fault : Fault)
    (some all : List Call) →
    fault ≡ memory → some ≡ [] → IsPrefix memory Tells fault some all
none_first memory Tells fault some all refused none =
    inl (refused, record { later = all; are = sym (ap (λ (calls : List Call). calls ++ all) none) })

-- from each place two courses lead to one end by the same calls; and where the first is broken off,
-- its calls are a prefix of those of the other
pub record Agree {A B Fault : Type 0} (memory : Fault) (Tells : Fault → RunnerFault → Call → Type 0)
    (one other : Course A B Fault) : Type 0 where
  pub once : (from : A) (a b : B) (some others : List Call) → one from (Ok a) some → other from (Ok b) others
      → (a ≡ b) × (some ≡ others)
  pub prefix : (from : A) (fault : Fault) (to : B) (some all : List Call) → one from (Err fault) some
      → other from (Ok to) all → IsPrefix memory Tells fault some all

module _ {Fault : Type 0} (memory : Fault) (Tells : Fault → RunnerFault → Call → Type 0) where
  -- a course without calls that leads to one end agrees with itself
  pub unasked_agrees :
      {A B : Type 0} (leads : A → B → Type 0) → ((from : A) (a b : B) → leads from a → leads from b → a ≡ b) →
      Agree memory Tells (Unasked memory leads) (Unasked memory leads)
  unasked_agrees leads only =
      record {
        once = λ from a b some others first second. (only from a b first.0 second.0, first.1 ∙ sym second.1);
        prefix = λ from fault to some all broken led. none_first memory Tells fault some all broken.0 broken.1;
      }

  -- so do two courses, each with another after it
  pub then_agree :
      {A B C : Type 0} (first first_too : Course A B Fault) (second second_too : Course B C Fault) →
      Agree memory Tells first first_too → Agree memory Tells second second_too →
      Agree memory Tells (Then first second) (Then first_too second_too)
  then_agree {A} {B} {C} first first_too second second_too firsts seconds =
      record {
        once = λ from a b some others one other.
            elim one [
              | inl never ↦ absurd never
              | inr way ↦ elim other [
                | inl never ↦ absurd never
                | inr way_too ↦
                    let mid = firsts.once from way.between way_too.between way.earlier way_too.earlier way.leads
                    way_too.leads in
                    let later = seconds.once way.between a b way.later way_too.later way.goes_on
                    (subst (λ (at : B). second_too at (Ok b) way_too.later) (sym mid.0) way_too.goes_on) in
                    (later.0, way.all ∙ (λ i. mid.1 i ++ later.1 i) ∙ sym way_too.all)
              ]
            ];
        prefix = λ from fault to some all one other.
            elim other [
              | inl never ↦ absurd never
              | inr way_too ↦ elim one [
                | inl breaks ↦
                    subst (λ (calls : List Call). IsPrefix memory Tells fault some calls) (sym way_too.all)
                    (ahead memory Tells fault some way_too.earlier way_too.later
                    (firsts.prefix from fault way_too.between some way_too.earlier breaks way_too.leads))
                | inr way ↦
                    let mid = firsts.once from way.between way_too.between way.earlier way_too.earlier way.leads
                    way_too.leads in
                    let later = seconds.prefix way.between fault to way.later way_too.later way.goes_on
                    (subst (λ (at : B). second_too at (Ok to) way_too.later) (sym mid.0) way_too.goes_on) in
                    let whole : all ≡ way.earlier ++ way_too.later =
                    way_too.all ∙ ap (λ (calls : List Call). calls ++ way_too.later) (sym mid.1) in
                    subst (λ (calls : List Call). IsPrefix memory Tells fault calls all) (sym way.all)
                    (subst (λ (calls : List Call). IsPrefix memory Tells fault (way.earlier ++ way.later) calls)
                    (sym whole)
                    (behind memory Tells fault way.earlier way.later way_too.later later))
              ]
            ];
      }

  module _
      {A B : Type 0} (course : Course A A Fault) (leads : A → B → Type 0) (agrees : Agree memory Tells course course)
      (only : (from : A) (a b : B) → leads from a → leads from b → a ≡ b)
      (apart : (from : A) (to : B) (outcome : Result A Fault) (calls : List Call) → leads from to
      → course from outcome calls → ⊥)
    where
      -- so does a course that is gone so often until one without calls can be, which it then cannot
      times_agree : (times more : ℕ) → Agree memory Tells (TimesThen times course (Unasked memory leads))
          (TimesThen more course (Unasked memory leads))
      times_agree zero zero = unasked_agrees leads only
      times_agree zero (suc more) =
          record {
            once = λ from a b some others one other.
                elim other [
                  | inl never ↦ absurd never
                  | inr way ↦ absurd (apart from a (Ok way.between) way.earlier one.0 way.leads)
                ];
            prefix = λ from fault to some all one other. none_first memory Tells fault some all one.0 one.1;
          }
      times_agree (suc times) zero =
          record {
            once = λ from a b some others one other.
                elim one [
                  | inl never ↦ absurd never
                  | inr way ↦ absurd (apart from b (Ok way.between) way.earlier other.0 way.leads)
                ];
            prefix = λ from fault to some all one other.
                elim one [
                  | inl breaks ↦ absurd (apart from to (Err fault) some other.0 breaks)
                  | inr way ↦ absurd (apart from to (Ok way.between) way.earlier other.0 way.leads)
                ];
          }
      times_agree (suc times) (suc more) =
          then_agree course course (TimesThen times course (Unasked memory leads))
          (TimesThen more course (Unasked memory leads)) agrees (times_agree times more)

      -- so it does some times
      pub some_times_agree : Agree memory Tells (SomeTimesThen course (Unasked memory leads))
          (SomeTimesThen course (Unasked memory leads))
      some_times_agree =
          record {
            once = λ from a b some others one other.
                let both = times_agree one.0 other.0 in both.once from a b some others one.1 other.1;
            prefix = λ from fault to some all one other.
                let both = times_agree one.0 other.0 in both.prefix from fault to some all one.1 other.1;
          }
