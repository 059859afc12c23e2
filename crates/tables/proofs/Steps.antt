-- What is repeated until it is over: its first step by itself, and the end where it is over. There
-- is at most one end, and there is one if it is over after some number of steps.
use Rattle.std.proofs.Common.{◌≡◌, ℕ, zero, suc, ◌+◌, ◌<◌, ◌≤◌, Bool, true, false, refl, sym, ap, ◌∙◌, inl, inr, arith}
use Rattle.std.proofs.lemmas.Bool.{cases_order}
use Rattle.tables.specs.Steps.{iterate, LeadsTo, Ends}

-- the first step may be taken by itself
pub iterate_first : {A : Type 0} (step : A → A) (n : ℕ) (a : A) → iterate step (suc n) a ≡ iterate step n (step a)
iterate_first step zero a = refl
iterate_first step (suc n) a = ap step (iterate_first step n a)

-- steps after other steps
pub iterate_plus : {A : Type 0} (step : A → A) (m n : ℕ) (a : A)
    → iterate step (m + n) a ≡ iterate step m (iterate step n a)
iterate_plus step zero n a = ap (λ (k : ℕ). iterate step k a) (omega arith)
iterate_plus step (suc m) n a =
    let next : suc m + n ≡ suc (m + n) = omega arith in
    ap (λ (k : ℕ). iterate step k a) next ∙ ap step (iterate_plus step m n a)

-- there is at most one end
pub ends_once : {A : Type 0} (step : A → A) (over : A → Bool) (a y z : A) → Ends step over a y → Ends step over a z
    → y ≡ z
ends_once step over a y z first second =
    elim (cases_order first.steps second.steps) [
      | inl same ↦ cc (first.reached, second.reached)
      | inr apart ↦ elim apart [
        | inl earlier ↦ cc (first.reached, first.over_then, second.not_before first.steps earlier)
        | inr later ↦ cc (second.reached, second.over_then, first.not_before second.steps later)
      ]
    ]

-- no step leads to where it begins
pub leads_here : {A : Type 0} (step : A → A) (over : A → Bool) (a : A) → LeadsTo step over a a
leads_here step over a = record { steps = 0; reached = refl; not_before = λ k less. absurd (omega arith) }

-- it is not over before the last of one more step
not_before_next : {A : Type 0} (step : A → A) (over : A → Bool) (a z : A) (leads : LeadsTo step over a z) (k : ℕ)
    → over z ≡ false → k < suc leads.steps → over (iterate step k a) ≡ false
not_before_next step over a z leads k going less =
    elim (cases_order k leads.steps) [
      | inl same ↦ ap (λ (n : ℕ). over (iterate step n a)) same ∙ ap over leads.reached ∙ going
      | inr apart ↦ elim apart [
        | inl earlier ↦ leads.not_before k earlier
        | inr later ↦ absurd (omega arith)
      ]
    ]

-- where it is not over, the next step is led to
pub leads_on : {A : Type 0} (step : A → A) (over : A → Bool) (a z next : A) → LeadsTo step over a z → over z ≡ false
    → next ≡ step z → LeadsTo step over a next
leads_on step over a z next leads going stepped =
    record {
      steps = suc leads.steps;
      reached = ap step leads.reached ∙ sym stepped;
      not_before = λ k less. not_before_next step over a z leads k going less;
    }

-- where it is over, what is led to is the end
pub leads_to_end : {A : Type 0} (step : A → A) (over : A → Bool) (a z : A) → LeadsTo step over a z → over z ≡ true
    → Ends step over a z
leads_to_end step over a z leads is_over =
    record { steps = leads.steps; reached = leads.reached; over_then = is_over; not_before = leads.not_before }

-- what is over ends where it is
pub ends_here : {A : Type 0} (step : A → A) (over : A → Bool) (a : A) → over a ≡ true → Ends step over a a
ends_here step over a is_over = leads_to_end step over a a (leads_here step over a) is_over

-- it is not over before the first step, nor before those that follow it
none_before : {A : Type 0} (step : A → A) (over : A → Bool) (a z : A) (ends : Ends step over (step a) z) (k : ℕ)
    → over a ≡ false → k < suc ends.steps → over (iterate step k a) ≡ false
none_before step over a z ends zero going less = going
none_before step over a z ends (suc k) going less =
    ap over (iterate_first step k a) ∙ ends.not_before k (omega arith)

-- what is not over ends where its next step ends
pub ends_later : {A : Type 0} (step : A → A) (over : A → Bool) (a z : A) → over a ≡ false → Ends step over (step a) z
    → Ends step over a z
ends_later step over a z going ends =
    record {
      steps = suc ends.steps;
      reached = iterate_first step ends.steps a ∙ ends.reached;
      over_then = ends.over_then;
      not_before = λ k less. none_before step over a z ends k going less;
    }

-- an end within this many steps
pub record EndsWithin {A : Type 0} (step : A → A) (over : A → Bool) (a : A) (most : ℕ) : Type 0 where
  pub last : A
  pub ends : Ends step over a last
  pub few : ends.steps ≤ most

-- an end after the first step is one before it
later_within : {A : Type 0} (step : A → A) (over : A → Bool) (a : A) (most : ℕ) → over a ≡ false
    → EndsWithin step over (step a) most → EndsWithin step over a (suc most)
unfolding ends_later
later_within step over a most going within =
    record {
      last = within.last;
      ends = ends_later step over a within.last going within.ends;
      few =
          omega (arith, within.few);
    }

-- where it is over after some number of steps, there is an end within them
pub ends_within : {A : Type 0} (step : A → A) (over : A → Bool) (most : ℕ) (a : A) → over (iterate step most a) ≡ true
    → EndsWithin step over a most
unfolding ends_here leads_to_end leads_here
ends_within step over zero a is_over = record { last = a; ends = ends_here step over a is_over; few = omega arith }
ends_within step over (suc most) a is_over =
    elim (over a) as (λ (b : Bool). over a ≡ b → EndsWithin step over a (suc most)) [
      | true ↦ λ done. record { last = a; ends = ends_here step over a done; few = omega arith }
      | false ↦ λ going. later_within step over a most going
          (ends_within step over most (step a) (ap over (sym (iterate_first step most a)) ∙ is_over))
    ]
    refl
