-- What is repeated until it is over: the turns of a round, the rounds of a game.
use Rattle.std.specs.Prelude.{◌≡◌, ℕ, zero, suc, ◌<◌, Bool, true, false}

-- where n steps lead
abbrev pub iterate : {A : Type 0} → (A → A) → ℕ → A → A
iterate step zero a = a
iterate step (suc n) a = step (iterate step n a)

-- From a, the steps have reached z, and at none before it was it over.
pub record LeadsTo {A : Type 0} (step : A → A) (over : A → Bool) (a z : A) : Type 0 where
  pub steps : ℕ
  pub reached : iterate step steps a ≡ z
  pub not_before : (k : ℕ) → k < steps → over (iterate step k a) ≡ false

-- From a, the steps lead to z: after some number of steps it is over, and after fewer it is not.
pub record Ends {A : Type 0} (step : A → A) (over : A → Bool) (a z : A) : Type 0 where
  pub steps : ℕ
  pub reached : iterate step steps a ≡ z
  pub over_then : over z ≡ true
  pub not_before : (k : ℕ) → k < steps → over (iterate step k a) ≡ false

-- steps lead to at most one end, whatever is stepped
abbrev pub StepsEndOnce : Type 0 → Type 0
StepsEndOnce A = (step : A → A) (over : A → Bool) (a y z : A) → Ends step over a y → Ends step over a z → y ≡ z
