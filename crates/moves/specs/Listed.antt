-- Which of some candidates are allowed, in their order, each with its price: exactly those of which
-- the rules give a price. Nothing else is in the list, and no candidate that is allowed is left
-- out of it.
use Rattle.std.specs.Prelude.{◌≡◌, List, [], ◌∷◌, ◌++◌, Result, Ok, Err, ℤ}
use Rattle.moves.specs.declared.priced.Priced.{Priced}

-- what a candidate brings to the list: itself with its price, or nothing where a rule refuses it
abbrev pub priced_if : {A Fault : Type 0} → A → Result ℤ Fault → List (Priced A)
priced_if one (Ok price) = record { what = one; price = price } ∷ []
priced_if one (Err rule) = []

-- of these candidates, those that the rules allow are these: the rules judge each candidate in its
-- turn
abbrev pub AreListed : {A Fault : Type 0} → (A → Result ℤ Fault → Type 0) → List A → List (Priced A) → Type 0
AreListed rules [] listed = listed ≡ []
AreListed {A = A} {Fault = Fault} rules (one ∷ more) listed =
    (answer : Result ℤ Fault) × (rest : List (Priced A)) × rules one answer × AreListed rules more rest
    × (listed ≡ priced_if one answer ++ rest)

-- the list is longer by those of these candidates that the rules allow
pub record Lists {A Fault : Type 0} (rules : A → Result ℤ Fault → Type 0) (candidates : List A)
    (old new : List (Priced A)) : Type 0 where
  pub added : List (Priced A)
  pub listed : AreListed rules candidates added
  pub after : new ≡ old ++ added
