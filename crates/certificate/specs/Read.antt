-- What deciders make of a node: one that reads marks, and one that writes them.
use Rattle.std.specs.Prelude.{◌≡◌, ℕ, ◌<◌, ◌≤◌, ◌⊎◌, Bool, true, false, List, [], ◌∷◌, ◌++◌, length}
use Rattle.std.specs.List.{AllByRecursion}
use Rattle.certificate.specs.declared.decider.Decision.{Decision}
use Rattle.certificate.specs.declared.decider.Decision.TheVariants.{Cut, Split, Stop as End}

-- The first of the marks that are left is read: 0 cuts a node whose bound is at most the revenue,
-- and 1 splits one that is no leaf. The walk ends if the mark does neither, or there is none.
abbrev pub IsRead : List Bool → ℕ → ℕ → Bool → Decision → List Bool → Type 0
IsRead old revenue bound leaf Cut new = (old ≡ false ∷ new) × (bound ≤ revenue)
IsRead old revenue bound leaf Split new = (old ≡ true ∷ new) × (leaf ≡ false)
IsRead old revenue bound leaf End new =
    (old ≡ []) ⊎ (((old ≡ false ∷ new) × (revenue < bound)) ⊎ ((old ≡ true ∷ new) × (leaf ≡ true)))

-- a mark is written after others: 0 if the bound is at most the revenue, and 1 otherwise; the walk
-- ends if it could not be written
abbrev pub IsWritten : List Bool → ℕ → ℕ → Decision → List Bool → Bool → Type 0
IsWritten old revenue bound Cut new failed = (new ≡ old ++ false ∷ []) × (bound ≤ revenue)
IsWritten old revenue bound Split new failed = (new ≡ old ++ true ∷ []) × (revenue < bound)
IsWritten old revenue bound End new failed = failed ≡ true

-- bits are at most this many, each 0
abbrev pub AreZeros : ℕ → List Bool → Type 0
AreZeros most bits = (length bits ≤ most) × AllByRecursion (λ bit. bit ≡ false) bits
