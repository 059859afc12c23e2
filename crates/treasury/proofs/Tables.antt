-- A table of sums of money that is filled entry by entry.
use Rattle.std.proofs.Common.{ℕ, ◌+◌, ◌<◌, List, ℤ, pos, length, get_or, set, sym, subst}
use Rattle.std.proofs.lemmas.Int.{to_z-of_z}
use Rattle.tables.proofs.Filled as table
use mir.Syntax.{w128}
use mir.Val.{SFits, of_z, to_z}

-- what holds of the sums so far, and of one more as it is kept, holds of all of them
pub filled_more : (P : ℕ → ℤ → Type 0) (cash : List ℤ) (n : ℕ) (z : ℤ) → n < length cash → SFits w128 z → P n z →
    ((k : ℕ) → k < n → P k (get_or cash k (pos 0))) → (k : ℕ) → k < n + 1
    → P k (get_or (set cash n (to_z w128 (of_z w128 z))) k (pos 0))
filled_more P cash n z within fits is before =
    table.filled_more P (pos 0) cash n (to_z w128 (of_z w128 z)) within
    (subst (λ (x : ℤ). P n x) (sym (to_z-of_z w128 z fits)) is) before
