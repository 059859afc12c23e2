-- Which trains may be named for best runs: none of them has rusted in this phase, there are as many of
-- each kind, and a company may have as many.
use Rattle.std.specs.Prelude.{◌≡◌, ℕ, ◌≤◌, Bool, false, nat_le, nat_lt, List, Option, Some, None, count_by, length}
use Rattle.std.specs.List.{list_any}
use Rattle.tables.specs.Train.{index_of_kind, kinds, limit_of, rusting_of, same_kind, trains_of}
use Rattle.tables.specs.declared.rolling_stock.Kind.{Kind}

-- the phase that rusts a kind, if there is one, has begun
abbrev pub has_come : Kind → Option Kind → Bool
has_come phase None = false
has_come phase (Some by) = nat_le (index_of_kind by) (index_of_kind phase)

-- trains of a kind have rusted by a phase
abbrev pub has_rusted : Kind → Kind → Bool
has_rusted phase kind = has_come phase (rusting_of kind)

-- so many are more than there are, if their number has a limit
abbrev pub is_over : ℕ → Option ℕ → Bool
is_over count None = false
is_over count (Some number) = nat_lt number count

-- there are more trains of a kind among these than there are such trains
abbrev pub is_too_many : List Kind → Kind → Bool
is_too_many trains kind = is_over (count_by (λ train. same_kind train kind) trains) (trains_of kind).number

-- a company may have these trains in a phase, some of which may come only later
pub record AreAllowed (phase : Kind) (trains : List Kind) : Type 0 where
  pub unrusted : list_any (has_rusted phase) trains ≡ false
  pub there : list_any (is_too_many trains) kinds ≡ false
  pub within : length trains ≤ limit_of phase
