-- What can be earned by the borders that are not used stays within a limit.
use Rattle.std.specs.Prelude.{ℕ, ◌+◌, ◌*◌, ◌≤◌, Bool, true, false, List}
use Rattle.legal_runs.specs.Law.{unused}

-- a run at a stop has room for one stop less
abbrev pub credit : Bool → ℕ
credit true = 80
credit false = 0

-- what all runs together earn at most: 160 dollars for each of the 279 borders, and 80
abbrev pub revenue_most : ℕ
revenue_most = 44720

-- this much is earned; with 160 dollars more for each border that is not used it stays within a
-- limit
abbrev pub HasRoom : List Bool → ℕ → ℕ → Type 0
HasRoom used amount limit = amount + 160 * unused used ≤ limit
