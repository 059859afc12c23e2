-- Once a border more is marked, fewer are not.
use Rattle.std.proofs.Common.{◌≡◌, ℕ, ◌<◌, Bool, true, false, not, cond, List, length, get_or, set, count_by, ap, arith}
use Rattle.std.proofs.lemmas.List.Sums.{sum_by-set}

pub fewer_free : (marks : List Bool) (n : ℕ) → n < length marks → get_or marks n false ≡ false
    → count_by not (set marks n true) < count_by not marks
fewer_free marks n low was =
    let count : Bool → ℕ = λ mark. cond (not mark) 1 0 in
    omega (arith, sum_by-set count marks n true false low, ap count was)
