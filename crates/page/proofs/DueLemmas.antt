-- The first 60 bytes of a text: all of it, if it has no more.
use Rattle.std.proofs.Common.{◌≡◌, ℕ, ◌≤◌, List, length, take, arith}
use Rattle.std.proofs.lemmas.Grind.{common_steps}
use Rattle.std.proofs.lemmas.List.{length-take-le, take_all}

-- the first bytes of a text that has no more are the text
pub all_of : (bytes : List ℕ) → length bytes ≤ 60 → bytes ≡ take 60 bytes
all_of bytes few = grind (arith, common_steps, take_all 60 bytes few)

-- the first 60 bytes of a text that has them are 60
pub count_of : (bytes : List ℕ) → 60 ≤ length bytes → 60 ≡ length (take 60 bytes)
count_of bytes enough = grind (arith, common_steps, length-take-le 60 bytes enough)
