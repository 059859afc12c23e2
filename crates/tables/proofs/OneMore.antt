-- What is written for each of the first numbers, or of the first elements of a list, grows by one.
use Rattle.std.proofs.Common.{◌≡◌, ℕ, zero, suc, ◌+◌, ◌<◌, List, ◌++◌, length, take, get_or, arith}
use Rattle.std.specs.List.{flat_map, range_with_len}
use Rattle.std.proofs.lemmas.Grind.{common_steps}
use Rattle.std.proofs.lemmas.List.{flat_map_more, take_more}

-- one more number after n of them
pub more_numbers : {A : Type 0} (f : ℕ → List A) (a n : ℕ)
    → flat_map f (range_with_len a (n + 1)) ≡ flat_map f (range_with_len a n) ++ f (a + n)
more_numbers f a zero = grind (arith, common_steps)
more_numbers f a (suc n) = grind (arith, common_steps, more_numbers f (a + 1) n)

-- the text of one more seat is added to that of the first n
pub seats_step : (f : ℕ → List ℕ) (n : ℕ) (old was now : List ℕ) → was ≡ old ++ flat_map f (range_with_len 0 n)
    → now ≡ was ++ f n → now ≡ old ++ flat_map f (range_with_len 0 (n + 1))
seats_step f n old was now before after = grind (arith, common_steps, more_numbers f 0 n)

-- what is written of one more element is added to that of the first n
pub elements_step : {X Y : Type 0} (f : X → List Y) (xs : List X) (n : ℕ) (d : X) (old was now : List Y) → n < length xs
    → was ≡ old ++ flat_map f (take n xs) → now ≡ was ++ f (get_or xs n d) → now ≡ old ++ flat_map f (take (n + 1) xs)
elements_step f xs n d old was now below before after =
    rw (take_more xs n d below) (rw (after, before) (flat_map_more f old (take n xs) (get_or xs n d)))
