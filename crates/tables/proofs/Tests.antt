-- What a test says of another one, or of an option.
use Rattle.std.proofs.Common.{◌≡◌, Bool, true, false, ◌&&◌, Option, Some, None, is_none, is_some, refl, sym}

-- two tests that are passed together are the same
pub same_bool : (a b : Bool) → (a ≡ true → b ≡ true) → (b ≡ true → a ≡ true) → a ≡ b
same_bool true b there back = sym (there refl)
same_bool false true there back = back refl
same_bool false false there back = refl

-- where the first of two tests is passed and not both are, the second is not
pub second_fails : (a b : Bool) → (a && b) ≡ false → a ≡ true → b ≡ false
second_fails true b fails passed = fails
second_fails false b fails passed = absurd cc

-- an option that has nothing is none
pub none_by_is_some : {A : Type 0} (option : Option A) → is_some option ≡ false → option ≡ None
none_by_is_some None empty = refl
none_by_is_some (Some value) empty = absurd cc

pub none_by_is_none : {A : Type 0} (option : Option A) → is_none option ≡ true → option ≡ None
none_by_is_none None empty = refl
none_by_is_none (Some value) empty = absurd cc
