-- The known bytes of a reader and a writer over several calls.
use Rattle.std.proofs.Common.{◌≡◌, ℕ, ◌+◌, ◌≤◌, List, [], ◌++◌, length, take, drop, arith}
use Rattle.std.specs.Prelude.{Option, Some, None, IfSome}
use Rattle.std.specs.Io.KnownBytes.{Appends, Consumes, IsAtEnd}
use Rattle.std.proofs.KnownBytes.{Appends-trans, Consumes-trans}
use Rattle.std.proofs.Math.Seq.{take-add}
use Rattle.std.proofs.lemmas.Grind.{common_steps}
use Rattle.umpire.specs.Failure.{TakesAtMost}

-- a further part of a text is added
pub appends_part : (old mid new : Option (List ℕ)) (text rest : List ℕ) (done count : ℕ) → rest ≡ drop done text
    → Appends old mid (take done text) → Appends mid new (take count rest) → Appends old new (take (done + count) text)
appends_part old mid new text rest done count is_rest before after =
    rw (take-add done count text, ← is_rest) (Appends-trans old mid new (take done text) (take count rest) before after)

-- all bytes were taken: no more came
pub all_taken : (old mid new : Option (List ℕ)) (xs ys : List ℕ) (most : ℕ) → Consumes old mid xs
    → Consumes mid new ys → ys ≡ [] → IsAtEnd new → length xs ≤ most → IfSome old (λ bytes. xs ≡ take most bytes)
all_taken None mid new xs ys most taken then_taken none at_end within = tt
all_taken (Some all) None new xs ys most taken then_taken none at_end within = elim taken [ ]
all_taken (Some all) (Some rest) None xs ys most taken then_taken none at_end within = elim then_taken [ ]
all_taken (Some all) (Some rest) (Some left) xs ys most taken then_taken none at_end within =
    grind (arith, common_steps)

-- as many bytes were taken as are wanted
pub enough_taken : (old new : Option (List ℕ)) (xs : List ℕ) (most : ℕ) → Consumes old new xs → length xs ≡ most
    → IfSome old (λ bytes. xs ≡ take most bytes)
enough_taken None new xs most taken many = tt
enough_taken (Some all) None xs most taken many = elim taken [ ]
enough_taken (Some all) (Some rest) xs most taken many = grind (arith, common_steps)

-- a piece that was taken last is within the limit
pub within_limit : (old mid new : Option (List ℕ)) (xs ys : List ℕ) (most : ℕ) → Consumes old mid xs
    → Consumes mid new ys → length xs + length ys ≤ most → TakesAtMost most old new
within_limit old mid new xs ys most taken then_taken few =
    record {
      taken = xs ++ ys;
      consumed = Consumes-trans old mid new xs ys taken then_taken;
      within =
          grind (arith, common_steps);
    }
