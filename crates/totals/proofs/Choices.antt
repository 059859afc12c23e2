-- Choices by tests, and what they are where the test is known.
use Rattle.std.proofs.Common.{◌≡◌, ◌≢◌, ℕ, ◌==◌, Bool, true, false, if◌then◌else◌, Option, Some, ℤ, pos}
use Rattle.std.proofs.Common.{None, is_some, refl, arith, negsuc, ◌≤ℤ◌}
use Rattle.std.proofs.lemmas.Bool.Decides.{nat_tests}
use Rattle.std.specs.Option.{option_or}
use Rattle.std.proofs.lemmas.Int.{ints}
use Rattle.tables.specs.declared.roster.Company.{Company}
use Rattle.tables.specs.declared.roster.Company.TheVariants.{Pennsylvania, NewYorkCentral, CanadianPacific}
use Rattle.tables.specs.declared.roster.Company.TheVariants.{BaltimoreOhio, ChesapeakeOhio, Erie, NewHaven, BostonMaine}
use Rattle.totals.specs.Trains.{at_least_zero}

-- a choice by two numbers that are the same
pub chosen : (i k a b : ℕ) → i ≡ k → (if i == k then a else b) ≡ a
chosen i k a b same = grind (arith, nat_tests)

-- a choice by two numbers that are not
pub passed_over : (i k a b : ℕ) → i ≢ k → (if i == k then a else b) ≡ b
passed_over i k a b apart = grind (arith, nat_tests)

-- a number that is not less than 0 is itself
pub at_least_zero_is : (number : ℤ) → pos 0 ≤ℤ number → pos (at_least_zero number) ≡ number
at_least_zero_is (pos n) low = refl
at_least_zero_is (negsuc n) low = absurd (omega (arith, ints, low))

-- an option that has something has it
pub something : {A : Type 0} (option : Option A) → is_some option ≡ true → (value : A) × (option ≡ Some value)
something None some = absurd (cc)
something (Some value) some = (value, refl)

-- the last word on a company, where the event at the end names one
pub new_word : {A : Type 0} (same : Bool) (word : A) (earlier : Option A) → same ≡ true
    → option_or (if same then Some word else None) earlier ≡ Some word
new_word true word earlier is = refl
new_word false word earlier is = absurd (cc)

-- or where it names another
pub old_word : {A : Type 0} (same : Bool) (word : A) (earlier : Option A) → same ≡ false
    → option_or (if same then Some word else None) earlier ≡ earlier
old_word true word earlier is = absurd (cc)
old_word false word earlier is = refl

-- nothing either way
pub nothing_there : (test : Bool) → ◌≡◌ {A = ℕ} (if test then 0 else 0) 0
nothing_there true = refl
nothing_there false = refl

-- two tests in either order
pub either_order : (a b : Bool) (n : ℕ) → (if a then (if b then n else 0) else 0)
    ≡ (if b then (if a then n else 0) else 0)
either_order true true n = refl
either_order true false n = refl
either_order false true n = refl
either_order false false n = refl

-- the company at a place of the roster
abbrev company_at : ℕ → Company
company_at place =
    if place == 0 then Pennsylvania else if place == 1 then NewYorkCentral else if place ==
    2 then CanadianPacific else if place == 3 then BaltimoreOhio else if place ==
    4 then ChesapeakeOhio else if place == 5 then Erie else if place == 6 then NewHaven else BostonMaine
