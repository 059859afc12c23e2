-- Tables that are filled entry by entry, and tables by the places of the roster.
use Rattle.std.proofs.Common.{◌≡◌, ℕ, ◌+◌, ◌<◌, ◌==◌, if◌then◌else◌, List, ℤ, pos, ◌+ℤ◌, length, get_or, set, sym}
use Rattle.std.proofs.Common.{subst, inl, inr, arith}
use Rattle.std.proofs.lemmas.Bool.{cases_eq}
use Rattle.std.proofs.lemmas.Bool.Decides.{nat_tests}
use Rattle.std.proofs.lemmas.Grind.{get_or-set_at}
use Rattle.std.proofs.lemmas.Int.{ints}
use Rattle.std.proofs.lemmas.List.{get_or-set_same, get_or-set_other}
use Rattle.tables.specs.Roster.{companies, index_of_company}
use Rattle.tables.specs.declared.roster.Company.{Company}
use Rattle.tables.specs.declared.roster.Company.TheVariants.{Pennsylvania, NewYorkCentral, CanadianPacific}
use Rattle.tables.specs.declared.roster.Company.TheVariants.{BaltimoreOhio, ChesapeakeOhio, Erie, NewHaven, BostonMaine}

-- what holds of the entries so far, and of one more, holds of all of them
pub filled_more : {A : Type 0} (P : ℕ → A → Type 0) (d : A) (table : List A) (n : ℕ) (entry : A) → n < length table
    → P n entry → ((k : ℕ) → k < n → P k (get_or table k d)) → (k : ℕ) → k < n + 1
    → P k (get_or (set table n entry) k d)
filled_more {A} P d table n entry within is before k less =
    elim (cases_eq k n) [
      | inl same ↦ subst (λ (i : ℕ). P i (get_or (set table n entry) i d)) (sym same)
          (subst (λ (x : A). P n x) (sym (get_or-set_same table n entry d within)) is)
      | inr apart ↦ subst (λ (x : A). P k x) (sym (get_or-set_other table n k entry d apart)) (before k (omega arith))
    ]

-- what holds of each entry of a table by the roster holds of each company's
pub at_places : {A : Type 0} (P : Company → A → Type 0) (d : A) (table : List A)
    → ((k : ℕ) → k < 8 → P (get_or companies k Pennsylvania) (get_or table k d)) → (company : Company)
    → P company (get_or table (index_of_company company) d)
at_places P d table each Pennsylvania = each 0 (omega arith)
at_places P d table each NewYorkCentral = each 1 (omega arith)
at_places P d table each CanadianPacific = each 2 (omega arith)
at_places P d table each BaltimoreOhio = each 3 (omega arith)
at_places P d table each ChesapeakeOhio = each 4 (omega arith)
at_places P d table each Erie = each 5 (omega arith)
at_places P d table each NewHaven = each 6 (omega arith)
at_places P d table each BostonMaine = each 7 (omega arith)

-- a change of one entry of a table of integers
pub entry_changed : (table : List ℤ) (i k : ℕ) (change entry : ℤ) → i < length table
    → entry ≡ get_or table i (pos 0) +ℤ change → get_or (set table i entry) k (pos 0)
    ≡ get_or table k (pos 0) +ℤ (if i == k then change else pos 0)
entry_changed table i k change entry within is = grind (arith, ints, nat_tests, get_or-set_at, get_or-set_other)
