-- Companies differ by their places in the roster.
use Rattle.std.proofs.Common.{◌≡◌, ◌∙◌, ◌<◌, ap, sym, refl, true, get_or, arith}
use Rattle.std.proofs.lemmas.Bool.{eq-eqb, eqb-true}
use Rattle.tables.specs.Roster.{companies, index_of_company, same_company}
use Rattle.tables.specs.declared.roster.Company.{Company}
use Rattle.tables.specs.declared.roster.Company.TheVariants.{Pennsylvania}

-- a company is at its place in the roster
at_place : (company : Company) → get_or companies (index_of_company company) Pennsylvania ≡ company
at_place Pennsylvania = refl
at_place _ = refl

-- companies that pass for one are one
pub company_is : (a b : Company) → same_company a b ≡ true → a ≡ b
company_is a b same =
    sym (at_place a) ∙ ap (λ n. get_or companies n Pennsylvania)
    (eqb-true (index_of_company a) (index_of_company b) same) ∙ at_place b

-- one company passes for itself
pub company_is_same : (a b : Company) → a ≡ b → same_company a b ≡ true
company_is_same a b is = eq-eqb (index_of_company a) (index_of_company b) (ap index_of_company is)

pub company_itself : (company : Company) → same_company company company ≡ true
company_itself company = company_is_same company company refl

-- each place is less than 8
pub company_low : (company : Company) → index_of_company company < 8
company_low Pennsylvania = omega arith
company_low _ = omega arith
