-- A transfer, company by company.
use Rattle.std.proofs.Common.{◌≡◌, ℕ, ◌<◌, ◌==◌, Bool, true, false, if◌then◌else◌, List, [], ℤ, pos, ◌+ℤ◌, ◌-ℤ◌, Some}
use Rattle.std.proofs.Common.{length, get_or, set, refl, sym, ap, ◌∙◌, inl, inr, arith}
use Rattle.std.proofs.lemmas.Bool.{cases_eq}
use Rattle.std.proofs.lemmas.Bool.Decides.{nat_tests}
use Rattle.std.proofs.lemmas.Int.{ints}
use Rattle.std.proofs.lemmas.List.{get_or-set_same, get_or-set_other}
use Rattle.certs.specs.ShareRow.{index_of}
use Rattle.events.specs.declared.event.Shareholder.{Shareholder}
use Rattle.events.specs.declared.event.Shareholder.TheVariants.{InitialOffering, BankPool, Seat as OfSeat}
use Rattle.events.specs.declared.event.Transfer.{Transfer}
use Rattle.totals.specs.Shares.{brought_to, same_shareholder, taken_from}
use Rattle.tables.specs.Roster.{index_of_company}
use Rattle.tables.specs.declared.roster.Company.{Company}

-- places are the same where their indices are
same_index : (a b : Shareholder) → same_shareholder a b ≡ (index_of a == index_of b)
same_index InitialOffering InitialOffering = refl
same_index InitialOffering BankPool = refl
same_index InitialOffering (OfSeat b) = grind (arith, nat_tests)
same_index BankPool InitialOffering = refl
same_index BankPool BankPool = refl
same_index BankPool (OfSeat b) = grind (arith, nat_tests)
same_index (OfSeat a) InitialOffering = grind (arith, nat_tests)
same_index (OfSeat a) BankPool = grind (arith, nat_tests)
same_index (OfSeat a) (OfSeat b) = grind (arith, nat_tests)

-- a part of a sum, as a natural number and as an integer
part_is : (b : Bool) (shares : ℕ) → pos (if b then shares else 0) ≡ (if b then pos shares else pos 0)
part_is true shares = refl
part_is false shares = refl

-- what goes to or from a place of the company of the transfer
part_here : (of at : Company) (place other : Shareholder) (shares : ℕ) → index_of_company of ≡ index_of_company at
    → pos (if index_of_company of == index_of_company
    at then (if same_shareholder place other then shares else 0) else 0)
    ≡ (if index_of place == index_of other then pos shares else pos 0)
part_here of at place other shares same =
    let yes : (index_of_company of == index_of_company at) ≡ true = grind (arith, nat_tests) in
    ap (λ (b : Bool). pos (if b then (if same_shareholder place other then shares else 0) else 0)) yes
    ∙ ap (λ (b : Bool). pos (if b then shares else 0)) (same_index place other)
    ∙ part_is (index_of place == index_of other) shares

-- what goes to or from a place of another company
part_elsewhere : (of at : Company) (place other : Shareholder) (shares : ℕ)
    → (index_of_company of ≡ index_of_company at → ⊥)
    → pos 0 ≡ pos (if index_of_company of == index_of_company
    at then (if same_shareholder place other then shares else 0) else 0)
part_elsewhere of at place other shares apart =
    let no : (index_of_company of == index_of_company at) ≡ false = grind (arith, nat_tests) in
    sym (ap (λ (b : Bool). pos (if b then (if same_shareholder place other then shares else 0) else 0)) no)

-- the shares at a place after a transfer, where its company's row changed so there
pub rows_after : (rows : List (List ℤ)) (row : List ℤ) (transfer : Transfer) (at : ℕ)
    → at ≡ index_of_company transfer.company → at < length rows → (company : Company) (place : Shareholder)
    → get_or row (index_of place) (pos 0) ≡ (get_or (get_or rows at []) (index_of place) (pos 0) +ℤ
    (if index_of transfer.to == index_of place then pos transfer.shares else pos 0)) -ℤ
    (if index_of transfer.from == index_of place then pos transfer.shares else pos 0)
    → get_or (get_or (set rows at row) (index_of_company company) []) (index_of place) (pos 0)
    ≡ (get_or (get_or rows (index_of_company company) []) (index_of place) (pos 0) +ℤ pos
    (brought_to company place (Some transfer))) -ℤ pos (taken_from company place (Some transfer))
rows_after rows row transfer at at_is within company place moved =
    let i : ℕ = index_of place in
    let k : ℕ = index_of_company company in
    elim (cases_eq (index_of_company transfer.company) k) [
      | inl same ↦
          let at_k : at ≡ k = at_is ∙ same in
          ap (λ (n : ℕ). get_or (get_or (set rows at row) n []) i (pos 0)) (sym at_k)
          ∙ ap (λ (r : List ℤ). get_or r i (pos 0)) (get_or-set_same rows at row [] within)
          ∙ moved
          ∙ ap (λ (n : ℕ). (get_or (get_or rows n []) i (pos 0) +ℤ
          (if index_of transfer.to == i then pos transfer.shares else pos 0)) -ℤ
          (if index_of transfer.from == i then pos transfer.shares else pos 0)) at_k
          ∙ ap (λ (z : ℤ). (get_or (get_or rows k []) i (pos 0) +ℤ z) -ℤ
          (if index_of transfer.from == i then pos transfer.shares else pos 0))
          (sym (part_here transfer.company company transfer.to place transfer.shares same))
          ∙ ap (λ (z : ℤ). (get_or (get_or rows k []) i (pos 0) +ℤ pos (brought_to company place (Some transfer))) -ℤ
          z) (sym (part_here transfer.company company transfer.from place transfer.shares same))
      | inr apart ↦
          let other : k ≡ at → ⊥ = λ is. apart (sym (is ∙ at_is)) in
          let nothing : get_or (get_or rows k []) i (pos 0)
          ≡ (get_or (get_or rows k []) i (pos 0) +ℤ pos 0) -ℤ pos 0 = omega (arith, ints) in
          ap (λ (r : List ℤ). get_or r i (pos 0)) (get_or-set_other rows at k row [] other)
          ∙ nothing
          ∙ ap (λ (z : ℤ). (get_or (get_or rows k []) i (pos 0) +ℤ z) -ℤ pos 0)
          (part_elsewhere transfer.company company transfer.to place transfer.shares apart)
          ∙ ap (λ (z : ℤ). (get_or (get_or rows k []) i (pos 0) +ℤ pos (brought_to company place (Some transfer))) -ℤ
          z) (part_elsewhere transfer.company company transfer.from place transfer.shares apart)
    ]
