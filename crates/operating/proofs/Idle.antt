-- Companies that have not operated in the round: each turn leaves one fewer, the next company is one of them, and where none
-- comes next all that operate have.
use Rattle.std.proofs.Common.{◌≡◌, ℕ, ◌+◌, ◌<◌, ◌≤◌, Bool, true, false, ◌||◌, not, if◌then◌else◌}
use Rattle.std.proofs.Common.{List, [], ◌∷◌, length, Option, Some, None, refl, ap, ◌∙◌, arith}
use Rattle.std.proofs.lemmas.Bool.{not-false, not-true}
use Rattle.std.proofs.lemmas.Bool.Decides.{nat_tests}
use Rattle.std.specs.Prelude.{find}
use Rattle.events.specs.declared.event.Event.{Event}
use Rattle.totals.specs.LookBack.{bankrupt_in}
use Rattle.totals.specs.Operating.{has_operated}
use Rattle.market.specs.OperatingOrder.{IsOperatingOrder, first_idle, next_company, operates, operating_order_of, times}
use Rattle.tables.specs.Roster.{companies, same_company}
use Rattle.tables.specs.declared.roster.Company.{Company}
use Rattle.tables.proofs.Companies.{company_is, company_itself}
use Rattle.market.proofs.Operating.{each_comes_once}

pub same_either_way : (a b : Company) → same_company a b ≡ same_company b a
same_either_way a b = grind (arith, nat_tests)

-- how many of some companies have not operated
abbrev pub idle_in : (Company → Bool) → List Company → ℕ
idle_in operated [] = 0
idle_in operated (company ∷ others) = (if operated company then 0 else 1) + idle_in operated others

-- how many companies have not operated in the round
unfoldable pub idle_of : List Event → ℕ
idle_of events = idle_in (has_operated events) companies

-- who has operated once a company has
abbrev pub OperatedToo : Company → (Company → Bool) → (Company → Bool) → Type 0
OperatedToo company before after = (other : Company) → after other ≡ (before other || same_company company other)

-- one that operates now is idle no more, and others are as before
one_counted : (after before same : Bool) → after ≡ (before || same) → (same ≡ true → before ≡
    false) →
    ◌≡◌ {A = ℕ} ((if after then 0 else 1) + (if same then 1 else 0)) (if before then 0 else 1)
one_counted after before same is idle = grind arith

module _ (company : Company) (before after : Company → Bool) (too : OperatedToo company before
    after)
    (idle : before company ≡ false) where
  -- so as many fewer are idle as it is among them
  fewer_idle_in : (them : List Company) → idle_in after them + times company them ≡ idle_in before
      them
  fewer_idle_in [] = refl
  fewer_idle_in (other ∷ others) =
      let one = one_counted (after other) (before other) (same_company other company)
      (too other ∙ ap (λ (b : Bool). before other || b) (same_either_way company other))
      (λ same. ap before (company_is other company same) ∙ idle) in
      omega (arith, one, fewer_idle_in others)

-- a company that had not operated leaves fewer idle
pub fewer_idle : (company : Company) (old new : List Event)
    → OperatedToo company (has_operated old) (has_operated new) → has_operated old company ≡ false
    → idle_of new < idle_of old
unfolding idle_of
fewer_idle company old new too idle =
    omega (
      arith,
      each_comes_once company,
      fewer_idle_in company (has_operated old) (has_operated new) too
          idle companies,
    )

-- no more are idle than there are
idle_in_few : (operated : Company → Bool) (them : List Company) → idle_in operated them ≤ length them
idle_in_few operated [] = omega arith
idle_in_few operated (company ∷ others) = grind (arith, idle_in_few operated others)

-- there are eight
pub idle_few : (events : List Event) → idle_of events ≤ 8
unfolding idle_of
idle_few events = idle_in_few (has_operated events) companies

-- what is found passes the test, and is in the list
found_passes : (test : Company → Bool) (them : List Company) (company : Company) → find test them ≡ Some company
    → (test company ≡ true) × (1 ≤ times company them)
found_passes test [] company found = absurd (cc)
found_passes test (first ∷ others) company found =
    grind (arith, found_passes test others company, company_itself first)

-- where nothing is found, all in the list fail
none_passes : (test : Company → Bool) (them : List Company) (company : Company) → find test them ≡ None
    → 1 ≤ times company them → test company ≡ false
none_passes test [] company none is_among = absurd (omega arith)
none_passes test (first ∷ others) company none is_among =
    grind (arith, none_passes test others company, company_is first company)

-- there are some only of what operates
some_operate : (b : Bool) → 1 ≤ (if b then 1 else 0) → b ≡ true
some_operate b some = grind arith

-- a company that is the next is the first that is idle
next_is_first : (bankrupt : Bool) (first : Option Company) (company : Company)
    → (if bankrupt then None else first) ≡ Some company → first ≡ Some company
next_is_first bankrupt first company found = grind arith

-- where there is no next and nobody is bankrupt, none is idle
none_is_first : (bankrupt : Bool) (first : Option Company) → bankrupt ≡ false
    → (if bankrupt then None else first) ≡ None → first ≡ None
none_is_first bankrupt first solvent none = grind arith

-- the next company operates, and has not done so in the round
pub next_is_idle : ((events : List Event) → IsOperatingOrder events (operating_order_of events))
    → (events : List Event) (company : Company) → next_company events ≡ Some company
    → (operates events company ≡ true) × (has_operated events company ≡ false)
next_is_idle ordered events company found =
    let first : first_idle events ≡ Some company =
    next_is_first (bankrupt_in events) (first_idle events) company found in
    let there = found_passes (λ company. not (has_operated events company)) (operating_order_of events) company first in
    let count = (ordered events).each_once company in (
      some_operate (operates events company) (omega (arith, there.1, count)),
      not-true (has_operated events company)
          there.0,
    )

-- where there is no next and nobody is bankrupt, each company that operates has done so
pub all_have_operated : ((events : List Event) → IsOperatingOrder events (operating_order_of events))
    → (events : List Event) (company : Company) → bankrupt_in events ≡ false → next_company events ≡ None
    → operates events company ≡ true → has_operated events company ≡ true
all_have_operated ordered events company solvent none operating =
    let idle : first_idle events ≡ None = none_is_first (bankrupt_in events) (first_idle events) solvent none in
    let count : times company (operating_order_of events) ≡ 1 =
    (ordered events).each_once company ∙ ap (λ (b : Bool). if b then 1 else 0) operating in
    not-false (has_operated events company) (none_passes (λ company. not (has_operated events company))
    (operating_order_of events) company idle (omega (arith, count)))
