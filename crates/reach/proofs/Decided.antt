-- Whether something is so or is not: what a company may pass, what is marked, and which links may
-- be taken.
use Rattle.std.proofs.Common.{◌≡◌, ℕ, ◌≤◌, Bool, true, false, ◌⊎◌, inl, inr, Option, Some, None, List, length, get_or}
use Rattle.std.proofs.Common.{nat_le, refl, sym, subst, arith}
use Rattle.std.proofs.lemmas.Bool.Decides.{nat_tests}
use Rattle.std.specs.List.{list_any}
use Rattle.map_tables.specs.Place.{joined_stop_of, stop_at}
use Rattle.map_tables.specs.declared.hex.Hex.{Hex}
use Rattle.map_tables.specs.declared.place.Stop.{Stop}
use Rattle.map_tables.specs.declared.track.TrackEnd.{TrackEnd}
use Rattle.map_tables.specs.declared.track.TrackEnd.TheVariants.{Side as AtSide, Stop as AtStop}
use Rattle.reach.proofs.Lists.{among_found, found_among}
use Rattle.reach.specs.Position.{HasToken, IsAmong, IsFull, Position, at_stop}
use Rattle.reach.specs.Search.{CanEnter, CanEnterAt, IsMarked, spot_number}
use Rattle.reach.specs.Walk.{across_end, spot_at}
use Rattle.reach.specs.declared.walk.Spot.{Spot}
use Rattle.tables.proofs.Companies.{company_is, company_is_same}
use Rattle.tables.specs.Roster.{same_company}
use Rattle.tables.specs.declared.roster.Company.{Company}

-- something is so, or is not
abbrev pub Decided : Type 0 → Type 0
Decided P = P ⊎ ¬ P

-- what is the same as something decided is decided
pub decided_by : (P Q : Type 0) → (P → Q) → (Q → P) → Decided P → Decided Q
decided_by P Q there back (inl is) = inl (there is)
decided_by P Q there back (inr off) = inr (λ is. off (back is))

-- a test is passed or is not
pub test_decided : (b : Bool) → Decided (b ≡ true)
test_decided true = inl refl
test_decided false = inr (λ (is : false ≡ true). let no : ⊥ = cc in no)

-- what is not so
pub not_decided : (P : Type 0) → Decided P → Decided (¬ P)
not_decided P (inl is) = inr (λ off. off is)
not_decided P (inr off) = inl off

-- both of two
pub both_decided : (P Q : Type 0) → Decided P → Decided Q → Decided (P × Q)
both_decided P Q (inl first) (inl second) = inl (first, second)
both_decided P Q (inl first) (inr second) = inr (λ both. second both.1)
both_decided P Q (inr first) second = inr (λ both. first both.0)

-- either of two
pub either_decided : (P Q : Type 0) → Decided P → Decided Q → Decided (P ⊎ Q)
either_decided P Q (inl first) second = inl (inl first)
either_decided P Q (inr first) (inl second) = inl (inr second)
either_decided P Q (inr first) (inr second) = inr
    (λ either. elim either [ inl one ↦ first one | inr other ↦ second other ])

-- a thing is among some
pub among_decided : {A : Type 0} (same : A → A → Bool) → ((a b : A) → same a b ≡ true → a ≡ b)
    → ((a b : A) → a ≡ b → same a b ≡ true) →
    (thing : A) (things : List A) → Decided (IsAmong thing things)
among_decided same exact alike thing things =
    let test = list_any (λ other. same other thing) things in
    decided_by (test ≡ true) (IsAmong thing things) (among_found same exact things thing)
    (found_among same alike things thing) (test_decided test)

-- one number is at most another
pub most_decided : (a b : ℕ) → Decided (a ≤ b)
most_decided a b =
    decided_by (nat_le a b ≡ true) (a ≤ b) (λ is. grind (arith, nat_tests, is)) (λ is. grind (arith, nat_tests, is))
    (test_decided (nat_le a b))

-- a company has a token at a stop
pub token_decided : (position : Position) (stop : Stop) (company : Company) → Decided (HasToken position stop company)
token_decided position stop company = among_decided same_company company_is company_is_same company
    (at_stop position stop).tokens

-- a city is full for a company
pub full_decided : (position : Position) (stop : Stop) (company : Company) → Decided (IsFull position stop company)
full_decided position stop company =
    let there = at_stop position stop in
    let slots : Type 0 = 1 ≤ there.slots in
    let taken : Type 0 = there.slots ≤ length there.tokens in
    let others : Type 0 = ¬ HasToken position stop company in
    decided_by (slots × (taken × others)) (IsFull position stop company)
    (λ all. record { is_city = (let some = all.0 in omega arith); all_taken = all.1.0; by_others = all.1.1 })
    (λ full. ((let some = full.is_city in omega arith), (full.all_taken, full.by_others)))
    (both_decided slots (taken × others) (most_decided 1 there.slots)
    (both_decided taken others (most_decided there.slots (length there.tokens))
    (not_decided (HasToken position stop company) (token_decided position stop company))))

-- a spot is marked
pub mark_decided : (marks : List Bool) (spot : Spot) → Decided (IsMarked marks spot)
mark_decided marks spot = test_decided (get_or marks (spot_number spot) false)

-- the other side of a border is marked
pub across_decided : (marks : List Bool) (found : Option Spot)
    → Decided ((from : Spot) × (found ≡ Some from) × IsMarked marks from)
across_decided marks None = inr (λ any. let wrong : None ≡ Some any.0 = any.1 in let no : ⊥ = cc in no)
across_decided marks (Some spot) =
    decided_by (IsMarked marks spot) ((from : Spot) × (Some spot ≡ Some from) × IsMarked marks from)
    (λ is. (spot, refl, is))
    (λ any. let same : spot ≡ any.0 = (let both : Some spot ≡ Some any.0 = any.1 in cc) in subst (IsMarked marks)
    (sym same) any.2) (mark_decided marks spot)

-- a link may be entered at an end
pub enter_decided : (position : Position) (company : Company) (marks : List Bool) (hex : Hex) (end : TrackEnd)
    → Decided (CanEnterAt position company marks hex end)
enter_decided position company marks hex (AtSide side) = across_decided marks (across_end hex (AtSide side))
enter_decided position company marks hex (AtStop number) =
    let stop = joined_stop_of (stop_at hex number) in
    both_decided (IsMarked marks (spot_at hex (AtStop number))) (¬ IsFull position stop company)
    (mark_decided marks (spot_at hex (AtStop number)))
    (not_decided (IsFull position stop company) (full_decided position stop company))

-- at a spot
pub can_enter_decided : (position : Position) (company : Company) (marks : List Bool) (spot : Spot)
    → Decided (CanEnter position company marks spot)
can_enter_decided position company marks spot = enter_decided position company marks spot.hex spot.end
