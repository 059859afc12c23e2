-- What is known of the stops, one stop after the other.
use Rattle.std.proofs.Common.{◌≡◌, ℕ, zero, suc, ◌<◌, ◌≤◌, Option, Some, None, List, get_or, set, length, replicate, refl, ap}
use Rattle.std.proofs.Common.{sym, ◌∙◌, subst, arith, get_or-set_same, get_or-set_other, inl, inr}
use Rattle.std.proofs.lemmas.Bool.{cases_eq}
use Rattle.map_tables.specs.declared.place.Stop.{Stop}
use Rattle.reach.specs.Position.{Position}
use Rattle.reach.specs.Reached.{stop_order}
use Rattle.reach.proofs.Spots.{order_low, same_order}
use Rattle.tables.specs.declared.roster.Company.{Company}
use Rattle.certificate.specs.KnownStops.{IsOfStop}
use Rattle.certificate.specs.declared.known_stops.StopFacts.{StopFacts}

-- each entry has the facts of its stop
abbrev pub AreSo : Position → Company → List (Option StopFacts) → Type 0
AreSo position company table =
    (stop : Stop) (facts : StopFacts) → get_or table (stop_order stop) None ≡ Some facts
    → IsOfStop position company stop facts

none_there : (n i : ℕ) → get_or (replicate n (let none : Option StopFacts = None in none)) i None ≡ None
none_there zero i = refl
none_there (suc n) zero = refl
none_there (suc n) (suc i) = none_there n i

pub known_none : (position : Position) (company : Company) (n : ℕ) → AreSo position company (replicate n None)
known_none position company n stop facts is =
    let wrong : (let none : Option StopFacts = None in none) ≡ Some facts = sym (none_there n (stop_order stop)) ∙ is in
    absurd cc

same_facts : (a b : StopFacts) → Some a ≡ Some b → a ≡ b
same_facts a b is = cc

-- with the facts of one more stop
pub known_more :
    (position : Position) (company : Company) (table : List (Option StopFacts)) (stop : Stop) (facts : StopFacts) →
    186 ≤ length table → AreSo position company table → IsOfStop position company stop facts
    → AreSo position company (set table (stop_order stop) (Some facts))
known_more position company table stop facts long before is other found at =
    let low : stop_order stop < length table = omega (arith, order_low stop, long) in
    elim (cases_eq (stop_order other) (stop_order stop)) [
      | inl same ↦
          let here : get_or (set table (stop_order stop) (Some facts)) (stop_order other) None ≡ Some facts =
          ap (λ (n : ℕ). get_or (set table (stop_order stop) (Some facts)) n None) same
          ∙ get_or-set_same table (stop_order stop) (Some facts) None low in
          subst (λ (s : Stop). IsOfStop position company s found) (sym (same_order other stop same))
          (subst (λ (f : StopFacts). IsOfStop position company stop f) (same_facts facts found (sym here ∙ at)) is)
      | inr different ↦ before other found
          (sym (get_or-set_other table (stop_order stop) (stop_order other) (Some facts) None different) ∙ at)
    ]
