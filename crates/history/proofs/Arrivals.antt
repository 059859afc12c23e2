-- Companies with squares have come there by different events.
use Rattle.std.proofs.Common.{◌≡◌, ℕ, ◌+◌, ◌≤◌, Bool, true, false, if◌then◌else◌, List, [], ◌∷◌, Option, Some, None}
use Rattle.std.proofs.Common.{is_some, length, refl, sym, ap, ◌∙◌, arith, unwrap_or}
use Rattle.std.specs.Option.{option_or}
use Rattle.events.specs.Event.{square_set}
use Rattle.events.specs.declared.event.Event.{Event}
use Rattle.events.specs.declared.event.Placement.{Placement}
use Rattle.totals.proofs.Choices.{something}
use Rattle.totals.proofs.Places.{last_place_at_end}
use Rattle.history.specs.Laws.{ArrivalIsLast, ArrivalsDiffer}
use Rattle.totals.specs.LookBack.{last_place_from, last_said}
use Rattle.totals.specs.Shares.{arrival_of, square_of, square_said}
use Rattle.tables.specs.Roster.{same_company}
use Rattle.tables.specs.declared.roster.Company.{Company}
use Rattle.tables.specs.declared.squares.Square.{Square}
use Rattle.tables.proofs.Companies.{company_is}

-- a place, if there is one, is no lower
abbrev IsFrom : ℕ → Option ℕ → Type 0
IsFrom low place = (its : ℕ) → place ≡ Some its → low ≤ its

-- the place of the event in hand, or of a later one
low_here : (low : ℕ) (later : Option ℕ) (speaks : Bool) → IsFrom (low + 1) later
    → IsFrom low (option_or later (if speaks then Some low else None))
low_here low (Some place) speaks from its is = let later = from its is in omega arith
low_here low None true from its is =
    let here : low ≡ its = ap (λ place. unwrap_or place low) is in omega arith
low_here low None false from its is = absurd cc

-- the place of the last event that speaks is one of the list
low_enough : {A : Type 0} (says : Event → Option A) (low : ℕ) (events : List Event)
    → IsFrom low (last_place_from says low events)
low_enough says low [] = λ its is. absurd cc
low_enough says low (event ∷ events) =
    low_here low (last_place_from says (low + 1) events) (is_some (says event)) (low_enough says (low + 1) events)

-- two places, the event in hand or a later one, that are not the same
not_here : (low place : ℕ) (later_a later_b : Option ℕ) (a b : Bool) → IsFrom (low + 1) later_a
    → IsFrom (low + 1) later_b → (later_a ≡ Some place → later_b ≡ Some place → ⊥) → (a ≡ true → b ≡ true → ⊥)
    → option_or later_a (if a then Some low else None) ≡ Some place
    → option_or later_b (if b then Some low else None) ≡ Some place → ⊥
not_here low place (Some x) (Some y) a b from_a from_b later here at_a at_b = later at_a at_b
not_here low place (Some x) None a true from_a from_b later here at_a at_b =
    let high = from_a place at_a in
    let same : low ≡ place = ap (λ one. unwrap_or one low) at_b in
    omega arith
not_here low place (Some x) None a false from_a from_b later here at_a at_b = absurd cc
not_here low place None (Some y) true b from_a from_b later here at_a at_b =
    let high = from_b place at_b in
    let same : low ≡ place = ap (λ one. unwrap_or one low) at_a in
    omega arith
not_here low place None (Some y) false b from_a from_b later here at_a at_b = absurd cc
not_here low place None None true true from_a from_b later here at_a at_b = here refl refl
not_here low place None None false b from_a from_b later here at_a at_b = absurd cc
not_here low place None None true false from_a from_b later here at_a at_b = absurd cc

-- two things of which no event speaks together were not spoken of last at the same place
not_together : {A B : Type 0} (a : Event → Option A) (b : Event → Option B)
    → ((event : Event) → is_some (a event) ≡ true → is_some (b event) ≡ true → ⊥)
    → (low place : ℕ) (events : List Event) → last_place_from a low events ≡ Some place
    → last_place_from b low events ≡ Some place → ⊥
not_together a b apart low place [] at_a at_b = absurd cc
not_together a b apart low place (event ∷ events) at_a at_b =
    not_here low place (last_place_from a (low + 1) events) (last_place_from b (low + 1) events) (is_some (a event))
    (is_some (b event)) (low_enough a (low + 1) events) (low_enough b (low + 1) events)
    (not_together a b apart (low + 1) place events) (apart event) at_a at_b

-- there is a place where something was said
one_more_said : {A : Type 0} (later : Option A) (later_place : Option ℕ) (here : Option A) (low : ℕ)
    → is_some later_place ≡ is_some later → is_some (option_or later_place (if is_some here then Some low else None))
    ≡ is_some (option_or later here)
one_more_said (Some word) (Some place) here low same = refl
one_more_said (Some word) None here low same = absurd cc
one_more_said None (Some place) here low same = absurd cc
one_more_said None None (Some word) low same = refl
one_more_said None None None low same = refl

-- and only there
said_somewhere : {A : Type 0} (says : Event → Option A) (low : ℕ) (events : List Event)
    → is_some (last_place_from says low events) ≡ is_some (last_said says events)
said_somewhere says low [] = refl
said_somewhere says low (event ∷ events) =
    one_more_said (last_said says events) (last_place_from says (low + 1) events) (says event) low
    (said_somewhere says (low + 1) events)

-- something is said only where the test holds
spoken : {A : Type 0} (test : Bool) (word : A) → is_some (if test then Some word else None) ≡ true → test ≡ true
spoken true word says = refl
spoken false word says = absurd cc

-- what is said of one company's square is not said of another's
of_one_company : (a b : Company) (said : Option Placement) → is_some (square_said a said) ≡ true
    → is_some (square_said b said) ≡ true → a ≡ b
of_one_company a b None of_a of_b = absurd cc
of_one_company a b (Some placement) of_a of_b =
    sym (company_is placement.company a (spoken (same_company placement.company a) placement.square of_a))
    ∙ company_is placement.company b (spoken (same_company placement.company b) placement.square of_b)

-- a company with a square has its place
has_arrived : (events : List Event) (company : Company) (square : Square) → square_of events company ≡ Some square
    → last_place_from (λ event. square_said company (square_set event)) 0 events ≡ Some (arrival_of events company)
has_arrived events company square placed =
    let there = something (last_place_from (λ event. square_said company (square_set event)) 0 events)
    (said_somewhere (λ event. square_said company (square_set event)) 0 events ∙ ap is_some placed) in
    there.1 ∙ ap Some (sym (ap (λ place. unwrap_or place 0) there.1))

-- companies that arrived by one event are the same
pub arrivals_differ_law : ArrivalsDiffer
arrivals_differ_law events a b at there placed_a placed_b apart same =
    not_together (λ event. square_said a (square_set event)) (λ event. square_said b (square_set event))
    (λ event of_a of_b. apart (of_one_company a b (square_set event) of_a of_b)) 0 (arrival_of events a) events
    (has_arrived events a at placed_a) (has_arrived events b there placed_b ∙ ap Some (sym same))

-- the place of the event at the end, or the one before
here_or_before : (test : Bool) (place : ℕ) (before : Option ℕ)
    → unwrap_or (option_or (if test then Some place else None) before) 0 ≡ (if test then place else unwrap_or before 0)
here_or_before true place before = refl
here_or_before false place before = refl

-- a company arrives by the event at the end, if it sets its square
pub arrival_at_end : ArrivalIsLast
arrival_at_end events event company =
    let place : 0 + length events ≡ length events = omega arith in
    ap (λ at. unwrap_or at 0) (last_place_at_end (λ e. square_said company (square_set e)) 0 events event)
    ∙ (here_or_before (is_some (square_said company (square_set event))) (0 + length events)
    (last_place_from (λ e. square_said company (square_set e)) 0 events)
    ∙ ap (λ at. if is_some (square_said company (square_set event)) then at else arrival_of events company) place)
