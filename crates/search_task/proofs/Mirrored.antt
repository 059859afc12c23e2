-- Legs lead back over all legs, as far as has been checked.
use Rattle.std.proofs.Common.{◌≡◌, ℕ, zero, suc, ◌+◌, ◌<◌, ◌≤◌, inl, inr, Option, Some, None, List, [], length, get_or}
use Rattle.std.proofs.Common.{slice_get, refl, sym, ap, subst, ◌∙◌, arith}
use Rattle.std.proofs.lemmas.Option.{slice_get_read, slice_get_within}
use Rattle.search_task.specs.declared.task.Departures.{Departures}
use Rattle.search_task.specs.declared.task.Task.{Task}
use Rattle.search_task.specs.declared.task.Leg.{Leg}
use Rattle.search_task.specs.Legs.{AllLeadBack, HasMirror, IsMirrored, legs_at, legs_in}
use Rattle.search_task.proofs.Places.{below_next, one_leg}

-- the legs from a spot that is read
pub read_at : (task : Task) (spot : ℕ) (from : Departures) → spot < length task.departures.items
    → from ≡ get_or task.departures.items spot from → legs_at task spot ≡ from.legs.items
read_at task spot from low is = ap legs_in (slice_get_read task.departures.items (length task.departures.items) spot
    from refl low is)

pub leg_at : (task : Task) (spot : ℕ) (from : Departures) (index : ℕ) (leg : Leg)
    → spot < length task.departures.items → from ≡ get_or task.departures.items spot from
    → index < length from.legs.items → leg ≡ get_or from.legs.items index leg
    → slice_get (legs_at task spot) index ≡ Some leg
leg_at task spot from index leg low is within read =
    ap (λ (legs : List Leg). slice_get legs index) (read_at task spot from low is)
    ∙ slice_get_read from.legs.items (length from.legs.items) index leg refl within read

-- over the legs before a place
abbrev pub LeadBackBelow : Task → ℕ → ℕ → Type 0
LeadBackBelow task spot most = (place : ℕ) (leg : Leg) → place < most → slice_get (legs_at task spot) place ≡ Some leg
    → HasMirror task leg

pub back_more : (task : Task) (spot index : ℕ) (leg : Leg) → slice_get (legs_at task spot) index ≡ Some leg
    → HasMirror task leg → LeadBackBelow task spot index → LeadBackBelow task spot (index + 1)
back_more task spot index leg at mirror before place found low is_leg =
    elim (below_next place index low) [
      | inl less ↦ before place found less is_leg
      | inr same ↦ subst (HasMirror task) (one_leg (legs_at task spot) index place leg found at is_leg same) mirror
    ]

pub back_none : (task : Task) (spot : ℕ) → LeadBackBelow task spot 0
back_none task spot place leg low at = absurd (omega arith)

pub back_all : (task : Task) (spot most : ℕ) (legs : List Leg) → legs_at task spot ≡ legs → length legs ≤ most
    → LeadBackBelow task spot most → AllLeadBack task spot
back_all task spot most legs there all below place leg at =
    let low : place < length legs = slice_get_within legs place leg (ap (λ ws. slice_get ws place) (sym there) ∙ at) in
    below place leg (omega (arith, low, all)) at

-- over the legs from the spots before one
abbrev pub AllBackBelow : Task → ℕ → Type 0
AllBackBelow task most = (spot : ℕ) → spot < most → AllLeadBack task spot

pub spots_none : (task : Task) → AllBackBelow task 0
spots_none task spot low = absurd (omega arith)

pub spots_more : (task : Task) (next : ℕ) → AllLeadBack task next → AllBackBelow task next
    → AllBackBelow task (next + 1)
spots_more task next here before spot low =
    elim (below_next spot next low) [
      | inl less ↦ before spot less
      | inr same ↦ subst (AllLeadBack task) (sym same)
          here
    ]

pub spots_all : (task : Task) (most : ℕ) → length task.departures.items ≤ most → AllBackBelow task most
    → IsMirrored task
spots_all task most all below spot place leg at = by_from (slice_get task.departures.items spot) refl at
  where
    by_from : (found : Option Departures) → slice_get task.departures.items spot ≡ found
        → slice_get (legs_in found) place ≡ Some leg → HasMirror task leg
    by_from None is there = absurd (no_leg place there)
      where
        no_leg : (place : ℕ) → slice_get [] place ≡ Some leg → ⊥
        no_leg zero at = cc
        no_leg (suc place) at = cc
    by_from (Some from) is there =
        below spot (omega (arith, all, slice_get_within task.departures.items spot from is)) place leg at

-- what is required of the legs alone
pub mirrored_same : (a b : Task) → a.departures.items ≡ b.departures.items → IsMirrored a → IsMirrored b
mirrored_same a b same is spot place leg at =
    let legs : (n : ℕ) → legs_at a n ≡ legs_at b n =
    λ n. ap (λ (all : List Departures). legs_in (slice_get all n)) same in
    let mirror : HasMirror a leg = is spot place leg (ap (λ (ws : List Leg). slice_get ws place) (legs spot) ∙ at) in
    record {
      place = mirror.place;
      back = mirror.back;
      is_there = ap (λ (ws : List Leg). slice_get ws mirror.place) (sym (legs leg.segment.to)) ∙ mirror.is_there;
      within = mirror.within;
    }
