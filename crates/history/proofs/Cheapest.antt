-- The first private in roster order that is unsold costs least of those that are.
use Rattle.std.proofs.Common.{◌≡◌, ℕ, ◌≤◌, ◌⊎◌, Bool, true, false, cond, List, [], ◌∷◌, ◌++◌, Option, Some, subst}
use Rattle.std.proofs.Common.{arith, nat_le, refl}
use Rattle.std.proofs.lemmas.Bool.{and_parts}
use Rattle.std.proofs.lemmas.Bool.Decides.{nat_tests}
use Rattle.std.specs.List.{list_all}
use Rattle.tables.specs.Roster.{face_of}
use Rattle.events.specs.declared.event.Event.{Event}
use Rattle.history.specs.Laws.{AreAsked, FirstIsCheapest}
use Rattle.totals.specs.LookBack.{Game, is_sold, sv_price_of, first_unsold, cheapest_of}
use Rattle.history.specs.Sound.{IsSound}
use Rattle.tables.specs.declared.roster.Private.{Private}
use Rattle.tables.specs.declared.roster.Private.TheVariants.{SchuylkillValley, ChamplainStLawrence, DelawareHudson}
use Rattle.tables.specs.declared.roster.Private.TheVariants.{MohawkHudson, CamdenAmboy, BaltimoreOhio}

module _ (events : List Event) (price : Private → ℕ) where
  -- each of these privates costs no more
  abbrev AllAtMost : ℕ → List Private → Type 0
  AllAtMost most [] = Unit {0}
  AllAtMost most (private ∷ privates) = (price private ≤ most) × AllAtMost most privates

  -- either this private is the first, or a later one is
  this_or_later : (sold : Bool) (this first : Private) (later : Option Private) (most : ℕ)
      → cond sold later (Some this) ≡ Some first → price this ≤ most → (later ≡ Some first → price first ≤ most)
      → price first ≤ most
  this_or_later false this first later most is low later_low = let same : this ≡ first =
      cc in subst (λ private. price private ≤ most) same low
  this_or_later true this first later most is low later_low = later_low is

  -- the first that is unsold comes before an unsold one, or is that one
  first_before : (prefix : List Private) (other : Private) (rest : List Private) (first : Private)
      → is_sold events other ≡ false → AllAtMost (price other) prefix
      → first_unsold (is_sold events) (prefix ++ other ∷ rest) ≡ Some first → price first ≤ price other
  first_before [] other rest first unsold low is =
      let here : Some other ≡ Some first = subst (λ sold. cond sold (first_unsold (is_sold events) rest) (Some other)
      ≡ Some first) unsold is in
      let same : other ≡ first = cc in
      subst (λ private. price private ≤ price other) same (omega arith)
  first_before (private ∷ prefix) other rest first unsold low is =
      this_or_later (is_sold events private) private first (first_unsold (is_sold events) (prefix ++ other ∷ rest))
      (price other) is low.0 (first_before prefix other rest first unsold low.1)

module _ (game : Game) (price : Private → ℕ) (sound : IsSound game) (asked : AreAsked game price) where
  -- no private costs more than its face
  low : (private : Private) → price private ≤ face_of private
  low SchuylkillValley =
      let five : (sv_price_of game.events ≡ 20) ⊎ (sv_price_of game.events ≡ 15) ⊎ (sv_price_of game.events ≡ 10)
      ⊎ (sv_price_of game.events ≡ 5) ⊎ (sv_price_of game.events ≡ 0) = sound.price in
      omega (arith, asked.of_sv)
  low other = omega (arith, asked.of_others other (λ same. cc))

  -- so each of these costs no more than one that is not SV, if its face is no greater
  all_low : (other : Private) (some : List Private) → price other ≡ face_of other
      → list_all (λ private. nat_le (face_of private) (face_of other)) some ≡ true
      → AllAtMost game.events price (price other) some
  all_low other [] full none = tt
  all_low other (private ∷ some) full each =
      let parts = and_parts (nat_le (face_of private) (face_of other)) _ each in
      let face : face_of private ≤ face_of other = grind (arith, nat_tests) in
      (omega (arith, low private), all_low other some full parts.1)

  -- so does the first that is unsold of some that begin with those
  low_before : (prefix : List Private) (other : Private) (rest : List Private) (first : Private)
      → price other ≡ face_of other → list_all (λ private. nat_le (face_of private) (face_of other)) prefix ≡ true
      → is_sold game.events other ≡ false → first_unsold (is_sold game.events) (prefix ++ other ∷ rest) ≡ Some first
      → price first ≤ price other
  low_before prefix other rest first full none unsold is =
      first_before game.events price prefix other rest first unsold (all_low other prefix full none) is

  -- by the place of the other private
  by_place : (first other : Private) → cheapest_of game.events ≡ Some first → is_sold game.events other ≡ false
      → price first ≤ price other
  by_place first SchuylkillValley is unsold = first_before game.events price [] SchuylkillValley
      (ChamplainStLawrence ∷ DelawareHudson ∷ MohawkHudson ∷ CamdenAmboy ∷ BaltimoreOhio ∷ []) first unsold tt is
  by_place first ChamplainStLawrence is unsold =
      low_before (SchuylkillValley ∷ []) ChamplainStLawrence
      (DelawareHudson ∷ MohawkHudson ∷ CamdenAmboy ∷ BaltimoreOhio ∷ []) first
      (asked.of_others ChamplainStLawrence (λ same. cc)) refl unsold is
  by_place first DelawareHudson is unsold =
      low_before (SchuylkillValley ∷ ChamplainStLawrence ∷ []) DelawareHudson
      (MohawkHudson ∷ CamdenAmboy ∷ BaltimoreOhio ∷ []) first (asked.of_others DelawareHudson (λ same. cc)) refl
      unsold is
  by_place first MohawkHudson is unsold =
      low_before (SchuylkillValley ∷ ChamplainStLawrence ∷ DelawareHudson ∷ []) MohawkHudson
      (CamdenAmboy ∷ BaltimoreOhio ∷ []) first (asked.of_others MohawkHudson (λ same. cc)) refl unsold is
  by_place first CamdenAmboy is unsold =
      low_before (SchuylkillValley ∷ ChamplainStLawrence ∷ DelawareHudson ∷ MohawkHudson ∷ []) CamdenAmboy
      (BaltimoreOhio ∷ []) first (asked.of_others CamdenAmboy (λ same. cc)) refl unsold is
  by_place first BaltimoreOhio is unsold =
      low_before (SchuylkillValley ∷ ChamplainStLawrence ∷ DelawareHudson ∷ MohawkHudson ∷ CamdenAmboy ∷ [])
      BaltimoreOhio [] first (asked.of_others BaltimoreOhio (λ same. cc)) refl unsold is

-- the law of the cheapest private
pub first_is_cheapest_law : FirstIsCheapest
first_is_cheapest_law game price first other sound asked is unsold =
    by_place game price sound asked first other is unsold
