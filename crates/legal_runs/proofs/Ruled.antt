-- What a tally says of a run is what the table of rules says.
use Rattle.std.specs.Prelude.{unwrap_or}
use Rattle.std.proofs.Common.{◌≡◌, ℕ, ◌≤◌, Bool, not, Option, Some, None, option_map, is_none, List, [], ◌∷◌, length}
use Rattle.std.proofs.Common.{refl, ap, sym, ◌∙◌}
use Rattle.map_tables.specs.declared.place.Place.{Place}
use Rattle.reach.specs.Position.{Position}
use Rattle.reach.specs.declared.walk.WalkStep.{WalkStep}
use Rattle.tables.specs.Rules.{first_broken}
use Rattle.tables.specs.declared.rolling_stock.Kind.{Kind}
use Rattle.tables.specs.declared.roster.Company.{Company}
use Rattle.legal_runs.specs.Fault.{is_wrong_number, named_steps, rules_of_walk, run_fault, tested_run_rule}
use Rattle.legal_runs.specs.Legal.{crossed, earned}
use Rattle.legal_runs.specs.Marks.{borders_used, marked}
use Rattle.legal_runs.specs.Named.{made_along, taken, walk_named}
use Rattle.legal_runs.specs.Tally.{counted, no_steps, tally_fault, tally_of}
use Rattle.map_tables.specs.declared.rules.RunRule.{RunRule}
use Rattle.map_tables.specs.declared.rules.RunRule.TheVariants.{NoTrack, WrongNumber, StopTwice, BorderTwice}
use Rattle.map_tables.specs.declared.rules.RunRule.TheVariants.{PassesFull, NoToken, RedInside}
use Rattle.legal_runs.specs.declared.tally.Tally.{Tally}
use Rattle.legal_runs.proofs.Along.{made_alike}
use Rattle.legal_runs.proofs.TallyOfWalk.{tally_keeps}

abbrev table : Kind → ℕ → Bool → Bool → Bool → Bool → Bool → Option RunRule
table kind stops twice border full own red =
    first_broken (tested_run_rule WrongNumber (is_wrong_number kind stops) ∷ tested_run_rule StopTwice twice ∷ tested_run_rule BorderTwice border
    ∷ tested_run_rule PassesFull full ∷ tested_run_rule NoToken (not own) ∷ tested_run_rule RedInside red ∷ [])

-- tables of the same tests find the same rule
same_table : (kind : Kind) (m n : ℕ) (a b c d e f g h i j : Bool) → m ≡ n → a ≡ b → c ≡ d → e ≡ f → g ≡ h → i ≡ j
    → table kind m a c e g i ≡ table kind n b d f h j
same_table kind m n a b c d e f g h i j stops twice border full own red =
    ap (λ k. table kind k a c e g i) stops ∙ ap (λ k. table kind n k c e g i) twice
    ∙ ap (λ k. table kind n b k e g i) border
    ∙ ap (λ k. table kind n b d k g i) full ∙ ap (λ k. table kind n b d f k i) own
    ∙ ap (λ k. table kind n b d f h k) red

module _ (position : Position) (company : Company) (used : List Bool) where
  -- the tally of a run is that of the walk that its places name
  made_is : (places : List Place) → made_along (counted position company) position (no_steps used) places
      ≡ option_map (tally_of position company used) (walk_named position places)
  made_is places =
      made_alike taken (counted position company) (tally_of position company used) (λ made step. refl) position []
      places

  -- no walk
  no_walk : (kind : Kind) (walk : Option (List WalkStep)) → option_map (tally_of position company used) walk ≡ None
      → first_broken (tested_run_rule NoTrack (is_none walk) ∷ rules_of_walk position company kind (borders_used used)
      (unwrap_or walk [])) ≡ Some NoTrack
  no_walk kind None is = refl
  no_walk kind (Some steps) is = cc

  pub no_track : (kind : Kind) (places : List Place)
      → made_along (counted position company) position (no_steps used) places ≡ None
      → run_fault position company kind (borders_used used) places ≡ Some NoTrack
  no_track kind places is = no_walk kind (walk_named position places) (sym (made_is places) ∙ is)

  -- the rules of a walk, by its tally
  walk_ruled : (kind : Kind) → 279 ≤ length used → (steps : List WalkStep)
      → first_broken (rules_of_walk position company kind (borders_used used) steps)
      ≡ tally_fault kind (tally_of position company used steps)
  walk_ruled kind whole steps =
      let kept = tally_keeps position company used whole steps in
      same_table kind _ _ _ _ _ _ _ _ _ _ _ _ (sym kept.stops_are) (sym kept.stop_twice_is) (sym kept.border_twice_is)
      (sym kept.full_is) (sym kept.own_is) (sym kept.red_is)

  some_is : (tally other : Tally) → Some tally ≡ Some other → tally ≡ other
  some_is tally other is = cc

  ruled_by : (kind : Kind) → 279 ≤ length used → (walk : Option (List WalkStep)) (tally : Tally)
      → option_map (tally_of position company used) walk ≡ Some tally
      → first_broken (tested_run_rule NoTrack (is_none walk) ∷ rules_of_walk position company kind (borders_used used)
      (unwrap_or walk [])) ≡ tally_fault kind tally
  ruled_by kind whole None tally is = cc
  ruled_by kind whole (Some steps) tally is =
      walk_ruled kind whole steps ∙ ap (tally_fault kind) (some_is (tally_of position company used steps) tally is)

  -- the first rule that a run breaks, by its tally
  pub ruled : (kind : Kind) → 279 ≤ length used → (places : List Place) (tally : Tally)
      → made_along (counted position company) position (no_steps used) places ≡ Some tally
      → run_fault position company kind (borders_used used) places ≡ tally_fault kind tally
  ruled kind whole places tally is =
      ruled_by kind whole (walk_named position places) tally (sym (made_is places) ∙ is)

  earned_by : 279 ≤ length used → (walk : Option (List WalkStep)) (tally : Tally)
      → option_map (tally_of position company used) walk ≡ Some tally → tally.value ≡ earned position (unwrap_or walk [])
  earned_by whole None tally is = cc
  earned_by whole (Some steps) tally is =
      ap (λ (t : Tally). t.value) (sym (some_is (tally_of position company used steps) tally is))
      ∙ (let kept = tally_keeps position company used whole steps in kept.value_is)

  -- what a run earns, by its tally
  pub value_kept : 279 ≤ length used → (places : List Place) (tally : Tally)
      → made_along (counted position company) position (no_steps used) places ≡ Some tally
      → tally.value ≡ earned position (named_steps position places)
  value_kept whole places tally is = earned_by whole (walk_named position places) tally (sym (made_is places) ∙ is)

  crossed_by : 279 ≤ length used → (walk : Option (List WalkStep)) (tally : Tally)
      → option_map (tally_of position company used) walk ≡ Some tally
      → tally.crossed ≡ marked used (crossed (unwrap_or walk []))
  crossed_by whole None tally is = cc
  crossed_by whole (Some steps) tally is =
      ap (λ (t : Tally). t.crossed) (sym (some_is (tally_of position company used steps) tally is))
      ∙ (let kept = tally_keeps position company used whole steps in kept.crossed_is)

  -- the borders of a run, by its tally
  pub crossed_kept : 279 ≤ length used → (places : List Place) (tally : Tally)
      → made_along (counted position company) position (no_steps used) places ≡ Some tally
      → tally.crossed ≡ marked used (crossed (named_steps position places))
  crossed_kept whole places tally is = crossed_by whole (walk_named position places) tally (sym (made_is places) ∙ is)
