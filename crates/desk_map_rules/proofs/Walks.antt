-- The first rule that a run breaks tells whether there is track along its places: that there is none comes first.
use Rattle.std.proofs.Common.{◌≡◌, ℕ, Bool, true, false, List, [], ◌∷◌, Option, Some, None, is_none, unwrap_or, refl}
use Rattle.desk_map_rules.specs.RunTrack.{is_no_track}
use Rattle.legal_runs.specs.Fault.{rules_of_walk, run_fault, tested_run_rule}
use Rattle.legal_runs.specs.Named.{walk_named}
use Rattle.map_tables.specs.declared.place.Place.{Place}
use Rattle.map_tables.specs.declared.rules.RunRule.{RunRule}
use Rattle.map_tables.specs.declared.rules.RunRule.TheVariants as of_run
use Rattle.reach.specs.Position.{Position}
use Rattle.reach.specs.declared.walk.WalkStep.{WalkStep}
use Rattle.tables.specs.Rules.{first_broken}
use Rattle.tables.specs.declared.rolling_stock.Kind.{Kind}
use Rattle.tables.specs.declared.roster.Company.{Company}

-- no rule of a walk says that there is no track
of_walk : (rule : RunRule) (number stop border full own red : Bool)
    → first_broken (tested_run_rule of_run.WrongNumber number ∷ tested_run_rule of_run.StopTwice stop
    ∷ tested_run_rule of_run.BorderTwice border ∷ tested_run_rule of_run.PassesFull full
    ∷ tested_run_rule of_run.NoToken own ∷ tested_run_rule of_run.RedInside red ∷ []) ≡ Some rule
    → is_no_track rule ≡ false
of_walk rule true stop border full own red is = cc
of_walk rule false true border full own red is = cc
of_walk rule false false true full own red is = cc
of_walk rule false false false true own red is = cc
of_walk rule false false false false true red is = cc
of_walk rule false false false false false true is = cc
of_walk rule false false false false false false is = absurd cc

-- the first rule of a walk, if there is one
told : (position : Position) (company : Company) (kind : Kind) (used : List ℕ) (walk : Option (List WalkStep))
    (rule : RunRule) → first_broken (tested_run_rule of_run.NoTrack (is_none walk)
    ∷ rules_of_walk position company kind used (unwrap_or walk [])) ≡ Some rule → is_no_track rule ≡ is_none walk
told position company kind used None rule is = cc
told position company kind used (Some steps) rule is = of_walk rule _ _ _ _ _ _ is

-- the first rule that a run breaks says that there is no track exactly if there is none
pub walk_told : (position : Position) (company : Company) (kind : Kind) (used : List ℕ) (places : List Place)
    (rule : RunRule) → run_fault position company kind used places ≡ Some rule
    → is_no_track rule ≡ is_none (walk_named position places)
walk_told position company kind used places rule is =
    told position company kind used (walk_named position places) rule is

there : (position : Position) (company : Company) (kind : Kind) (used : List ℕ) (walk : Option (List WalkStep))
    → first_broken (tested_run_rule of_run.NoTrack (is_none walk)
    ∷ rules_of_walk position company kind used (unwrap_or walk [])) ≡ None → is_none walk ≡ false
there position company kind used None is = absurd cc
there position company kind used (Some steps) is = refl

-- a run that breaks no rule has track
pub walk_there : (position : Position) (company : Company) (kind : Kind) (used : List ℕ) (places : List Place)
    → run_fault position company kind used places ≡ None → is_none (walk_named position places) ≡ false
walk_there position company kind used places is = there position company kind used (walk_named position places) is
