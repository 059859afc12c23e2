-- A path is read mark by mark and train by train: what all its marks give is what was read, and
-- what those give that are left.
use Rattle.std.proofs.Common.{◌≡◌, ℕ, zero, suc, ◌+◌, ◌<◌, Option, Some, None, Vec, List, [], ◌∷◌, ◌++◌, length, get_or}
use Rattle.std.proofs.Common.{set, map, reverse, take, drop, refl, sym, ap, subst, ◌∙◌, arith, add-one, drop-cons}
use Rattle.std.specs.Global.{Global}
use Rattle.std.specs.List.{AllByRecursion}
use Rattle.std.proofs.lemmas.Grind.{reverse_onto}
use Rattle.std.proofs.lemmas.List.{append_assoc, map-append, reverse-append}
use Rattle.reach.specs.declared.walk.WalkStep.{WalkStep}
use Rattle.tables.specs.declared.rolling_stock.Kind.{Kind}
use Rattle.legal_runs.specs.Set.{TrainRun}
use Rattle.legal_runs.specs.Written.{places_of}
use Rattle.legal_runs.specs.declared.claim.ClaimedRun.{ClaimedRun}
use Rattle.best_run.specs.declared.move_path.Mark.{Mark}
use Rattle.best_run.specs.MovePath.{CanBeClaimed, IsWalkRead, after_walk, runs_of_marks, steps_of, turned_about}
use Rattle.best_run.specs.MovePath.{turned_step, walk_of_marks, with_run, written}

reversed_map : (xs : List WalkStep) → reverse (map turned_step xs) ≡ map turned_step (reverse xs)
reversed_map [] = refl
reversed_map (x ∷ xs) =
    reverse_onto (map turned_step xs) (turned_step x) []
    ∙ ap (λ steps. steps ++ turned_step x ∷ []) (reversed_map xs)
    ∙ sym (map-append turned_step (reverse xs) (x ∷ []))
    ∙ ap (map turned_step) (sym (reverse_onto xs x []))

-- a walk turned about in one order of its steps is turned about in the other
pub about_reversed : (walk : List WalkStep) → reverse (turned_about walk) ≡ turned_about (reverse walk)
about_reversed walk = reversed_map (reverse walk)

-- this many steps of a walk are taken the other way
abbrev pub turned_before : ℕ → List WalkStep → List WalkStep
turned_before n steps = map turned_step (take n steps) ++ drop n steps

pub turned_more :
    (all walk : List WalkStep) (i : ℕ) (d : WalkStep) → i < length all → walk ≡ turned_before i all →
    set walk i (turned_step (get_or walk i d)) ≡ turned_before (i + 1) all
turned_more all walk i d low is =
    subst (λ (w : List WalkStep). set w i (turned_step (get_or w i d)) ≡ turned_before (i + 1) all) (sym is)
    (by_place all i low ∙ ap (λ (n : ℕ). turned_before n all) (sym (add-one i)))
  where
    by_place :
        (xs : List WalkStep) (n : ℕ) → n < length xs →
        set (turned_before n xs) n (turned_step (get_or (turned_before n xs) n d)) ≡ turned_before (suc n) xs
    by_place [] n less = absurd (omega (arith, less))
    by_place (x ∷ xs) zero less = refl
    by_place (x ∷ xs) (suc n) less = ap (λ steps. turned_step x ∷ steps) (by_place xs n (omega (arith, less)))

-- the last mark of a path is the first one read
pub last_read : (all rest : List Mark) (mark : Mark) → all ≡ rest ++ mark ∷ [] → reverse all ≡ mark ∷ reverse rest
last_read all rest mark is = ap reverse is ∙ reverse-append rest (mark ∷ [])

-- the runs of some trains begin with that of the first one, if it runs
next_read :
    (kinds : List Kind) (i : ℕ) (d : Kind) (old new : List Mark) (walk : Option (Vec WalkStep Global)) → i < length kinds
    → IsWalkRead old new walk →
    runs_of_marks (drop i kinds) [] (reverse old) ≡ with_run (get_or kinds i d) (steps_of walk)
    (runs_of_marks (drop (i + 1) kinds) [] (reverse new))
next_read kinds i d old new walk low read =
    let kind = get_or kinds i d in
    let later : drop (suc i) kinds ≡ drop (i + 1) kinds = ap (λ (n : ℕ). drop n kinds) (sym (add-one i)) in
    ap (λ (ks : List Kind). runs_of_marks ks [] (reverse old)) (drop-cons kinds i d low)
    ∙ ap (λ (ks : List Kind). with_run kind (walk_of_marks [] (reverse old))
    (runs_of_marks ks [] (after_walk (reverse old)))) later
    ∙ ap (λ (w : Option (List WalkStep)). with_run kind w (runs_of_marks (drop (i + 1) kinds) []
    (after_walk (reverse old)))) (sym read.walk_is)
    ∙ ap (λ (ms : List Mark). with_run kind (steps_of walk) (runs_of_marks (drop (i + 1) kinds) [] ms)) (sym read.after)

-- where the first of them runs, it can be written in full, and so can the others
pub can_next :
    (kinds : List Kind) (i : ℕ) (d : Kind) (old new : List Mark) (walk : Option (Vec WalkStep Global))
    (steps : Vec WalkStep Global) → i < length kinds →
    IsWalkRead old new walk → walk ≡ Some steps → AllByRecursion CanBeClaimed
    (runs_of_marks (drop i kinds) [] (reverse old)) →
    CanBeClaimed (record { kind = get_or kinds i d; steps = steps.items })
    × AllByRecursion CanBeClaimed (runs_of_marks (drop (i + 1) kinds) [] (reverse new))
can_next kinds i d old new walk steps low read is can =
    let later = runs_of_marks (drop (i + 1) kinds) [] (reverse new) in
    subst (λ (w : Option (Vec WalkStep Global)). AllByRecursion CanBeClaimed
    (with_run (get_or kinds i d) (steps_of w) later)) is
    (subst (AllByRecursion CanBeClaimed) (next_read kinds i d old new walk low read) can)

-- where it does not, the others can
pub can_pass :
    (kinds : List Kind) (i : ℕ) (d : Kind) (old new : List Mark) (walk : Option (Vec WalkStep Global)) → i < length kinds
    → IsWalkRead old new walk →
    walk ≡ None → AllByRecursion CanBeClaimed (runs_of_marks (drop i kinds) [] (reverse old)) →
    AllByRecursion CanBeClaimed (runs_of_marks (drop (i + 1) kinds) [] (reverse new))
can_pass kinds i d old new walk low read is can =
    let later = runs_of_marks (drop (i + 1) kinds) [] (reverse new) in
    subst (λ (w : Option (Vec WalkStep Global)). AllByRecursion CanBeClaimed
    (with_run (get_or kinds i d) (steps_of w) later)) is
    (subst (AllByRecursion CanBeClaimed) (next_read kinds i d old new walk low read) can)

-- the first of them is claimed before the others
pub claims_next :
    (kinds : List Kind) (i : ℕ) (d : Kind) (old new : List Mark) (walk : Option (Vec WalkStep Global))
    (steps : Vec WalkStep Global)
    (runs all : List ClaimedRun) → i < length kinds → IsWalkRead old new walk → walk ≡ Some steps →
    runs ++ written (runs_of_marks (drop i kinds) [] (reverse old)) ≡ all →
    (runs ++ record { kind = get_or kinds i d; run = places_of steps.items } ∷ [])
    ++ written (runs_of_marks (drop (i + 1) kinds) [] (reverse new)) ≡ all
claims_next kinds i d old new walk steps runs all low read is so_far =
    let later = runs_of_marks (drop (i + 1) kinds) [] (reverse new) in
    append_assoc runs (record { kind = get_or kinds i d; run = places_of steps.items } ∷ []) (written later)
    ∙ ap (λ (w : Option (Vec WalkStep Global)). runs ++ written (with_run (get_or kinds i d) (steps_of w) later)) (sym is)
    ∙ ap (λ (runs_read : List TrainRun). runs ++ written runs_read) (sym (next_read kinds i d old new walk low read))
    ∙ so_far

pub claims_pass :
    (kinds : List Kind) (i : ℕ) (d : Kind) (old new : List Mark) (walk : Option (Vec WalkStep Global))
    (runs all : List ClaimedRun) → i < length kinds →
    IsWalkRead old new walk → walk ≡ None → runs ++ written (runs_of_marks (drop i kinds) [] (reverse old)) ≡ all →
    runs ++ written (runs_of_marks (drop (i + 1) kinds) [] (reverse new)) ≡ all
claims_pass kinds i d old new walk runs all low read is so_far =
    let later = runs_of_marks (drop (i + 1) kinds) [] (reverse new) in
    ap (λ (w : Option (Vec WalkStep Global)). runs ++ written (with_run (get_or kinds i d) (steps_of w) later)) (sym is)
    ∙ ap (λ (runs_read : List TrainRun). runs ++ written runs_read) (sym (next_read kinds i d old new walk low read))
    ∙ so_far
