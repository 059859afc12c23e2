-- A few steps that are copied one after another, and one more after them.
use Rattle.std.proofs.Common.{◌≡◌, ℕ, suc, ◌+◌, ◌-◌, ◌<◌, ◌≤◌, List, [], ◌∷◌, ◌++◌, length, get_or, replicate, set}
use Rattle.std.proofs.Common.{take, refl, sym, ap, ◌∙◌, arith}
use Rattle.std.proofs.lemmas.List.{length-take-le, take_all, take_more}
use Rattle.reach.specs.declared.walk.WalkStep.{WalkStep}

set_in_prefix : (steps : List WalkStep) (n : ℕ) (step last : WalkStep)
    → set (steps ++ replicate (suc n) last) (length steps) step ≡ steps ++ step ∷ replicate n last
set_in_prefix [] n step last = refl
set_in_prefix (first ∷ steps) n step last = ap (λ others. first ∷ others) (set_in_prefix steps n step last)

together : (steps others : List WalkStep) (step : WalkStep) → (steps ++ step ∷ []) ++ others ≡ steps ++ step ∷ others
together [] others step = refl
together (first ∷ steps) others step = ap (λ more. first ∷ more) (together steps others step)

-- one more is copied
pub copy_next : (first few : List WalkStep) (place : ℕ) (last none : WalkStep) → place < length first → place < 4
    → few ≡ take place first ++ replicate (4 - place) last
    → set few place (get_or first place none) ≡ take (place + 1) first ++ replicate (4 - (place + 1)) last
copy_next first few place last none low fits before =
    let step : WalkStep = get_or first place none in
    let n : ℕ = 3 - place in
    let some : 4 - place ≡ suc n = omega (arith, fits) in
    let rest : n ≡ 4 - (place + 1) = omega (arith, fits) in
    let long : length (take place first) ≡ place = length-take-le place first (omega (arith, low)) in
    let taken : take (place + 1) first ≡ take place first ++ step ∷ [] = take_more first place none low in
    ap (λ (steps : List WalkStep). set steps place step)
    (before ∙ ap (λ (m : ℕ). take place first ++ replicate m last) some)
    ∙ (ap (λ (i : ℕ). set (take place first ++ replicate (suc n) last) i step) (sym long)
    ∙ (set_in_prefix (take place first) n step last
    ∙ (sym (together (take place first) (replicate n last) step)
    ∙ (ap (λ (steps : List WalkStep). steps ++ replicate n last) (sym taken)
    ∙ ap (λ (m : ℕ). take (place + 1) first ++ replicate m last) rest))))

take_one : (steps : List WalkStep) (n : ℕ) (last : WalkStep)
    → take (suc (length steps)) (steps ++ replicate (suc n) last) ≡ steps ++ last ∷ []
take_one [] n last = refl
take_one (first ∷ steps) n last = ap (λ more. first ∷ more) (take_one steps n last)

none_behind : (steps : List WalkStep) → steps ++ [] ≡ steps
none_behind [] = refl
none_behind (first ∷ steps) = ap (λ more. first ∷ more) (none_behind steps)

-- all are copied
pub copy_all : (first few others : List WalkStep) (place count : ℕ) (last : WalkStep) → length first ≤ place
    → place ≤ length first → place < 4 → count ≡ length first + 1 → others ≡ []
    → few ≡ take place first ++ replicate (4 - place) last → take count few ++ others ≡ first ++ last ∷ []
copy_all first few others place count last all low fits counts none are =
    let n : ℕ = 3 - place in
    let some : 4 - place ≡ suc n = omega (arith, fits) in
    let one_more : count ≡ suc (length first) = omega (arith, counts) in
    let few_are : few ≡ first ++ replicate (suc n) last =
    are ∙ (ap (λ (m : ℕ). take place first ++ replicate m last) some
    ∙ ap (λ (steps : List WalkStep). steps ++ replicate (suc n) last) (take_all place first all)) in
    ap (λ (steps : List WalkStep). take count few ++ steps) none
    ∙ (none_behind (take count few)
    ∙ (ap (take count) few_are
    ∙ (ap (λ (m : ℕ). take m (first ++ replicate (suc n) last)) one_more ∙ take_one first n last)))
