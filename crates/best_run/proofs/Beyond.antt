-- What the stops ahead are worth beyond a level: where one more lies ahead, and where fewer do.
use Rattle.std.proofs.Common.{◌≡◌, ℕ, zero, suc, ◌+◌, ◌-◌, ◌*◌, ◌<◌, ◌≤◌, max, Bool, true, false, Some, List, [], ◌∷◌}
use Rattle.std.proofs.Common.{length, get_or, set, slice_get, replicate, refl, sym, ap, subst, ◌∙◌, arith}
use Rattle.search_task.specs.declared.task.Node.{Node}
use Rattle.search_task.specs.declared.task.Task.{Task}
use Rattle.best_run.specs.declared.state.PartialRun.{PartialRun}
use Rattle.best_run.specs.declared.value_ahead.Worth.{Worth}
use Rattle.best_run.specs.Ahead.{HasPassed, HasRanked, IsLeast, IsWorth, beyond, ends_by, goes_back, goes_on, if_ending}
use Rattle.best_run.specs.Ahead.{if_passed, most_ahead, one_end, two_ends}
use Rattle.search_task.specs.Fit.{IsFit}
use Rattle.search_task.specs.Spots.{ends_in, node_at, value_in}
use Rattle.search_task.proofs.Booleans.{not_both}

-- a spot is worth at most 80 dollars
pub worth_low : (task : Task) → IsFit task → (spot : ℕ) (node : Node)
    → node_at task spot ≡ Some node → node.value ≤ 80
worth_low task fit spot node at = (fit.nodes spot node at).value

-- what a stop adds
abbrev passes : ℕ → Node → ℕ
passes level node = if_passed node.ends (node.value - level)

abbrev ends : ℕ → Node → ℕ
ends level node = if_ending node.ends (node.value - level)

pub same_node : (first node : Node) → Some first ≡ Some node → first ≡ node
same_node first node at = cc

-- one more stop lies ahead
beyond_more : (level : ℕ) (nodes : List Node) (ahead : List Bool) (n : ℕ) (node : Node)
    → slice_get nodes n ≡ Some node → get_or ahead n false ≡ false → n < length ahead
    → beyond level nodes (set ahead n true) ≡ passes level node + beyond level nodes ahead
beyond_more level [] ahead zero node at free low = absurd cc
beyond_more level [] ahead (suc n) node at free low = absurd cc
beyond_more level (first ∷ nodes) [] n node at free low = absurd (omega arith)
beyond_more level (first ∷ nodes) (true ∷ ahead) zero node at free low = absurd (not_both true refl free)
beyond_more level (first ∷ nodes) (false ∷ ahead) zero node at free low =
    ap (λ (x : Node). passes level x + beyond level nodes ahead) (same_node first node at)
beyond_more level (first ∷ nodes) (true ∷ ahead) (suc n) node at free low =
    omega (arith, beyond_more level nodes ahead n node at free (omega arith))
beyond_more level (first ∷ nodes) (false ∷ ahead) (suc n) node at free low =
    beyond_more level nodes ahead n node at free (omega arith)

one_more : (level : ℕ) (nodes : List Node) (ahead : List Bool) (n : ℕ) (node : Node) → slice_get nodes n ≡ Some node
    → one_end level nodes (set ahead n true) ≤ max (one_end level nodes ahead) (ends level node)
one_more level [] ahead zero node at = absurd cc
one_more level [] ahead (suc n) node at = absurd cc
one_more level (first ∷ nodes) [] n node at = omega arith
one_more level (first ∷ nodes) (true ∷ ahead) zero node at = omega arith
one_more level (first ∷ nodes) (false ∷ ahead) zero node at =
    let same : ends level first ≡ ends level node =
    ap (λ (x : Node). ends level x) (same_node first node at) in omega arith
one_more level (first ∷ nodes) (true ∷ ahead) (suc n) node at = omega (arith, one_more level nodes ahead n node at)
one_more level (first ∷ nodes) (false ∷ ahead) (suc n) node at = one_more level nodes ahead n node at

two_more : (level : ℕ) (nodes : List Node) (ahead : List Bool) (n : ℕ) (node : Node) → slice_get nodes n ≡ Some node
    → two_ends level nodes (set ahead n true) ≤ max (two_ends level nodes ahead)
    (ends level node + one_end level nodes ahead)
two_more level [] ahead zero node at = absurd cc
two_more level [] ahead (suc n) node at = absurd cc
two_more level (first ∷ nodes) [] n node at = omega arith
two_more level (first ∷ nodes) (true ∷ ahead) zero node at = omega arith
two_more level (first ∷ nodes) (false ∷ ahead) zero node at =
    let same : ends level first ≡ ends level node =
    ap (λ (x : Node). ends level x) (same_node first node at) in omega arith
two_more level (first ∷ nodes) (true ∷ ahead) (suc n) node at =
    omega (arith, two_more level nodes ahead n node at, one_more level nodes ahead n node at)
two_more level (first ∷ nodes) (false ∷ ahead) (suc n) node at = two_more level nodes ahead n node at

-- it may be passed, and what is known is brought up to date
pub worth_passed : (nodes : List Node) (ahead : List Bool) (n : ℕ) (node : Node) (old new : Worth)
    → slice_get nodes n ≡ Some node → node.ends ≡ false → get_or ahead n false ≡ false → n < length ahead
    → HasPassed node.value old new → IsWorth nodes ahead old → IsWorth nodes (set ahead n true) new
worth_passed nodes ahead n node old new at passed free low has known =
    record {
      levels = omega (arith, known.levels, has.levels);
      few = omega (arith, known.few, has.levels);
      passed = λ place less.
          let small : place < old.levels = omega (arith, less, has.levels) in
          let more = beyond_more (10 * place) nodes ahead n node at free low in
          let adds : passes (10 * place) node ≡ node.value - 10 * place =
          ap (λ (b : Bool). if_passed b (node.value - 10 * place)) passed in
          omega (arith, more, adds, has.each place small, known.passed place small);
      one = λ level.
          let none : ends level node ≡ 0 = ap (λ (b : Bool). if_ending b (node.value - level)) passed in
          omega (arith, one_more level nodes ahead n node at, none, known.one level, has.first);
      two = λ level.
          let none : ends level node ≡ 0 = ap (λ (b : Bool). if_ending b (node.value - level)) passed in
          omega (
            arith,
            two_more level nodes ahead n node at,
            none,
            known.one level,
            known.two level,
            has.first,
            has.second,
          );
      order = omega (arith, known.order, has.first, has.second);
      low = omega (arith, known.low, has.first);
    }

-- runs end there
pub worth_ended : (nodes : List Node) (ahead : List Bool) (n : ℕ) (node : Node) (old new : Worth)
    → slice_get nodes n ≡ Some node → node.ends ≡ true → node.value ≤ 80 → get_or ahead n false ≡ false
    → n < length ahead → HasRanked node.value old new → IsWorth nodes ahead old → IsWorth nodes (set ahead n true) new
worth_ended nodes ahead n node old new at ending value free low has known =
    record {
      levels = omega (arith, known.levels, has.levels);
      few = omega (arith, known.few, has.levels);
      passed = λ place less.
          let small : place < old.levels = omega (arith, less, has.levels) in
          let more = beyond_more (10 * place) nodes ahead n node at free low in
          let none : passes (10 * place) node ≡ 0 = ap (λ (b : Bool). if_passed b (node.value - 10 * place)) ending in
          let same : get_or new.beyond place 0 ≡ get_or old.beyond place 0 =
          ap (λ (xs : List ℕ). get_or xs place 0) has.same in
          omega (arith, more, none, same, known.passed place small);
      one = λ level.
          let all : ends level node ≡ node.value - level = ap (λ (b : Bool). if_ending b (node.value - level)) ending in
          omega (
            arith,
            one_more level nodes ahead n node at,
            all,
            known.one level,
            (has.one level).0,
            (has.one level).1,
          );
      two = λ level.
          let all : ends level node ≡ node.value - level = ap (λ (b : Bool). if_ending b (node.value - level)) ending in
          omega (
            arith,
            two_more level nodes ahead n node at,
            all,
            known.one level,
            known.two level,
            (has.two level).0,
            (has.two level).1,
          );
      order = has.order;
      low = has.low 80 known.low value;
    }

-- nothing lies ahead
beyond_nothing : (level : ℕ) (nodes : List Node) (n : ℕ) → beyond level nodes (replicate n false) ≡ 0
beyond_nothing level [] n = refl
beyond_nothing level (node ∷ nodes) zero = refl
beyond_nothing level (node ∷ nodes) (suc n) = beyond_nothing level nodes n

one_nothing : (level : ℕ) (nodes : List Node) (n : ℕ) → one_end level nodes (replicate n false) ≡ 0
one_nothing level [] n = refl
one_nothing level (node ∷ nodes) zero = refl
one_nothing level (node ∷ nodes) (suc n) = one_nothing level nodes n

two_nothing : (level : ℕ) (nodes : List Node) (n : ℕ) → two_ends level nodes (replicate n false) ≡ 0
two_nothing level [] n = refl
two_nothing level (node ∷ nodes) zero = refl
two_nothing level (node ∷ nodes) (suc n) = two_nothing level nodes n

pub worth_nothing : (nodes : List Node) (count : ℕ) (worth : Worth) → 0 < worth.levels → worth.levels ≤ 9
    → ((place : ℕ) → get_or worth.beyond place 0 ≡ 0) → worth.first ≡ 0 → worth.second ≡ 0
    → IsWorth nodes (replicate count false) worth
worth_nothing nodes count worth levels few each first second =
    record {
      levels = levels;
      few = few;
      passed = λ place small. each place ∙ sym (beyond_nothing (10 * place) nodes count);
      one = λ level. omega (arith, one_nothing level nodes count);
      two = λ level. omega (arith, two_nothing level nodes count);
      order = omega (arith, first, second);
      low = omega (arith, first);
    }

-- stops that are worth at most 80 dollars each
pass_low : (b : Bool) (more : ℕ) → if_passed b more ≤ more
pass_low true more = omega arith
pass_low false more = omega arith

pub most_of : (level : ℕ) (nodes : List Node) (ahead : List Bool)
    → ((n : ℕ) (node : Node) → slice_get nodes n ≡ Some node → node.value ≤ 80)
    → beyond level nodes ahead ≤ 80 * length nodes
most_of level [] ahead low = omega arith
most_of level (node ∷ nodes) [] low = omega arith
most_of level (node ∷ nodes) (true ∷ ahead) low =
    omega (
      arith,
      pass_low node.ends (node.value - level),
      low 0 node refl,
      most_of level nodes ahead
          (λ n other at. low (suc n) other at),
    )
most_of level (node ∷ nodes) (false ∷ ahead) low =
    omega (arith, most_of level nodes ahead (λ n other at. low (suc n) other at))

pub worth_most : (task : Task) → IsFit task → (ahead : List Bool) (worth : Worth)
    → IsWorth task.spots.items ahead worth → (place : ℕ) → place < worth.levels → get_or worth.beyond place 0 ≤ 59520
worth_most task fit ahead worth known place small =
    omega (
      arith,
      fit.all,
      known.passed place small,
      most_of (10 * place) task.spots.items ahead
          (λ n node at. (fit.nodes n node at).value),
    )

-- all that is marked in the first is marked in the second
abbrev pub Within : List Bool → List Bool → Type 0
Within [] others = Unit {0}
Within (mark ∷ marks) [] = ⊥
Within (mark ∷ marks) (other ∷ others) = (mark ≡ true → other ≡ true) × Within marks others

-- where fewer stops lie ahead, they are worth no more
pub record IsLess (level : ℕ) (nodes : List Node) (marks others : List Bool) : Type 0 where
  pub passed : beyond level nodes marks ≤ beyond level nodes others
  pub one : one_end level nodes marks ≤ one_end level nodes others
  pub two : two_ends level nodes marks ≤ two_ends level nodes others

pub worth_less : (level : ℕ) (nodes : List Node) (marks others : List Bool) → Within marks others
    → IsLess level nodes marks others
worth_less level [] marks others within = record { passed = omega arith; one = omega arith; two = omega arith }
worth_less level (node ∷ nodes) [] others within = record { passed = omega arith; one = omega arith; two = omega arith }
worth_less level (node ∷ nodes) (mark ∷ marks) [] within = absurd within
worth_less level (node ∷ nodes) (true ∷ marks) (true ∷ others) within =
    let rest = worth_less level nodes marks others within.1 in
    record {
      passed = omega (arith, rest.passed);
      one = omega (arith, rest.one);
      two = omega (arith, rest.two, rest.one);
    }
worth_less level (node ∷ nodes) (true ∷ marks) (false ∷ others) within = absurd (not_both false (within.0 refl) refl)
worth_less level (node ∷ nodes) (false ∷ marks) (true ∷ others) within =
    let rest = worth_less level nodes marks others within.1 in
    record { passed = omega (arith, rest.passed); one = omega (arith, rest.one); two = omega (arith, rest.two) }
worth_less level (node ∷ nodes) (false ∷ marks) (false ∷ others) within =
    let rest = worth_less level nodes marks others within.1 in
    record { passed = rest.passed; one = rest.one; two = rest.two }

-- one is worth no more than two
pub one_two : (level : ℕ) (nodes : List Node) (ahead : List Bool)
    → one_end level nodes ahead ≤ two_ends level nodes ahead
one_two level [] ahead = omega arith
one_two level (node ∷ nodes) [] = omega arith
one_two level (node ∷ nodes) (true ∷ ahead) = omega (arith, one_two level nodes ahead)
one_two level (node ∷ nodes) (false ∷ ahead) = one_two level nodes ahead

-- a stop ahead lies ahead no more
pub unset_within : (marks : List Bool) (n : ℕ) → Within (set marks n false) marks
unset_within [] n = tt
unset_within (mark ∷ marks) zero = ((λ wrong. absurd (not_both false wrong refl)), same_within marks)
  where
    same_within : (marks : List Bool) → Within marks marks
    same_within [] = tt
    same_within (mark ∷ marks) = ((λ is. is), same_within marks)
unset_within (mark ∷ marks) (suc n) = ((λ is. is), unset_within marks n)

pub beyond_spent : (level : ℕ) (nodes : List Node) (marks : List Bool) (n : ℕ) → get_or marks n false ≡ true
    → if_passed (ends_in (slice_get nodes n)) (value_in (slice_get nodes n) - level)
    + beyond level nodes (set marks n false) ≤ beyond level nodes marks
beyond_spent level [] marks zero is = omega arith
beyond_spent level [] marks (suc n) is = omega arith
beyond_spent level (node ∷ nodes) [] n is = absurd (not_both false is refl)
beyond_spent level (node ∷ nodes) (true ∷ marks) zero is = omega arith
beyond_spent level (node ∷ nodes) (false ∷ marks) zero is = absurd (not_both false is refl)
beyond_spent level (node ∷ nodes) (true ∷ marks) (suc n) is = omega (arith, beyond_spent level nodes marks n is)
beyond_spent level (node ∷ nodes) (false ∷ marks) (suc n) is = beyond_spent level nodes marks n is

pub one_spent : (level : ℕ) (nodes : List Node) (marks : List Bool) (n : ℕ) → get_or marks n false ≡ true
    → if_ending (ends_in (slice_get nodes n)) (value_in (slice_get nodes n) - level) ≤ one_end level nodes marks
one_spent level [] marks zero is = omega arith
one_spent level [] marks (suc n) is = omega arith
one_spent level (node ∷ nodes) [] n is = absurd (not_both false is refl)
one_spent level (node ∷ nodes) (true ∷ marks) zero is = omega arith
one_spent level (node ∷ nodes) (false ∷ marks) zero is = absurd (not_both false is refl)
one_spent level (node ∷ nodes) (true ∷ marks) (suc n) is = omega (arith, one_spent level nodes marks n is)
one_spent level (node ∷ nodes) (false ∷ marks) (suc n) is = one_spent level nodes marks n is

pub two_spent : (level : ℕ) (nodes : List Node) (marks : List Bool) (n : ℕ) → get_or marks n false ≡ true
    → if_ending (ends_in (slice_get nodes n)) (value_in (slice_get nodes n) - level)
    + one_end level nodes (set marks n false) ≤ two_ends level nodes marks
two_spent level [] marks zero is = omega arith
two_spent level [] marks (suc n) is = omega arith
two_spent level (node ∷ nodes) [] n is = absurd (not_both false is refl)
two_spent level (node ∷ nodes) (true ∷ marks) zero is = omega arith
two_spent level (node ∷ nodes) (false ∷ marks) zero is = absurd (not_both false is refl)
two_spent level (node ∷ nodes) (true ∷ marks) (suc n) is =
    omega (arith, two_spent level nodes marks n is, one_spent level nodes marks n is)
two_spent level (node ∷ nodes) (false ∷ marks) (suc n) is = two_spent level nodes marks n is

-- what counts of the ends grows as they do
pub ends_less : (on back : Bool) (one two first second : ℕ) → one ≤ first → two ≤ second
    → ends_by on back one two ≤ ends_by on back first second
ends_less true true one two first second less both = both
ends_less true false one two first second less both = less
ends_less false true one two first second less both = less
ends_less false false one two first second less both = omega arith

-- what is known of the stops ahead bounds what a run may earn there
pub level_ahead : (task : Task) (nodes : List Node) (run : PartialRun) (ahead : List Bool) (worth : Worth)
    (on back : Bool) (most : ℕ) → IsWorth nodes ahead worth → goes_on task run ≡ on → goes_back task run ≡ back
    → IsLeast worth run.left on back most → (level : ℕ) × (most_ahead level task nodes run ahead ≤ most)
level_ahead task nodes run ahead worth on back most known is_on is_back least =
    let passed = known.passed least.0 least.1 in
    let counts = ends_less on back (one_end (10 * least.0) nodes ahead) (two_ends (10 * least.0) nodes ahead)
    (worth.first - 10 * least.0) ((worth.first - 10 * least.0) + (worth.second - 10 * least.0))
    (known.one (10 * least.0)) (known.two (10 * least.0)) in
    let sum : (run.left * (10 * least.0) + beyond (10 * least.0) nodes ahead)
    + ends_by on back (one_end (10 * least.0) nodes ahead) (two_ends (10 * least.0) nodes ahead) ≤ most =
    omega (arith, passed, counts, least.2) in (
      10 * least.0,
      subst (λ (b : Bool). (run.left * (10 * least.0) + beyond (10 * least.0) nodes ahead)
          + ends_by b (goes_back task run) (one_end (10 * least.0) nodes ahead) (two_ends (10 * least.0) nodes ahead)
          ≤ most) (sym is_on)
          (subst (λ (b : Bool). (run.left * (10 * least.0) + beyond (10 * least.0) nodes ahead)
          + ends_by on b (one_end (10 * least.0) nodes ahead) (two_ends (10 * least.0) nodes ahead) ≤ most)
          (sym is_back) sum),
    )
