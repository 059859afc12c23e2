-- The stops ahead as they count: one more that a run may pass, or at which it ends. At a stop that
-- is last it ends.
use Rattle.std.proofs.Common.{◌≡◌, ℕ, zero, suc, ◌+◌, ◌-◌, ◌*◌, ◌<◌, ◌≤◌, max, Bool, true, false, ◌⊎◌, inl, inr, Some}
use Rattle.std.proofs.Common.{List, [], ◌∷◌, length, get_or, set, slice_get, refl, sym, ap, subst, ◌∙◌, arith}
use Rattle.std.proofs.Common.{length-set}
use Rattle.reach.specs.Position.{IsAmong}
use Rattle.search_task.specs.declared.task.Node.{Node}
use Rattle.search_task.specs.declared.task.Task.{Task}
use Rattle.search_task.specs.declared.task.Leg.{Leg}
use Rattle.best_run.specs.declared.state.Assigned.{Assigned}
use Rattle.best_run.specs.declared.state.PartialRun.{PartialRun}
use Rattle.best_run.specs.declared.value_ahead.Worth.{Worth}
use Rattle.best_run.specs.Ahead.{HasPassed, HasRanked, HasTakenBack, IsLeast, IsWorth, beyond, goes_back, goes_on}
use Rattle.best_run.specs.Ahead.{if_ending, if_passed, one_end, two_ends}
use Rattle.search_task.specs.Fit.{BordersFit, IsFit}
use Rattle.best_run.specs.EndStops.{Counts, CountsAsPassed, EarnsAhead, EndsThere, HasWorth, IsLast}
use Rattle.search_task.specs.Spots.{ends_in, node_at, value_in}
use Rattle.search_task.specs.Crossed.{marked_all, misses}
use Rattle.search_task.specs.Legs.{legs_at}
use Rattle.search_task.proofs.Marked.{free_misses, marks_more, misses_free}
use Rattle.best_run.proofs.Beyond.{level_ahead, most_of, same_node, worth_ended, worth_passed}
use Rattle.search_task.proofs.Places.{value_low}
use Rattle.search_task.proofs.Booleans.{not_both}

-- a run that has reached a last stop by a leg goes on from there by none
pub last_stuck : (task : Task) (used now : List Bool) (stop place : ℕ) (leg : Leg) → IsLast task used leg.segment.to
    → slice_get (legs_at task stop) place ≡ Some leg → BordersFit leg.segment.borders.items → length now ≡ 279
    → misses used leg.segment.borders.items ≡ true → (index : ℕ) (other : Leg)
    → slice_get (legs_at task leg.segment.to) index ≡ Some other → misses used other.segment.borders.items ≡ true
    → misses (marked_all now leg.segment.borders.items) other.segment.borders.items ≡ true → ⊥
last_stuck task used now stop place leg last at fits whole missed index other is_found free left =
    let mirror = last.0 stop place leg at in
    let border = last.1.0 in
    let back : misses used mirror.back.segment.borders.items ≡ true =
    free_misses used mirror.back.segment.borders.items
    (λ b among marked. misses_free used leg.segment.borders.items missed b (mirror.within b among) marked) in
    let came : IsAmong border leg.segment.borders.items =
    mirror.within border (last.1.1 mirror.place mirror.back mirror.is_there back) in
    let goes : IsAmong border other.segment.borders.items = last.1.1 index other is_found free in
    misses_free (marked_all now leg.segment.borders.items) other.segment.borders.items left border goes
    ((marks_more now leg.segment.borders.items fits whole border).1 (inl came))

-- another node at a place
set_at : (nodes : List Node) (n m : ℕ) (node : Node) → n < length nodes
    → ((n ≡ m) × (slice_get (set nodes n node) m ≡ Some node)) ⊎ (slice_get (set nodes n node) m ≡ slice_get nodes m)
set_at [] n m node low = absurd (omega arith)
set_at (first ∷ nodes) zero zero node low = inl (refl, refl)
set_at (first ∷ nodes) zero (suc m) node low = inr refl
set_at (first ∷ nodes) (suc n) zero node low = inr refl
set_at (first ∷ nodes) (suc n) (suc m) node low =
    elim (set_at nodes n m node (omega arith)) [ inl here ↦ inl (ap suc here.0, here.1) | inr other ↦ inr other ]

set_here : (nodes : List Node) (n : ℕ) (node : Node) → n < length nodes → slice_get (set nodes n node) n ≡ Some node
set_here [] n node low = absurd (omega arith)
set_here (first ∷ nodes) zero node low = refl
set_here (first ∷ nodes) (suc n) node low = set_here nodes n node (omega arith)

-- the same one
set_same : (nodes : List Node) (n : ℕ) (node : Node) → slice_get nodes n ≡ Some node → set nodes n node ≡ nodes
set_same [] zero node at = absurd cc
set_same [] (suc n) node at = absurd cc
set_same (first ∷ nodes) zero node at = ap (λ (x : Node). x ∷ nodes) (sym (same_node first node at))
set_same (first ∷ nodes) (suc n) node at = ap (λ (xs : List Node). first ∷ xs) (set_same nodes n node at)

-- as long as it does not lie ahead, nothing changes
beyond_free : (level : ℕ) (nodes : List Node) (ahead : List Bool) (n : ℕ) (node : Node) → get_or ahead n false ≡ false
    → beyond level (set nodes n node) ahead ≡ beyond level nodes ahead
beyond_free level [] ahead n node free = refl
beyond_free level (first ∷ nodes) [] zero node free = refl
beyond_free level (first ∷ nodes) [] (suc n) node free = refl
beyond_free level (first ∷ nodes) (true ∷ ahead) zero node free = absurd (not_both true refl free)
beyond_free level (first ∷ nodes) (false ∷ ahead) zero node free = refl
beyond_free level (first ∷ nodes) (true ∷ ahead) (suc n) node free =
    ap (λ (x : ℕ). if_passed first.ends (first.value - level) + x) (beyond_free level nodes ahead n node free)
beyond_free level (first ∷ nodes) (false ∷ ahead) (suc n) node free = beyond_free level nodes ahead n node free

one_free : (level : ℕ) (nodes : List Node) (ahead : List Bool) (n : ℕ) (node : Node) → get_or ahead n false ≡ false
    → one_end level (set nodes n node) ahead ≡ one_end level nodes ahead
one_free level [] ahead n node free = refl
one_free level (first ∷ nodes) [] zero node free = refl
one_free level (first ∷ nodes) [] (suc n) node free = refl
one_free level (first ∷ nodes) (true ∷ ahead) zero node free = absurd (not_both true refl free)
one_free level (first ∷ nodes) (false ∷ ahead) zero node free = refl
one_free level (first ∷ nodes) (true ∷ ahead) (suc n) node free =
    ap (λ (x : ℕ). max x (if_ending first.ends (first.value - level))) (one_free level nodes ahead n node free)
one_free level (first ∷ nodes) (false ∷ ahead) (suc n) node free = one_free level nodes ahead n node free

two_free : (level : ℕ) (nodes : List Node) (ahead : List Bool) (n : ℕ) (node : Node) → get_or ahead n false ≡ false
    → two_ends level (set nodes n node) ahead ≡ two_ends level nodes ahead
two_free level [] ahead n node free = refl
two_free level (first ∷ nodes) [] zero node free = refl
two_free level (first ∷ nodes) [] (suc n) node free = refl
two_free level (first ∷ nodes) (true ∷ ahead) zero node free = absurd (not_both true refl free)
two_free level (first ∷ nodes) (false ∷ ahead) zero node free = refl
two_free level (first ∷ nodes) (true ∷ ahead) (suc n) node free =
    ap (λ (x : ℕ). max x (if_ending first.ends (first.value - level) + one_end level (set nodes n node) ahead))
    (two_free level nodes ahead n node free)
    ∙ ap (λ (x : ℕ). max (two_ends level nodes ahead) (if_ending first.ends (first.value - level) + x))
    (one_free level nodes ahead n node free)
two_free level (first ∷ nodes) (false ∷ ahead) (suc n) node free = two_free level nodes ahead n node free

worth_free : (nodes : List Node) (ahead : List Bool) (n : ℕ) (node : Node) (worth : Worth)
    → get_or ahead n false ≡ false → IsWorth nodes ahead worth → IsWorth (set nodes n node) ahead worth
worth_free nodes ahead n node worth free known =
    record {
      levels = known.levels;
      few = known.few;
      passed = λ place small. known.passed place small ∙ sym (beyond_free (10 * place) nodes ahead n node free);
      one = λ level. omega (arith, known.one level, one_free level nodes ahead n node free);
      two = λ level. omega (arith, known.two level, two_free level nodes ahead n node free);
      order = known.order;
      low = known.low;
    }

-- the stops count as they are
pub counts_plain : (task : Task) (assigned : Assigned) (run : PartialRun) → Counts task assigned run task.spots.items
counts_plain task assigned run =
    record { all = refl; value = λ spot. refl; ends = λ spot ending. inl ending; plain = λ none. refl }

pub has_plain : (task : Task) (assigned : Assigned) (run : PartialRun) (ahead : List Bool) (worth : Worth)
    → IsWorth task.spots.items ahead worth → HasWorth task assigned run ahead worth
has_plain task assigned run ahead worth known =
    record { nodes = task.spots.items; counts = counts_plain task assigned run; known = known }

pub plain_has : (task : Task) (assigned : Assigned) (run : PartialRun) (ahead : List Bool) (worth : Worth)
    → run.most ≡ 0 → HasWorth task assigned run ahead worth → IsWorth task.spots.items ahead worth
plain_has task assigned run ahead worth none has =
    subst (λ (nodes : List Node). IsWorth nodes ahead worth) (has.counts.plain none) has.known

-- one stop counts otherwise
counts_set : (task : Task) (assigned : Assigned) (run : PartialRun) (nodes : List Node) (n : ℕ) (node other : Node)
    → node_at task n ≡ Some node → n < length task.spots.items → other.value ≡ node.value
    → (other.ends ≡ true → EndsThere task assigned run n) → (run.most ≡ 0 → other ≡ node)
    → Counts task assigned run nodes → Counts task assigned run (set nodes n other)
counts_set task assigned run nodes n node other at low value ends plain counts =
    let within : n < length nodes = omega (arith, low, counts.all) in
    record {
      all = length-set nodes n other ∙ counts.all;
      value = λ spot. elim (set_at nodes n spot other within) [
        | inl here ↦ ap value_in here.1 ∙ (value ∙ (sym (ap value_in at)
            ∙ ap (λ (i : ℕ). value_in (node_at task i)) here.0))
        | inr same ↦ ap value_in same ∙ counts.value spot
      ];
      ends = λ spot holds. elim (set_at nodes n spot other within) [
        | inl here ↦ subst (EndsThere task assigned run) here.0 (ends (sym (ap ends_in here.1) ∙ holds))
        | inr same ↦ counts.ends spot (sym (ap ends_in same) ∙ holds)
      ];
      plain = λ none. ap (λ (xs : List Node). set xs n other) (counts.plain none)
          ∙ (ap (λ (x : Node). set task.spots.items n x) (plain none) ∙ set_same task.spots.items n node at);
    }

module _ (task : Task) (assigned : Assigned) (run : PartialRun) (ahead : List Bool) (n : ℕ) (node : Node)
    (at : node_at task n ≡ Some node) (placed : n < length task.spots.items) (small : node.value ≤ 80)
    (free : get_or ahead n false ≡ false) (low : n < length ahead) (old new : Worth)
    (has : HasWorth task assigned run ahead old) where
  -- a run may pass one more stop
  pub has_passing : ends_in (node_at task n) ≡ false → HasPassed node.value old new
      → CountsAsPassed task assigned run n (set ahead n true) new
  has_passing passes adds =
      let passed : node.ends ≡ false = sym (ap ends_in at) ∙ passes in
      let here : slice_get (set has.nodes n node) n ≡ Some node =
      set_here has.nodes n node (omega (arith, placed, has.counts.all)) in
      record {
        has = record {
          nodes = set has.nodes n node;
          counts = counts_set task assigned run has.nodes n node node at placed refl
              (λ ending. absurd (not_both node.ends ending passed)) (λ none. refl) has.counts;
          known = worth_passed (set has.nodes n node) ahead n node old new here passed free low adds
              (worth_free has.nodes ahead n node old free has.known);
        };
        passed = ap ends_in here ∙ passed;
      }

  -- all runs end at one
  pub has_ended : ends_in (node_at task n) ≡ true → HasRanked node.value old new
      → HasWorth task assigned run (set ahead n true) new
  has_ended ends ranks =
      record {
        nodes = set has.nodes n node;
        counts = counts_set task assigned run has.nodes n node node at placed refl (λ holds. inl ends) (λ none. refl)
            has.counts;
        known = worth_ended (set has.nodes n node) ahead n node old new
            (set_here has.nodes n node (omega (arith, placed, has.counts.all))) (sym (ap ends_in at) ∙ ends) small
            free low ranks (worth_free has.nodes ahead n node old free has.known);
      }

-- a stop that counted as passed counts as an end
beyond_turned : (level : ℕ) (nodes : List Node) (ahead : List Bool) (n : ℕ) (other : Node)
    → get_or ahead n false ≡ true → n < length nodes → ends_in (slice_get nodes n) ≡ false → other.ends ≡ true
    → beyond level (set nodes n other) ahead + (value_in (slice_get nodes n) - level) ≡ beyond level nodes ahead
beyond_turned level [] ahead n other lies low passed ending = absurd (omega arith)
beyond_turned level (node ∷ nodes) [] n other lies low passed ending = absurd (not_both false lies refl)
beyond_turned level (node ∷ nodes) (true ∷ ahead) zero other lies low passed ending =
    let none : if_passed other.ends (other.value - level) ≡ 0 =
    ap (λ (b : Bool). if_passed b (other.value - level)) ending in
    let all : if_passed node.ends (node.value - level) ≡ node.value - level =
    ap (λ (b : Bool). if_passed b (node.value - level)) passed in
    omega (arith, none, all)
beyond_turned level (node ∷ nodes) (false ∷ ahead) zero other lies low passed ending = absurd (not_both false lies refl)
beyond_turned level (node ∷ nodes) (true ∷ ahead) (suc n) other lies low passed ending =
    omega (arith, beyond_turned level nodes ahead n other lies (omega arith) passed ending)
beyond_turned level (node ∷ nodes) (false ∷ ahead) (suc n) other lies low passed ending =
    beyond_turned level nodes ahead n other lies (omega arith) passed ending

end_most : (b : Bool) (more : ℕ) → if_ending b more ≤ more
end_most true more = omega arith
end_most false more = omega arith

one_turned : (level : ℕ) (nodes : List Node) (ahead : List Bool) (n : ℕ) (other : Node)
    → one_end level (set nodes n other) ahead ≤ max (one_end level nodes ahead) (other.value - level)
one_turned level [] ahead n other = omega arith
one_turned level (node ∷ nodes) [] zero other = omega arith
one_turned level (node ∷ nodes) [] (suc n) other = omega arith
one_turned level (node ∷ nodes) (true ∷ ahead) zero other = omega (arith, end_most other.ends (other.value - level))
one_turned level (node ∷ nodes) (false ∷ ahead) zero other = omega arith
one_turned level (node ∷ nodes) (true ∷ ahead) (suc n) other = omega (arith, one_turned level nodes ahead n other)
one_turned level (node ∷ nodes) (false ∷ ahead) (suc n) other = one_turned level nodes ahead n other

two_turned : (level : ℕ) (nodes : List Node) (ahead : List Bool) (n : ℕ) (other : Node)
    → two_ends level (set nodes n other) ahead ≤ max (two_ends level nodes ahead)
    ((other.value - level) + one_end level nodes ahead)
two_turned level [] ahead n other = omega arith
two_turned level (node ∷ nodes) [] zero other = omega arith
two_turned level (node ∷ nodes) [] (suc n) other = omega arith
two_turned level (node ∷ nodes) (true ∷ ahead) zero other = omega (arith, end_most other.ends (other.value - level))
two_turned level (node ∷ nodes) (false ∷ ahead) zero other = omega arith
two_turned level (node ∷ nodes) (true ∷ ahead) (suc n) other =
    omega (arith, two_turned level nodes ahead n other, one_turned level nodes ahead n other)
two_turned level (node ∷ nodes) (false ∷ ahead) (suc n) other = two_turned level nodes ahead n other

worth_turned : (nodes : List Node) (ahead : List Bool) (n : ℕ) (other : Node) (old middle new : Worth)
    → get_or ahead n false ≡ true → n < length nodes → ends_in (slice_get nodes n) ≡ false → other.ends ≡ true
    → value_in (slice_get nodes n) ≡ other.value → other.value ≤ 80 → HasTakenBack other.value old middle
    → HasRanked other.value middle new → IsWorth nodes ahead old → IsWorth (set nodes n other) ahead new
worth_turned nodes ahead n other old middle new lies low passed ending value small back ranks known =
    record {
      levels = omega (arith, known.levels, back.levels, ranks.levels);
      few = omega (arith, known.few, back.levels, ranks.levels);
      passed = λ place less.
          let within : place < old.levels = omega (arith, less, back.levels, ranks.levels) in
          let same : get_or new.beyond place 0 ≡ get_or middle.beyond place 0 =
          ap (λ (xs : List ℕ). get_or xs place 0) ranks.same in
          omega (
            arith,
            same,
            value,
            back.each place within,
            known.passed place within,
            beyond_turned (10 * place)
                nodes ahead n other lies low passed ending,
          );
      one = λ level. omega (
        arith,
        one_turned level nodes ahead n other,
        known.one level,
        back.first,
        (ranks.one level).0,
        (ranks.one level).1,
      );
      two = λ level. omega (
        arith,
        two_turned level nodes ahead n other,
        known.one level,
        known.two level,
        back.first,
        back.second,
        (ranks.two level).0,
        (ranks.two level).1,
      );
      order = ranks.order;
      low = ranks.low 80 (omega (arith, known.low, back.first)) small;
    }

none_most : (most : ℕ) → 0 < most → most ≡ 0 → ⊥
none_most most some none = omega (arith, some, none)

pub turned_ends : (task : Task) (assigned : Assigned) (run : PartialRun) (ahead : List Bool) (n : ℕ) (node : Node)
    → node_at task n ≡ Some node → n < length task.spots.items → node.value ≤ 80 → get_or ahead n false ≡ true
    → (old middle new : Worth) → CountsAsPassed task assigned run n ahead old
    → (0 < run.most) × IsLast task assigned.used n → HasTakenBack node.value old middle
    → HasRanked node.value middle new → HasWorth task assigned run ahead new
turned_ends task assigned run ahead n node at placed small lies old middle new counted last back ranks =
    let has = counted.has in
    let other : Node = record node { ends = true } in
    let value : value_in (slice_get has.nodes n) ≡ node.value = has.counts.value n ∙ ap value_in at in
    record {
      nodes = set has.nodes n other;
      counts = counts_set task assigned run has.nodes n node other at placed refl (λ holds. inr last)
          (λ none. absurd (none_most run.most last.0 none)) has.counts;
      known = worth_turned has.nodes ahead n other old middle new lies (omega (arith, placed, has.counts.all))
          counted.passed refl value small back ranks has.known;
    }

-- stops that are worth at most 80 dollars each
pub has_most : (task : Task) → IsFit task → (assigned : Assigned) (run : PartialRun) (ahead : List Bool) (worth : Worth)
    → HasWorth task assigned run ahead worth → (place : ℕ) → place < worth.levels → get_or worth.beyond place 0 ≤ 59520
has_most task fit assigned run ahead worth has place small =
    omega (
      arith,
      fit.all,
      has.counts.all,
      has.known.passed place small,
      most_of (10 * place) has.nodes ahead
          (λ n node at. each n node at),
    )
  where
    each : (n : ℕ) (node : Node) → slice_get has.nodes n ≡ Some node → node.value ≤ 80
    each n node at =
        let same : node.value ≡ value_in (node_at task n) = sym (ap value_in at) ∙ has.counts.value n in
        omega (arith, same, value_low task fit n)

-- what is known of the stops ahead bounds what a run may earn there
pub earns_ahead : (task : Task) (assigned : Assigned) (run : PartialRun) (ahead : List Bool) (worth : Worth)
    (on back : Bool) (most : ℕ) → HasWorth task assigned run ahead worth → goes_on task run ≡ on
    → goes_back task run ≡ back → IsLeast worth run.left on back most → EarnsAhead task assigned run ahead most
earns_ahead task assigned run ahead worth on back most has is_on is_back least =
    let found = level_ahead task has.nodes run ahead worth on back most has.known is_on is_back least in
    record { nodes = has.nodes; counts = has.counts; level = found.0; low = found.1 }
