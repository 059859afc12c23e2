-- A run earns at most a sum. It has what the run has earned, the level for each stop that is left,
-- what the stops ahead are worth beyond it, and what the later trains earn alone. Of the stops at
-- which it ends, as many count as it may reach.
use Rattle.std.proofs.Common.{◌≡◌, ℕ, zero, suc, ◌+◌, ◌-◌, ◌*◌, ◌<◌, ◌≤◌, Bool, true, false, not, ◌&&◌, nat_lt, ◌⊎◌}
use Rattle.std.proofs.Common.{Some, inl, inr, List, [], ◌∷◌, length, get_or, set, slice_get, refl, sym}
use Rattle.std.proofs.Common.{ap, subst, ◌∙◌, arith, length-set, suc-mul}
use Rattle.std.proofs.lemmas.Bool.{and_from, lt-ltb, not-true, not_from_false, false_from_ne_true, not-false}
use Rattle.std.proofs.Math.Bool.{and-false}
use Rattle.reach.proofs.Marking.{set_keeps}
use Rattle.search_task.specs.declared.task.Node.{Node}
use Rattle.search_task.specs.declared.task.Segment.{Segment}
use Rattle.search_task.specs.declared.task.Task.{Task}
use Rattle.search_task.specs.declared.task.Leg.{Leg}
use Rattle.best_run.specs.declared.state.Assigned.{Assigned}
use Rattle.best_run.specs.declared.state.PartialRun.{PartialRun}
use Rattle.best_run.specs.Ahead.{EndsAtMost, IsClosed, IsGoneOverFrom, LiesAhead, beyond, ends_by, goes_back, goes_on}
use Rattle.best_run.specs.Ahead.{if_ending, if_passed, most_ahead, one_end, two_ends}
use Rattle.search_task.specs.Fit.{IsFit, SegmentFits}
use Rattle.best_run.specs.EndStops.{Counts, EndsThere}
use Rattle.best_run.specs.Moves.{Completes, Move, along, begin, between, can_take, go, left_after, marked_if}
use Rattle.best_run.specs.Moves.{may_come, partial, pass, finish, total_after, turn, turned_back, using}
use Rattle.best_run.specs.Moves.{with_run_finished}
use Rattle.search_task.specs.Spots.{LeadsFrom, ends_in, node_at, stop_in, value_in}
use Rattle.search_task.specs.Crossed.{marked_all, misses}
use Rattle.search_task.specs.Legs.{AreReady, IsStop, legs_at}
use Rattle.best_run.specs.Suffix.{AreEqual, EarnAtMost}
use Rattle.best_run.specs.WaysOn.{IsShort}
use Rattle.search_task.proofs.Marked.{free_misses, marks_more, misses_free}
use Rattle.best_run.proofs.Beyond.{Within, beyond_spent, ends_less, one_spent, one_two, two_spent, unset_within}
use Rattle.best_run.proofs.Beyond.{worth_less}
use Rattle.best_run.proofs.Along.{ByLeg, by_leg, leg_fits}
use Rattle.search_task.proofs.Departing.{legs_of}
use Rattle.search_task.proofs.Described.{among_place}
use Rattle.best_run.proofs.Eased.{rest_low}
use Rattle.best_run.proofs.Equal.{low_assigned}
use Rattle.best_run.proofs.Lasting.{last_stuck}
use Rattle.search_task.proofs.Marks.{length_marked}
use Rattle.search_task.proofs.Booleans.{both_first, both_second, not_both}

-- the stops ahead that are not visited
pub but : List Bool → List Bool → List Bool
but [] visited = []
but (lies ∷ ahead) [] = []
but (lies ∷ ahead) (was ∷ visited) = (lies && not was) ∷ but ahead visited

pub but_within : (ahead visited : List Bool) → Within (but ahead visited) ahead
unfolding but
but_within [] visited = tt
but_within (lies ∷ ahead) [] = tt
but_within (lies ∷ ahead) (was ∷ visited) = (both_first lies (not was), but_within ahead visited)

-- no more lies ahead than before a stop was visited
pub but_unset : (ahead visited : List Bool) (n : ℕ) → get_or visited n false ≡ true
    → Within (but ahead visited) (set ahead n false)
unfolding but
but_unset [] visited n is = tt
but_unset (lies ∷ ahead) [] n is = tt
but_unset (lies ∷ ahead) (was ∷ visited) zero is = (none lies was is, but_within ahead visited)
  where
    none : (lies was : Bool) → was ≡ true → (lies && not was) ≡ true → false ≡ true
    none true true is both = both
    none false was is both = both
    none lies false is both = absurd (not_both false is refl)
but_unset (lies ∷ ahead) (was ∷ visited) (suc n) is = (both_first lies (not was), but_unset ahead visited n is)

-- one more is visited
but_set : (ahead visited : List Bool) (n : ℕ) → n < length visited
    → but ahead (set visited n true) ≡ set (but ahead visited) n false
unfolding but
but_set [] visited n low = refl
but_set (lies ∷ ahead) [] n low = absurd (omega arith)
but_set (lies ∷ ahead) (was ∷ visited) zero low = ap (λ (b : Bool). b ∷ but ahead visited) (and-false lies)
but_set (lies ∷ ahead) (was ∷ visited) (suc n) low =
    ap (λ (bs : List Bool). (lies && not was) ∷ bs) (but_set ahead visited n (omega arith))

but_at : (ahead visited : List Bool) (n : ℕ) → n < length visited → get_or ahead n false ≡ true
    → get_or visited n false ≡ false → get_or (but ahead visited) n false ≡ true
unfolding but
but_at [] visited n low lies free = absurd (not_both false lies refl)
but_at (lies ∷ ahead) [] n low is free = absurd (omega arith)
but_at (lies ∷ ahead) (was ∷ visited) zero low is free = both_here lies was is free
  where
    both_here : (lies was : Bool) → lies ≡ true → was ≡ false → (lies && not was) ≡ true
    both_here lies true is free = absurd (not_both true refl free)
    both_here true false is free = refl
    both_here false false is free = absurd (not_both false is refl)
but_at (lies ∷ ahead) (was ∷ visited) (suc n) low is free = but_at ahead visited n (omega arith) is free

-- a stop is visited: what was left for it, and what it was worth beyond the level, is spent
pub spend : (ending back : Bool) (value level here later passed after one first two second : ℕ) → later + level ≡ here
    → if_passed ending (value - level) + after ≤ passed → if_ending ending (value - level) ≤ one
    → if_ending ending (value - level) + first ≤ two → first ≤ one → second ≤ two
    → value + ((later + after) + ends_by (not ending) back first second) ≤ (here + passed) + ends_by true back one two
spend true true value level here later passed after one first two second left less ends both fewer all = omega arith
spend true false value level here later passed after one first two second left less ends both fewer all = omega arith
spend false true value level here later passed after one first two second left less ends both fewer all = omega arith
spend false false value level here later passed after one first two second left less ends both fewer all = omega arith

-- a stop was left where one was left later
left_before : (b : Bool) (left : ℕ) → nat_lt 0 (left_after b left) ≡ true → nat_lt 0 left ≡ true
left_before true zero is = is
left_before false zero is = is
left_before b (suc left) is = lt-ltb 0 (suc left) (omega arith)

-- one stop fewer is left
pub one_fewer : (left level : ℕ) → nat_lt 0 left ≡ true → (left - 1) * level + level ≡ left * level
one_fewer zero level is = let wrong : false ≡ true = is in absurd cc
one_fewer (suc left) level is =
    let less : suc left - 1 ≡ left = omega arith in rw less (sym (suc-mul left level))

mark_keeps : (b : Bool) (marks : List Bool) (n spot : ℕ) → n < length marks → get_or marks spot false ≡ true
    → get_or (marked_if b marks n) spot false ≡ true
mark_keeps true marks n spot low was = set_keeps marks n spot low was
mark_keeps false marks n spot low was = was

pub mark_length : (b : Bool) (marks : List Bool) (n : ℕ) → length (marked_if b marks n) ≡ length marks
mark_length true marks n = length-set marks n true
mark_length false marks n = refl

come_before : (task : Task) (run : PartialRun) (segment : Segment) → segment.to < length run.visited
    → (stop : Bool) (spot : ℕ) → may_come stop (along task run segment) spot ≡ true → may_come stop run spot ≡ true
come_before task run segment low false spot is = refl
come_before task run segment low true spot is =
    and_from (nat_lt 0 run.left) (not (get_or run.visited spot false))
    (left_before (stop_in (node_at task segment.to)) run.left
    (both_first (nat_lt 0 (left_after (stop_in (node_at task segment.to)) run.left))
    (not (get_or (marked_if (stop_in (node_at task segment.to)) run.visited segment.to) spot false)) is))
    (not_from_false (get_or run.visited spot false) (false_from_ne_true (get_or run.visited spot false) (λ was.
    not_both (get_or (marked_if (stop_in (node_at task segment.to)) run.visited segment.to) spot false)
    (mark_keeps (stop_in (node_at task segment.to)) run.visited segment.to spot low was)
    (not-true (get_or (marked_if (stop_in (node_at task segment.to)) run.visited segment.to) spot false)
    (both_second (nat_lt 0 (left_after (stop_in (node_at task segment.to)) run.left))
    (not (get_or (marked_if (stop_in (node_at task segment.to)) run.visited segment.to) spot false)) is)))))

-- a segment that may be taken after another may be taken before it
take_before : (task : Task) (assigned : Assigned) (run : PartialRun) (from : Bool) (segment : Segment)
    → SegmentFits task from segment → length assigned.used ≡ 279 → length run.visited ≡ 744 → (other : Segment)
    → can_take task (along task run segment) (using assigned segment).used other ≡ true
    → can_take task run assigned.used other ≡ true
take_before task assigned run from segment fits whole spots other is =
    let stop = stop_in (node_at task other.to) in
    let came : may_come stop (along task run segment) other.to ≡ true =
    both_first (may_come stop (along task run segment) other.to)
    (misses (marked_all assigned.used segment.borders.items) other.borders.items) is in
    let missed : misses (marked_all assigned.used segment.borders.items) other.borders.items ≡ true =
    both_second (may_come stop (along task run segment) other.to)
    (misses (marked_all assigned.used segment.borders.items) other.borders.items) is in
    and_from (may_come stop run other.to) (misses assigned.used other.borders.items)
    (come_before task run segment (omega (arith, fits.to, spots)) stop other.to came)
    (free_misses assigned.used other.borders.items (λ border among marked.
    misses_free (marked_all assigned.used segment.borders.items) other.borders.items missed border among
    ((marks_more assigned.used segment.borders.items fits.borders whole border).1 (inr marked))))

-- a run that turns back may take the same segments
pub take_back : (task : Task) (run : PartialRun) (used : List Bool) (segment : Segment)
    → can_take task (turned_back run) used segment ≡ can_take task run used segment
take_back task run used segment = ap (λ b. b && misses used segment.borders.items)
    (by_stop (stop_in (node_at task segment.to)))
  where
    by_stop : (stop : Bool) → may_come stop (turned_back run) segment.to ≡ may_come stop run segment.to
    by_stop true = refl
    by_stop false = refl

module _ (task : Task) (fit : IsFit task) (ready : AreReady task) (first : Assigned) (begun : PartialRun)
    (ahead : List Bool) (closed : IsClosed task first begun ahead) (nodes : List Node)
    (counts : Counts task first begun nodes) where
  -- a run goes on no more from where it is
  abbrev pub Halts : Assigned → PartialRun → Type 0
  Halts assigned run =
      (ends_in (node_at task run.head) ≡ true) ⊎ ((place : ℕ) (leg : Leg)
      → slice_get (legs_at task run.head) place ≡ Some leg → can_take task run assigned.used leg.segment ≡ true → ⊥)

  -- a run that goes on from where the first one is; by a mark it may go on from where it is itself
  pub record Follows (on : Bool) (assigned : Assigned) (run : PartialRun) : Type 0 where
    pub halts : on ≡ false → Halts assigned run
    pub takes : (segment : Segment) → can_take task run assigned.used segment ≡ true
        → can_take task begun first.used segment ≡ true
    pub home : run.turned ≡ false → IsGoneOverFrom task first begun run.first ahead run.home
    pub head_is_stop : IsStop task run.head
    pub begins : IsStop task run.home
    pub next : assigned.next ≡ first.next
    pub most : run.most ≡ begun.most
    pub whole : length assigned.used ≡ 279
    pub spots : length run.visited ≡ 744

  -- the next leg
  pub record Leads (assigned : Assigned) (run : PartialRun) (leg : Leg) : Type 0 where
    pub from : ℕ
    pub place : ℕ
    pub is_leg : slice_get (legs_at task from) place ≡ Some leg
    pub free : misses first.used leg.segment.borders.items ≡ true
    pub lies : LiesAhead ahead leg.segment.to
    pub fits : SegmentFits task false leg.segment
    pub stop : IsStop task leg.segment.to

  free_first : (run : PartialRun) (used : List Bool) (segment : Segment) → can_take task run used segment ≡ true
      → misses used segment.borders.items ≡ true
  free_first run used segment taken =
      both_second (may_come (stop_in (node_at task segment.to)) run segment.to) (misses used segment.borders.items)
      taken

  leads_by : (least : ℕ) (on : Bool) (assigned : Assigned) (run : PartialRun) → Follows on assigned run
      → IsGoneOverFrom task first begun least ahead run.head → ends_in (node_at task run.head) ≡ false
      → (place : ℕ) (leg : Leg) → slice_get (legs_at task run.head) place ≡ Some leg → least ≤ leg.first
      → can_take task run assigned.used leg.segment ≡ true → Leads assigned run leg
  leads_by least on assigned run follows over passes place leg at later taken =
      let fits = leg_fits task fit run.head (legs_at task run.head) (legs_of task ready run.head follows.head_is_stop)
      follows.head_is_stop.1
      leg (among_place (legs_at task run.head) place leg at) in
      record {
        from = run.head;
        place = place;
        is_leg = at;
        free = free_first begun first.used leg.segment (follows.takes leg.segment taken);
        lies = over passes place leg at later (follows.takes leg.segment taken);
        fits = fits.0;
        stop = (fits.0.to, fits.1);
      }

  -- whether a run may go on from a stop, as it counts
  pub passes : ℕ → Bool
  passes spot = not (ends_in (slice_get nodes spot))

  -- a run has reached a stop at which it ends
  halts_go : (on : Bool) (assigned : Assigned) (run : PartialRun) → Follows on assigned run → (leg : Leg)
      → Leads assigned run leg → EndsThere task first begun leg.segment.to
      → Halts (using assigned leg.segment) (along task run leg.segment)
  halts_go on assigned run follows leg leads ends =
      elim ends [
        | inl ending ↦ inl ending
        | inr last ↦ inr (λ index other at taken.
            last_stuck task first.used assigned.used leads.from leads.place leg last.1 leads.is_leg leads.fits.borders
            follows.whole leads.free index other at
            (free_first begun first.used other.segment (follows.takes other.segment
            (take_before task assigned run false leg.segment leads.fits follows.whole follows.spots other.segment
            taken)))
            (free_first (along task run leg.segment) (marked_all assigned.used leg.segment.borders.items) other.segment
            taken))
      ]

  pub follows_go : (on : Bool) (assigned : Assigned) (run : PartialRun) → Follows on assigned run → (leg : Leg)
      → Leads assigned run leg
      → Follows (passes leg.segment.to) (using assigned leg.segment) (along task run leg.segment)
  unfolding passes
  follows_go on assigned run follows leg leads =
      record {
        halts = λ off. halts_go on assigned run follows leg leads
            (counts.ends leg.segment.to (not-false (ends_in (slice_get nodes leg.segment.to)) off));
        takes = λ other is. follows.takes other (take_before task assigned run false leg.segment leads.fits
            follows.whole follows.spots other is);
        home = follows.home;
        head_is_stop = leads.stop;
        begins = follows.begins;
        next = follows.next;
        most = follows.most;
        whole = length_marked assigned.used leg.segment.borders.items ∙ follows.whole;
        spots = mark_length (stop_in (node_at task leg.segment.to)) run.visited leg.segment.to ∙ follows.spots;
      }

  -- a stop to which a leg leads is gone over
  over_there : (assigned : Assigned) (run : PartialRun) (leg : Leg) → Leads assigned run leg
      → IsGoneOverFrom task first begun 0 ahead leg.segment.to
  over_there assigned run leg leads passes place other at later taken =
      closed.all leg.segment.to leads.lies passes place other at taken

  -- a run that turns back goes on from where it began
  follows_back : (on : Bool) (assigned : Assigned) (run : PartialRun) → Follows on assigned run
      → Follows true assigned (turned_back run)
  follows_back on assigned run follows =
      record {
        halts = λ wrong. absurd (not_both true refl wrong);
        takes = λ segment taken. follows.takes segment (sym (take_back task run assigned.used segment) ∙ taken);
        home = λ wrong. absurd (not_both true refl wrong);
        head_is_stop = follows.begins;
        begins = follows.begins;
        next = follows.next;
        most = follows.most;
        whole = follows.whole;
        spots = follows.spots;
      }

  -- what a run may still earn, at a level
  pub still : ℕ → Bool → PartialRun → ℕ
  still level on run =
      (run.left * level + beyond level nodes (but ahead run.visited))
      + ends_by on (goes_back task run) (one_end level nodes (but ahead run.visited))
      (two_ends level nodes (but ahead run.visited))

  -- a leg leaves no more to be earned, as if the stop that it leaves might be passed
  pub still_leg : (level : ℕ) (on : Bool) (assigned : Assigned) (run : PartialRun) → Follows on assigned run
      → (leg : Leg) → Leads assigned run leg → can_take task run assigned.used leg.segment ≡ true
      → value_in (node_at task leg.segment.to) + still level (passes leg.segment.to) (along task run leg.segment)
      ≤ (run.left * level + beyond level nodes (but ahead run.visited))
      + ends_by true (goes_back task run) (one_end level nodes (but ahead run.visited))
      (two_ends level nodes (but ahead run.visited))
  unfolding still passes
  still_leg level on assigned run follows leg leads taken =
      let came : may_come true run leg.segment.to ≡ true =
      subst (λ (b : Bool). may_come b run leg.segment.to ≡ true) leads.stop.1
      (both_first (may_come (stop_in (node_at task leg.segment.to)) run leg.segment.to)
      (misses assigned.used leg.segment.borders.items) taken) in
      let low : leg.segment.to < length run.visited = omega (arith, follows.spots, leads.fits.to) in
      let free : get_or run.visited leg.segment.to false ≡ false =
      not-true (get_or run.visited leg.segment.to false)
      (both_second (nat_lt 0 run.left) (not (get_or run.visited leg.segment.to false)) came) in
      let open_here : get_or (but ahead run.visited) leg.segment.to false ≡ true =
      but_at ahead run.visited leg.segment.to low leads.lies free in
      subst (λ (v : ℕ). v + still level (passes leg.segment.to) (along task run leg.segment)
      ≤ (run.left * level + beyond level nodes (but ahead run.visited))
      + ends_by true (goes_back task run) (one_end level nodes (but ahead run.visited))
      (two_ends level nodes (but ahead run.visited))) (counts.value leg.segment.to)
      (still_by level run leg.segment.to leads.stop.1 low open_here
      (both_first (nat_lt 0 run.left) (not (get_or run.visited leg.segment.to false)) came))
    where
      Still : ℕ → PartialRun → ℕ → Bool → Type 0
      Still level run to stop =
          value_in (slice_get nodes to) + ((left_after stop run.left * level
          + beyond level nodes (but ahead (marked_if stop run.visited to)))
          + ends_by (not (ends_in (slice_get nodes to))) (goes_back task run)
          (one_end level nodes (but ahead (marked_if stop run.visited to)))
          (two_ends level nodes (but ahead (marked_if stop run.visited to))))
          ≤ (run.left * level + beyond level nodes (but ahead run.visited))
          + ends_by true (goes_back task run) (one_end level nodes (but ahead run.visited))
          (two_ends level nodes (but ahead run.visited))

      still_by : (level : ℕ) (run : PartialRun) (to : ℕ) → stop_in (node_at task to) ≡ true → to < length run.visited
          → get_or (but ahead run.visited) to false ≡ true → nat_lt 0 run.left ≡ true
          → Still level run to (stop_in (node_at task to))
      still_by level run to stops low open_here some =
          subst (λ (b : Bool). Still level run to b) (sym stops)
          (subst (λ (bs : List Bool). value_in (slice_get nodes to)
          + (((run.left - 1) * level + beyond level nodes bs)
          + ends_by (not (ends_in (slice_get nodes to))) (goes_back task run) (one_end level nodes bs)
          (two_ends level nodes bs)) ≤ (run.left * level + beyond level nodes (but ahead run.visited))
          + ends_by true (goes_back task run) (one_end level nodes (but ahead run.visited))
          (two_ends level nodes (but ahead run.visited))) (sym (but_set ahead run.visited to low))
          (spend (ends_in (slice_get nodes to)) (goes_back task run) (value_in (slice_get nodes to)) level
          (run.left * level) ((run.left - 1) * level)
          (beyond level nodes (but ahead run.visited)) (beyond level nodes (set (but ahead run.visited) to false))
          (one_end level nodes (but ahead run.visited)) (one_end level nodes (set (but ahead run.visited) to false))
          (two_ends level nodes (but ahead run.visited)) (two_ends level nodes (set (but ahead run.visited) to false))
          (one_fewer run.left level some)
          (beyond_spent level nodes (but ahead run.visited) to open_here)
          (one_spent level nodes (but ahead run.visited) to open_here)
          (two_spent level nodes (but ahead run.visited) to open_here)
          (worth_less level nodes (set (but ahead run.visited) to false) (but ahead run.visited)
          (unset_within (but ahead run.visited) to)).one
          (worth_less level nodes (set (but ahead run.visited) to false) (but ahead run.visited)
          (unset_within (but ahead run.visited) to)).two))

  -- a leg leaves no more to be earned
  still_go : (level : ℕ) (on : Bool) (assigned : Assigned) (run : PartialRun) → Follows on assigned run
      → ends_in (node_at task run.head) ≡ false → (place : ℕ) (leg : Leg)
      → slice_get (legs_at task run.head) place ≡ Some leg → Leads assigned run leg
      → can_take task run assigned.used leg.segment ≡ true
      → value_in (node_at task leg.segment.to) + still level (passes leg.segment.to) (along task run leg.segment)
      ≤ still level on run
  unfolding still
  still_go level true assigned run follows goes place leg at leads taken =
      still_leg level true assigned run follows leg leads taken
  still_go level false assigned run follows goes place leg at leads taken =
      absurd (elim (follows.halts refl) [
        | inl ends ↦ not_both (ends_in (node_at task run.head)) ends goes
        | inr none ↦ none place leg at taken
      ])

  -- a run that turns back has one end less
  back_by : (on once passes : Bool) (one two : ℕ) → one ≤ two → once ≡ false → passes ≡ false
      → ends_by true (not true && not passes) one two ≤ ends_by on (not once && not passes) one two
  back_by true false false one two less once passes = less
  back_by false false false one two less once passes = omega arith
  back_by on true passes one two less once is = absurd (not_both true refl once)
  back_by on false true one two less once is = absurd (not_both true refl is)

  still_back : (level : ℕ) (on : Bool) (run : PartialRun) → run.turned ≡ false
      → ends_in (node_at task run.home) ≡ false → still level true (turned_back run) ≤ still level on run
  unfolding still
  still_back level on run once passes =
      omega (
        arith,
        back_by on run.turned (ends_in (node_at task run.home))
            (one_end level nodes (but ahead run.visited)) (two_ends level nodes (but ahead run.visited))
            (one_two level nodes (but ahead run.visited)) once passes,
      )

  -- at first it may earn no more than by all that lies ahead
  still_first : (level : ℕ) → still level (goes_on task begun) begun ≤ most_ahead level task nodes begun ahead
  unfolding still
  still_first level =
      let less = worth_less level nodes (but ahead begun.visited) ahead (but_within ahead begun.visited) in
      omega (
        arith,
        less.passed,
        ends_less (goes_on task begun) (goes_back task begun) (one_end level nodes (but ahead begun.visited))
            (two_ends level nodes (but ahead begun.visited)) (one_end level nodes ahead) (two_ends level nodes ahead)
            less.one less.two,
      )

  -- the leg with which what comes after a segment begins
  abbrev Leg_of : (on : Bool) (assigned : Assigned) (run : PartialRun) → Follows on assigned run → ℕ → Segment
      → List Move → Type 0
  Leg_of on assigned run follows place segment moves =
      ByLeg task fit run.head follows.head_is_stop.1 (legs_at task run.head)
      (legs_of task ready run.head follows.head_is_stop) assigned run
      place segment moves

  leg_of : (on : Bool) (assigned : Assigned) (run : PartialRun) → (follows : Follows on assigned run)
      → (place : ℕ) (segment : Segment) (moves : List Move) → LeadsFrom task run.head place segment
      → can_take task run assigned.used segment ≡ true
      → Completes task (partial (using assigned segment) (along task run segment)) moves
      → Leg_of on assigned run follows place segment moves
  leg_of on assigned run follows place segment moves leads taken completes =
      by_leg task fit run.head follows.head_is_stop.1 (legs_at task run.head)
      (legs_of task ready run.head follows.head_is_stop) assigned run
      follows.whole place segment moves leads taken completes

  -- all ways on
  low_by : (level later : ℕ) → EarnAtMost task (first.next + 1) later → (fuel : ℕ) (moves : List Move)
      → length moves ≤ fuel → (assigned : Assigned) (run : PartialRun) (on : Bool) → Follows on assigned run
      → IsGoneOverFrom task first begun 0 ahead run.head → Completes task (partial assigned run) moves → total_after task (partial assigned run) moves
      ≤ assigned.total + run.value + still level on run + later
  low_by level later bound fuel [] enough assigned run on follows over completes = absurd completes
  low_by level later bound fuel (pass ∷ moves) enough assigned run on follows over completes = absurd completes.0
  low_by level later bound fuel (begin stop index segment ∷ moves) enough assigned run on follows over completes =
      absurd completes.0
  low_by level later bound zero (go index segment ∷ moves) enough assigned run on follows over completes =
      absurd (omega (arith, enough))
  low_by level later bound (suc fuel) (go index segment ∷ moves) enough assigned run on follows over completes =
      let may = completes.0 in
      let by : Leg_of on assigned run follows index segment moves =
      leg_of on assigned run follows index segment moves may.leads may.taken completes.1 in
      let leads : Leads assigned run by.leg = leads_by 0 on assigned run follows over may.passes by.place_of by.leg by.is_leg
      (omega arith) by.can in
      let rest : total_after task (partial (using assigned by.leg.segment) (along task run by.leg.segment)) by.later
      ≤ assigned.total + (run.value + value_in (node_at task by.leg.segment.to))
      + still level (passes by.leg.segment.to) (along task run by.leg.segment) + later =
      low_by level later bound fuel by.later (omega (arith, by.shorter, enough)) (using assigned by.leg.segment)
      (along task run by.leg.segment) (passes by.leg.segment.to)
      (follows_go on assigned run follows by.leg leads) (over_there assigned run by.leg leads) by.completes in
      omega (
        arith,
        rest,
        by.total,
        still_go level on assigned run follows may.passes by.place_of by.leg by.is_leg
            leads by.can,
      )
  low_by level later bound zero (turn index segment ∷ moves) enough assigned run on follows over completes =
      absurd (omega (arith, enough))
  low_by level later bound (suc fuel) (turn index segment ∷ moves) enough assigned run on follows over completes =
      let may = completes.0 in
      let back : Follows true assigned (turned_back run) = follows_back on assigned run follows in
      let by : Leg_of true assigned (turned_back run) back index segment moves =
      leg_of true assigned (turned_back run) back index segment moves may.leads may.taken completes.1 in
      let leads : Leads assigned (turned_back run) by.leg =
      leads_by run.first true assigned (turned_back run) back (follows.home may.once) may.passes by.place_of by.leg by.is_leg
      (omega (arith, may.later, by.first)) by.can in
      let rest : total_after task (partial (using assigned by.leg.segment)
      (along task (turned_back run) by.leg.segment)) by.later
      ≤ assigned.total + (run.value + value_in (node_at task by.leg.segment.to))
      + still level (passes by.leg.segment.to) (along task (turned_back run) by.leg.segment) + later =
      low_by level later bound fuel by.later (omega (arith, by.shorter, enough)) (using assigned by.leg.segment)
      (along task (turned_back run) by.leg.segment) (passes by.leg.segment.to)
      (follows_go true assigned (turned_back run) back by.leg leads)
      (over_there assigned (turned_back run) by.leg leads) by.completes in
      omega (
        arith,
        rest,
        by.total,
        still_go level true assigned (turned_back run) back may.passes
            by.place_of by.leg by.is_leg leads by.can,
        still_back level on run may.once may.passes,
      )
  low_by level later bound fuel (finish ∷ moves) enough assigned run on follows over completes =
      let here : EarnAtMost task (with_run_finished assigned run).next later =
      subst (λ (n : ℕ). EarnAtMost task (n + 1) later) (sym follows.next) bound in
      let rest : total_after task (between (with_run_finished assigned run)) moves ≤ assigned.total + run.value
      + later =
      rest_low task (with_run_finished assigned run) later here follows.whole moves completes.1 in
      omega arith

  -- all ways on, if the next trains are of the same kind
  pub low_canonical : (level most : ℕ) → 0 < begun.most → (equal later : ℕ)
      → AreEqual task (first.next + 1) equal begun.most → EarnAtMost task (first.next + 1 + equal) later
      → (fuel : ℕ) (moves : List Move) → length moves ≤ fuel → (assigned : Assigned) (run : PartialRun) (on : Bool)
      → Follows on assigned run → IsGoneOverFrom task first begun 0 ahead run.head
      → run.value + still level on run ≤ most → Completes task (partial assigned run) moves
      → total_after task (partial assigned run) moves ≤ assigned.total + most + (equal * most + later)
  low_canonical level most some equal later canonical bound fuel [] enough assigned run on follows over low completes =
      absurd completes
  low_canonical level most some equal later canonical bound fuel (pass ∷ moves) enough assigned run on follows over low
      completes = absurd completes.0
  low_canonical level most some equal later canonical bound fuel (begin stop index segment ∷ moves) enough assigned run
      on follows over low completes = absurd completes.0
  low_canonical level most some equal later canonical bound zero (go index segment ∷ moves) enough assigned run on
      follows over low completes = absurd (omega (arith, enough))
  low_canonical level most some equal later canonical bound (suc fuel) (go index segment ∷ moves) enough assigned run
      on follows over low completes =
      let may = completes.0 in
      let by : Leg_of on assigned run follows index segment moves =
      leg_of on assigned run follows index segment moves may.leads may.taken completes.1 in
      let leads : Leads assigned run by.leg = leads_by 0 on assigned run follows over may.passes by.place_of by.leg by.is_leg
      (omega arith) by.can in
      let rest = low_canonical level most some equal later canonical bound fuel by.later
      (omega (arith, by.shorter, enough)) (using assigned by.leg.segment) (along task run by.leg.segment)
      (passes by.leg.segment.to) (follows_go on assigned run follows by.leg leads) (over_there assigned run by.leg leads)
      (omega (
        arith,
        low,
        still_go level on assigned run follows may.passes by.place_of by.leg by.is_leg leads
            by.can,
      )) by.completes in
      omega (arith, rest, by.total)
  low_canonical level most some equal later canonical bound zero (turn index segment ∷ moves) enough assigned run on
      follows over low completes = absurd (omega (arith, enough))
  low_canonical level most some equal later canonical bound (suc fuel) (turn index segment ∷ moves) enough assigned run
      on follows over low completes =
      let may = completes.0 in
      let back : Follows true assigned (turned_back run) = follows_back on assigned run follows in
      let by : Leg_of true assigned (turned_back run) back index segment moves =
      leg_of true assigned (turned_back run) back index segment moves may.leads may.taken completes.1 in
      let leads : Leads assigned (turned_back run) by.leg =
      leads_by run.first true assigned (turned_back run) back (follows.home may.once) may.passes by.place_of by.leg by.is_leg
      (omega (arith, may.later, by.first)) by.can in
      let rest = low_canonical level most some equal later canonical bound fuel by.later
      (omega (arith, by.shorter, enough)) (using assigned by.leg.segment)
      (along task (turned_back run) by.leg.segment) (passes by.leg.segment.to)
      (follows_go true assigned (turned_back run) back by.leg leads)
      (over_there assigned (turned_back run) by.leg leads)
      (omega (
        arith,
        low,
        still_go level true assigned (turned_back run) back may.passes by.place_of by.leg
            by.is_leg leads by.can,
        still_back level on run may.once may.passes,
      )) by.completes in
      omega (arith, rest, by.total)
  low_canonical level most some equal later canonical bound fuel (finish ∷ moves) enough assigned run on follows over low
      completes =
      let here : AreEqual task (assigned.next + 1) equal begun.most =
      subst (λ (n : ℕ). AreEqual task (n + 1) equal begun.most) (sym follows.next) canonical in
      let there : EarnAtMost task (assigned.next + 1 + equal) later =
      subst (λ (n : ℕ). EarnAtMost task (n + 1 + equal) later) (sym follows.next) bound in
      let rest : total_after task (between (with_run_finished assigned run)) moves
      ≤ assigned.total + run.value + (equal * most + later) =
      low_assigned task begun.most most later some equal (with_run_finished assigned run) here follows.most
      (omega (arith, low)) follows.whole there moves completes.1 in
      omega (arith, rest, low)

  pub first_follows : IsStop task begun.head → IsStop task begun.home → length first.used ≡ 279
      → length begun.visited ≡ 744 → Follows (goes_on task begun) first begun
  first_follows head_is_stop begins whole spots =
      record {
        halts = λ off. inl (not-false (ends_in (node_at task begun.head)) off);
        takes =
            λ segment taken. taken;
        home = closed.home;
        head_is_stop = head_is_stop;
        begins = begins;
        next = refl;
        most = refl;
        whole = whole;
        spots = spots;
      }

  -- a leg to a stop ahead, and all ways on from there
  leg_short : (level most best : ℕ) → IsShort task first begun.most most best → (leg : Leg) → Leads first begun leg
      → Follows (passes leg.segment.to) (using first leg.segment) (along task begun leg.segment)
      → begun.value + value_in (node_at task leg.segment.to)
      + still level (passes leg.segment.to) (along task begun leg.segment) ≤ most
      → EndsAtMost task (using first leg.segment) (along task begun leg.segment) best
  leg_short level most best (inl alone) leg leads follows low moves completes =
      omega (
        arith,
        alone.2,
        low_by level alone.0 alone.1 (length moves) moves (omega arith) (using first leg.segment)
            (along task begun leg.segment) (passes leg.segment.to) follows
            (over_there first begun leg leads) completes,
        low,
      )
  leg_short level most best (inr capped) leg leads follows low moves completes =
      omega (
        arith,
        capped.short,
        low_canonical level most capped.some capped.equal capped.bound capped.are_equal
            capped.rest (length moves) moves (omega arith) (using first leg.segment)
            (along task begun leg.segment) (passes leg.segment.to) follows
            (over_there first begun leg leads) low completes,
      )

  -- by what lies ahead such a leg is in vain
  pub leg_low : IsStop task begun.head → IsStop task begun.home → length first.used ≡ 279
      → length begun.visited ≡ 744 → (level most best : ℕ)
      → begun.value + most_ahead level task nodes begun ahead ≤ most → IsShort task first begun.most most best
      → ends_in (node_at task begun.head) ≡ false → (place : ℕ) (leg : Leg)
      → slice_get (legs_at task begun.head) place ≡ Some leg → LiesAhead ahead leg.segment.to
      → can_take task begun first.used leg.segment ≡ true
      → EndsAtMost task (using first leg.segment) (along task begun leg.segment) best
  unfolding still
  leg_low head_is_stop begins whole spots level most best low short passing place leg at lies taken =
      let fits = leg_fits task fit begun.head (legs_at task begun.head) (legs_of task ready begun.head head_is_stop)
      head_is_stop.1
      leg (among_place (legs_at task begun.head) place leg at) in
      let leads : Leads first begun leg = record {
        from = begun.head;
        place = place;
        is_leg = at;
        free = free_first begun first.used leg.segment taken;
        lies = lies;
        fits = fits.0;
        stop = (fits.0.to, fits.1);
      } in
      let follows : Follows (goes_on task begun) first begun = first_follows head_is_stop begins whole spots in
      let first_most : still level true begun ≤ most_ahead level task nodes begun ahead =
      subst (λ (b : Bool). still level (not b) begun ≤ most_ahead level task nodes begun ahead) passing
      (still_first level) in
      leg_short level most best short leg leads
      (follows_go (goes_on task begun) first begun follows leg leads)
      (omega (
        arith,
        still_leg level (goes_on task begun) first begun follows leg leads taken,
        first_most,
        low,
      ))

-- a run that is finished where it is
pub finish_low : (task : Task) (assigned : Assigned) (run : PartialRun) (most best : ℕ) → length assigned.used ≡ 279
    → run.value ≤ most → IsShort task assigned run.most most best → (moves : List Move)
    → Completes task (between (with_run_finished assigned run)) moves
    → total_after task (between (with_run_finished assigned run)) moves ≤ best
finish_low task assigned run most best whole low (inl alone) moves completes =
    omega (
      arith,
      alone.2,
      low,
      rest_low task (with_run_finished assigned run) alone.0 alone.1 whole moves completes,
    )
finish_low task assigned run most best whole low (inr capped) moves completes =
    omega (
      arith,
      capped.short,
      low,
      low_assigned task run.most most capped.bound capped.some capped.equal (with_run_finished assigned run)
          capped.are_equal refl low whole capped.rest moves completes,
    )
