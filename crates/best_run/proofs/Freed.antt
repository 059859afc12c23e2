-- When a run may go on as another one at its stop. It has visited no stop that the other has not,
-- and may visit as many more, or more than there are borders. It then earns as much more as it has
-- earned more.
use Rattle.std.proofs.Common.{◌≡◌, ℕ, ◌+◌, ◌<◌, ◌≤◌, Bool, true, false, not, ◌||◌, nat_le, nat_lt, ◌==◌, ◌⊎◌, inl}
use Rattle.std.proofs.Common.{inr, List, [], ◌∷◌, length, get_or, refl, sym, ap, subst, ◌∙◌, arith}
use Rattle.std.proofs.lemmas.Bool.{and_from, le-leb, leb-true, lt-ltb, ltb-true}
use Rattle.search_task.specs.declared.task.Segment.{Segment}
use Rattle.search_task.specs.declared.task.Task.{Task}
use Rattle.best_run.specs.declared.state.Assigned.{Assigned}
use Rattle.best_run.specs.declared.state.PartialRun.{PartialRun}
use Rattle.search_task.specs.Fit.{IsFit, SegmentFits}
use Rattle.search_task.specs.Marks.{Freer}
use Rattle.best_run.specs.Moves.{Completes, Move, along, begin, between, can_take, go, left_after, marked_if, may_come}
use Rattle.best_run.specs.Moves.{may_earn, partial, pass, finish, total_after, turn, turned_back, using}
use Rattle.best_run.specs.Moves.{with_run_finished}
use Rattle.search_task.specs.Spots.{LeadsFrom, ends_in, node_at, stop_in, value_in}
use Rattle.search_task.specs.Crossed.{marked_all, misses}
use Rattle.search_task.proofs.Marked.{free_misses, freer_marked, misses_free}
use Rattle.best_run.proofs.Eased.{Eased, ease, eased, freer_all, freer_set}
use Rattle.best_run.proofs.Hopeless.{take_back}
use Rattle.search_task.proofs.Marks.{length_marked, marked_fewer, marked_most}
use Rattle.search_task.proofs.Places.{leading_fits}
use Rattle.search_task.proofs.Booleans.{both_first, both_second}
use Rattle.legal_runs.specs.Law.{unused}

-- another run at the same stop
abbrev pub freed : PartialRun → ℕ → ℕ → ℕ → ℕ → List Bool → PartialRun
freed run home first left value visited =
    record {
      home = home;
      first = first;
      turned = run.turned;
      head = run.head;
      most = run.most;
      left = left;
      value =
          value;
      visited = visited;
    }

-- this many more stops may be visited, or more than there are borders
abbrev pub HasLeft : List Bool → ℕ → ℕ → Type 0
HasLeft used left more = (left ≤ more) ⊎ (unused used ≤ more)

-- one run may do what another may
pub record Frees (assigned : Assigned) (run : PartialRun) (home first left value : ℕ) (visited used : List Bool)
    (kind cap more : ℕ) : Type 0 where
  pub back : run.turned ≡ false → (home ≡ run.home) × (first ≡ run.first)
  pub left_is : HasLeft used run.left left
  pub value_is : value ≡ run.value + more
  pub freer : Freer run.visited visited
  pub borders : Freer assigned.used used
  pub looser : (kind ≡ 0) ⊎ ((assigned.kind ≡ kind) × (assigned.cap + more ≤ cap))
  pub whole : length used ≡ 279

pub record Freed (task : Task) (assigned : Assigned) (run other : PartialRun) (used : List Bool)
    (kind cap more total : ℕ) (moves : List Move) : Type 0 where
  pub completes : Completes task (partial (eased kind cap assigned total used) other) moves
  pub earns : total_after task (partial assigned run) moves + (total + more)
      ≡ total_after task (partial (eased kind cap assigned total used) other) moves + assigned.total

some_left : (used : List Bool) (left more : ℕ) → HasLeft used left more → nat_lt 0 left ≡ true → (borders : List ℕ)
    → 0 < unused used → nat_lt 0 more ≡ true
some_left used left more (inl most) some borders free = lt-ltb 0 more (omega (arith, most, ltb-true 0 left some))
some_left used left more (inr most) some borders free = lt-ltb 0 more (omega (arith, most, free))

not_marked : (visited others : List Bool) (n : ℕ) → Freer visited others → not (get_or visited n false) ≡ true
    → not (get_or others n false) ≡ true
not_marked visited others n freer none = by_case (get_or others n false) refl
  where
    marked_not : (b : Bool) → b ≡ true → not b ≡ true → ⊥
    marked_not true is none = let wrong : false ≡ true = none in cc
    marked_not false is none = let wrong : false ≡ true = is in cc

    by_case : (b : Bool) → get_or others n false ≡ b → not b ≡ true
    by_case true is = absurd (marked_not (get_or visited n false) (freer_marked visited others n freer is) none)
    by_case false is = refl

freer_if : (stop : Bool) (visited others : List Bool) (n : ℕ) → Freer visited others
    → Freer (marked_if stop visited n) (marked_if stop others n)
freer_if true visited others n freer = freer_set visited others n freer
freer_if false visited others n freer = freer

-- a segment that reaches a stop crosses a border
fewer_left : (task : Task) (from to : Bool) (segment : Segment) → SegmentFits task from segment
    → stop_in (node_at task segment.to) ≡ true → (used : List Bool) → length used ≡ 279
    → misses used segment.borders.items ≡ true → unused (marked_all used segment.borders.items) + 1 ≤ unused used
fewer_left task true to segment fits stop used whole free = let wrong : true ≡ false =
    sym stop ∙ fits.to_side refl in absurd cc
fewer_left task false to segment fits stop used whole free =
    marked_fewer used segment.borders.items whole fits.borders (fits.over refl) free

module _ (task : Task) (fit : IsFit task) where
  free_of : (assigned : Assigned) (run : PartialRun) (used : List Bool) → Freer assigned.used used → (segment : Segment)
      → can_take task run assigned.used segment ≡ true → misses used segment.borders.items ≡ true
  free_of assigned run used borders segment taken =
      let free : misses assigned.used segment.borders.items ≡ true =
      both_second (may_come (stop_in (node_at task segment.to)) run segment.to)
      (misses assigned.used segment.borders.items) taken in
      free_misses used segment.borders.items (λ border among marked. misses_free assigned.used segment.borders.items
      free border among (freer_marked assigned.used used border borders marked))

  -- a segment that may be taken
  frees_take : (assigned : Assigned) (run : PartialRun) (home first left value : ℕ) (visited used : List Bool)
      (kind cap more : ℕ) → Frees assigned run home first left value visited used kind cap more
      → (spot index : ℕ) (segment : Segment) → LeadsFrom task spot index segment
      → can_take task run assigned.used segment ≡ true
      → can_take task (freed run home first left value visited) used segment ≡ true
  frees_take assigned run home first left value visited used kind cap more frees spot index segment leads taken =
      and_from (may_come stop (freed run home first left value visited) segment.to)
      (misses used segment.borders.items) (come stop refl
      (both_first (may_come stop run segment.to) (misses assigned.used segment.borders.items) taken)) free
    where
      stop : Bool
      stop = stop_in (node_at task segment.to)

      free : misses used segment.borders.items ≡ true
      free = free_of assigned run used frees.borders segment taken

      come : (b : Bool) → stop_in (node_at task segment.to) ≡ b → may_come b run segment.to ≡ true
          → may_come b (freed run home first left value visited) segment.to ≡ true
      come false is came = refl
      come true is came =
          let fits = leading_fits task fit spot index segment leads in
          and_from (nat_lt 0 left) (not (get_or visited segment.to false))
          (some_left used run.left left frees.left_is (both_first (nat_lt 0 run.left)
          (not (get_or run.visited segment.to false)) came) segment.borders.items
          (omega (arith, fewer_left task fits.0 true segment fits.1 is used frees.whole free)))
          (not_marked run.visited visited segment.to frees.freer
          (both_second (nat_lt 0 run.left) (not (get_or run.visited segment.to false)) came))

  -- what is left after it
  left_next : (used : List Bool) (left more : ℕ) → HasLeft used left more → (segment : Segment) (b : Bool)
      → (b ≡ true → unused (marked_all used segment.borders.items) + 1 ≤ unused used)
      → HasLeft (marked_all used segment.borders.items) (left_after b left) (left_after b more)
  left_next used left more (inl most) segment true fewer = inl (omega (arith, most))
  left_next used left more (inl most) segment false fewer = inl most
  left_next used left more (inr most) segment true fewer = inr (omega (arith, most, fewer refl))
  left_next used left more (inr most) segment false fewer =
      inr (omega (arith, most, marked_most used segment.borders.items))

  frees_next : (assigned : Assigned) (run : PartialRun) (home first left value : ℕ) (visited used : List Bool)
      (kind cap more : ℕ) → Frees assigned run home first left value visited used kind cap more
      → (spot index : ℕ) (segment : Segment) → LeadsFrom task spot index segment
      → can_take task run assigned.used segment ≡ true
      → Frees (using assigned segment) (along task run segment) home first
      (left_after (stop_in (node_at task segment.to)) left) (value + value_in (node_at task segment.to))
      (marked_if (stop_in (node_at task segment.to)) visited segment.to) (marked_all used segment.borders.items) kind
      cap more
  frees_next assigned run home first left value visited used kind cap more frees spot index segment leads taken =
      let fits = leading_fits task fit spot index segment leads in
      record {
        back = frees.back;
        left_is = left_next used run.left left frees.left_is segment (stop_in (node_at task segment.to))
            (λ is. fewer_left task fits.0 true segment fits.1 is used frees.whole
            (free_of assigned run used frees.borders segment taken));
        value_is = omega (arith, frees.value_is);
        freer = freer_if (stop_in (node_at task segment.to)) run.visited visited segment.to frees.freer;
        borders = freer_all segment.borders.items assigned.used used frees.borders;
        looser = frees.looser;
        whole = length_marked used segment.borders.items ∙ frees.whole;
      }

  -- it has turned back
  frees_back : (assigned : Assigned) (run : PartialRun) (home first left value : ℕ) (visited used : List Bool)
      (kind cap more : ℕ) → Frees assigned run home first left value visited used kind cap more
      → Frees assigned (turned_back run) home first left value visited used kind cap more
  frees_back assigned run home first left value visited used kind cap more frees =
      record {
        back = λ wrong. absurd (let w : true ≡ false = wrong in cc);
        left_is = frees.left_is;
        value_is = frees.value_is;
        freer = frees.freer;
        borders = frees.borders;
        looser = frees.looser;
        whole = frees.whole;
      }

  -- a run that may be finished
  earns_freed : (before low kind cap most value more total : ℕ) → (kind ≡ 0) ⊎ ((before ≡ kind) × (low + more ≤ cap))
      → total ≡ value + more → may_earn before low most value ≡ true → may_earn kind cap most total ≡ true
  earns_freed before low kind cap most value more total (inl none) is may = rw none refl
  earns_freed before low kind cap most value more total (inr same) is may =
      by_kind (kind == 0 || not (kind == most)) (ap (λ (k : ℕ). may_earn k low most value) (sym same.0) ∙ may)
    where
      by_kind : (b : Bool) → (b || nat_le value low) ≡ true → (b || nat_le total cap) ≡ true
      by_kind true under = refl
      by_kind false under = le-leb total cap (omega (arith, leb-true value low under, same.1, is))

  -- what a run earns is earned by the other, and more
  more_both : (a b total value more assigned : ℕ) → a + (total + (value + more)) ≡ b + (assigned + value)
      → a + (total + more) ≡ b + assigned
  more_both a b total value more assigned same = omega (arith, same)

  pub free : (moves : List Move) (assigned : Assigned) (run : PartialRun) (home first left value : ℕ)
      (visited used : List Bool) (kind cap more total : ℕ)
      → Frees assigned run home first left value visited used kind cap more
      → Completes task (partial assigned run) moves → Freed task assigned run (freed run home first left value visited)
      used kind cap more total moves
  free [] assigned run home first left value visited used kind cap more total frees completes = absurd completes
  free (pass ∷ moves) assigned run home first left value visited used kind cap more total frees completes =
      absurd completes.0
  free (begin stop index segment ∷ moves) assigned run home first left value visited used kind cap more total frees
      completes = absurd completes.0
  free (go index segment ∷ moves) assigned run home first left value visited used kind cap more total frees completes =
      let may = completes.0 in
      let stop = stop_in (node_at task segment.to) in
      let rest : Freed task (using assigned segment) (along task run segment)
      (along task (freed run home first left value visited) segment) (marked_all used segment.borders.items) kind
      cap more total moves = free moves (using assigned segment) (along task run segment) home first
      (left_after stop left) (value + value_in (node_at task segment.to)) (marked_if stop visited segment.to)
      (marked_all used segment.borders.items) kind cap more total
      (frees_next assigned run home first left value visited used kind cap more frees run.head index segment
      may.leads may.taken) completes.1 in
      record {
        completes = (
          record {
            passes = may.passes;
            leads = may.leads;
            taken =
                frees_take assigned run home first left value visited used kind cap more frees run.head index segment
                may.leads may.taken;
          },
          rest.completes,
        );
        earns = rest.earns;
      }
  free (turn index segment ∷ moves) assigned run home first left value visited used kind cap more total frees
      completes =
      let may = completes.0 in
      let stop = stop_in (node_at task segment.to) in
      let back = frees.back may.once in
      let other = freed run home first left value visited in
      let turned : Frees assigned (turned_back run) home first left value visited used kind cap more =
      frees_back assigned run home first left value visited used kind cap more frees in
      let rest : Freed task (using assigned segment) (along task (turned_back run) segment)
      (along task (turned_back other) segment) (marked_all used segment.borders.items) kind cap more total moves =
      free moves (using assigned segment) (along task (turned_back run) segment) home first (left_after stop left)
      (value + value_in (node_at task segment.to)) (marked_if stop visited segment.to)
      (marked_all used segment.borders.items) kind cap more total
      (frees_next assigned (turned_back run) home first left value visited used kind cap more turned run.home index
      segment may.leads may.taken) completes.1 in
      let taken : can_take task other used segment ≡ true =
      frees_take assigned run home first left value visited used kind cap more frees run.home index segment
      may.leads (sym (take_back task run assigned.used segment) ∙ may.taken) in
      record {
        completes = (
          record {
            once = may.once;
            at_stop = may.at_stop;
            later = omega (arith, may.later, back.1);
            passes = subst (λ (n : ℕ). ends_in (node_at task n) ≡ false) (sym back.0) may.passes;
            leads = subst (λ (n : ℕ). LeadsFrom task n index segment) (sym back.0) may.leads;
            taken = take_back task other used segment ∙ taken;
          },
          rest.completes,
        );
        earns = rest.earns;
      }
  free (finish ∷ moves) assigned run home first left value visited used kind cap more total frees completes =
      let looser : (run.most ≡ 0) ⊎ ((run.most ≡ run.most) × (run.value ≤ value)) =
      inr (refl, omega (arith, frees.value_is)) in
      let rest : Eased task run.most value (between (with_run_finished assigned run)) moves (total + value) used =
      ease task moves run.most value (between (with_run_finished assigned run)) (total + value) used looser
      frees.borders completes.1 in
      let is = completes.0 in
      record {
        completes = (
          and_from (stop_in (node_at task run.head)) (may_earn kind cap run.most value)
              (both_first (stop_in (node_at task run.head)) (may_earn assigned.kind assigned.cap run.most run.value) is)
              (earns_freed assigned.kind assigned.cap kind cap run.most run.value more value frees.looser frees.value_is
              (both_second (stop_in (node_at task run.head))
              (may_earn assigned.kind assigned.cap run.most run.value) is)),
          rest.completes,
        );
        earns = more_both (total_after task (between (with_run_finished assigned run)) moves)
            (total_after task (between (eased run.most value (with_run_finished assigned run) (total + value) used))
            moves) total run.value more assigned.total (omega (arith, rest.earns, frees.value_is));
      }
