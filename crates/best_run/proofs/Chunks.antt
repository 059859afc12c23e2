-- A run that has left a stop by a segment comes, over sides, to the next stop: what it may do until
-- then is a leg. So a leg at once leads to the same state as its segments one by one.
use Rattle.std.proofs.Common.{◌≡◌, ℕ, zero, suc, ◌+◌, ◌<◌, ◌≤◌, Bool, true, false, not, ◌&&◌, nat_lt, ◌⊎◌, inl, inr}
use Rattle.std.proofs.Common.{List, [], ◌∷◌, ◌++◌, length, get_or, set, refl, sym, ap, subst, ◌∙◌, arith, length-set}
use Rattle.std.proofs.lemmas.Bool.{and_from}
use Rattle.std.proofs.lemmas.List.{length-replicate}
use Rattle.reach.proofs.Marking.{set_cases}
use Rattle.legal_runs.proofs.Marks.{among_both}
use Rattle.legal_runs.specs.TwoTrain.{none_used}
use Rattle.search_task.specs.declared.task.Segment.{Segment}
use Rattle.search_task.specs.declared.task.Task.{Task}
use Rattle.best_run.specs.declared.state.Assigned.{Assigned}
use Rattle.best_run.specs.declared.state.PartialRun.{PartialRun}
use Rattle.best_run.specs.declared.move_path.Mark.{Mark}
use Rattle.best_run.specs.declared.move_path.Mark.TheVariants.{Go}
use Rattle.best_run.specs.MovePath.{go_along}
use Rattle.search_task.specs.Fit.{BordersFit, IsFit}
use Rattle.best_run.specs.Moves.{Completes, Move, along, begin, can_take, go, left_after, marked_if, marks_of, may_come}
use Rattle.best_run.specs.Moves.{may_earn, partial, pass, finish, total_after, turn, using}
use Rattle.search_task.specs.Spots.{LeadsFrom, ends_in, node_at, stop_in, value_in}
use Rattle.search_task.specs.Crossed.{marked_all, misses}
use Rattle.search_task.specs.Legs.{AreFree, Hop, LeadsTo, borders_by, steps_by}
use Rattle.search_task.specs.Marks.{Freer, IsMarked}
use Rattle.search_task.proofs.Marked.{free_misses, freer_marked, marked_append, marked_stays}
use Rattle.search_task.proofs.Marked.{misses_free, set_stays}
use Rattle.best_run.proofs.Eased.{freer_all}
use Rattle.search_task.proofs.Marks.{length_marked}
use Rattle.search_task.proofs.Places.{leading_fits, side_value}
use Rattle.best_run.proofs.Places.{take_free}
use Rattle.search_task.proofs.Booleans.{both_first}

-- what some segments cross is free where they are
pub free_all : (segment : Segment) (hops : List Hop) (used : List Bool) → AreFree used segment hops
    → misses used (borders_by segment hops) ≡ true
free_all segment [] used free = free
free_all segment (hop ∷ hops) used free =
    let here = segment.borders.items in
    let rest : misses (marked_all used here) (borders_by hop.segment hops) ≡ true =
    free_all hop.segment hops (marked_all used here) free.1 in
    free_misses used (here ++ borders_by hop.segment hops)
    (λ border among marked. elim ((among_both border here (borders_by hop.segment hops)).0 among) [
      | inl first ↦ misses_free used here free.0 border first marked
      | inr later ↦ misses_free (marked_all used here) (borders_by hop.segment hops) rest border later
          (marked_stays used here border marked)
    ])

-- they are free where fewer borders are used
pub free_freer : (segment : Segment) (hops : List Hop) (used others : List Bool) → Freer used others
    → AreFree used segment hops → AreFree others segment hops
free_freer segment [] used others freer free =
    free_misses others segment.borders.items (λ border among marked. misses_free used segment.borders.items free
    border among (freer_marked used others border freer marked))
free_freer segment (hop ∷ hops) used others freer free = (
  free_misses others segment.borders.items (λ border among marked. misses_free used segment.borders.items free.0
      border among (freer_marked used others border freer marked)),
  free_freer hop.segment hops (marked_all used segment.borders.items) (marked_all others segment.borders.items)
      (freer_all segment.borders.items used others freer) free.1,
)

-- what is marked is marked in one of two others
abbrev IsOfBoth : List Bool → List Bool → List Bool → Type 0
IsOfBoth used others first = (border : ℕ) → IsMarked used border → IsMarked others border ⊎ IsMarked first border

set_both : (used others first : List Bool) (n : ℕ) → n < length others → IsOfBoth used others first
    → IsOfBoth (set used n true) (set others n true) first
set_both used others first n low both border marked =
    elim (set_cases used n border marked) [
      | inl same ↦ inl (subst (IsMarked (set others n true)) same (set_here others n low))
      | inr before ↦ elim (both border before) [
        | inl other ↦ inl (set_stays others n border other)
        | inr known ↦ inr
            known
      ]
    ]
  where
    set_here : (marks : List Bool) (n : ℕ) → n < length marks → IsMarked (set marks n true) n
    set_here [] n low = absurd (omega (arith, low))
    set_here (mark ∷ marks) zero low = refl
    set_here (mark ∷ marks) (suc n) low = set_here marks n (omega (arith, low))

all_of_both : (borders : List ℕ) (used others first : List Bool) → BordersFit borders → length others ≡ 279
    → IsOfBoth used others first → IsOfBoth (marked_all used borders) (marked_all others borders) first
all_of_both [] used others first fit whole both = both
all_of_both (border ∷ borders) used others first fit whole both =
    all_of_both borders (set used border true) (set others border true) first fit.1
    (length-set others border true ∙ whole)
    (set_both used others first border (omega (arith, fit.0, whole)) both)

fits_left : (xs ys : List ℕ) → BordersFit (xs ++ ys) → BordersFit xs
fits_left [] ys fit = tt
fits_left (x ∷ xs) ys fit = (fit.0, fits_left xs ys fit.1)

fits_right : (xs ys : List ℕ) → BordersFit (xs ++ ys) → BordersFit ys
fits_right [] ys fit = fit
fits_right (x ∷ xs) ys fit = fits_right xs ys fit.1

pub fits_both : (xs ys : List ℕ) → BordersFit xs → BordersFit ys → BordersFit (xs ++ ys)
fits_both [] ys first second = second
fits_both (x ∷ xs) ys first second = (first.0, fits_both xs ys first.1 second)

misses_right : (first : List Bool) (xs ys : List ℕ) → misses first (xs ++ ys) ≡ true → misses first ys ≡ true
misses_right first xs ys free =
    free_misses first ys (λ border among marked. misses_free first (xs ++ ys) free border
    ((among_both border xs ys).1 (inr among)) marked)

-- segments that are free by themselves are free where none of their borders is used
free_in : (segment : Segment) (hops : List Hop) (used others first : List Bool) → length others ≡ 279
    → IsOfBoth used others first → BordersFit (borders_by segment hops) → AreFree others segment hops
    → misses first (borders_by segment hops) ≡ true → AreFree used segment hops
free_in segment [] used others first whole both fit free misses_it =
    free_misses used segment.borders.items (λ border among marked. elim (both border marked) [
      | inl other ↦ misses_free others segment.borders.items free border among other
      | inr known ↦ misses_free first segment.borders.items misses_it border among known
    ])
free_in segment (hop ∷ hops) used others first whole both fit free misses_it =
    let here = segment.borders.items in
    let rest = borders_by hop.segment hops in (
      free_misses used here (λ border among marked. elim (both border marked) [
        | inl other ↦ misses_free others here free.0 border among other
        | inr known ↦ misses_free first (here ++ rest) misses_it border ((among_both border here rest).1 (inl among))
            known
      ]),
      free_in hop.segment hops (marked_all used here) (marked_all others here) first (length_marked others here ∙ whole)
          (all_of_both here used others first (fits_left here rest fit) whole both) (fits_right here rest fit) free.1
          (misses_right first here rest misses_it),
    )

pub free_used : (segment : Segment) (hops : List Hop) (used : List Bool) → BordersFit (borders_by segment hops)
    → AreFree none_used segment hops → misses used (borders_by segment hops) ≡ true → AreFree used segment hops
free_used segment hops used fit free misses_it =
    free_in segment hops used none_used used (length-replicate 279 false) (λ border marked. inr marked) fit free
    misses_it

-- the borders of some segments have numbers
pub fits_by : (task : Task) → IsFit task → (segment : Segment) (hops : List Hop) (to : ℕ)
    → BordersFit segment.borders.items → LeadsTo task segment hops to → BordersFit (borders_by segment hops)
fits_by task fit segment [] to fits leads = fits
fits_by task fit segment (hop ∷ hops) to fits leads =
    let next = leading_fits task fit segment.to hop.place hop.segment leads.1 in
    fits_both segment.borders.items (borders_by hop.segment hops) fits
    (fits_by task fit hop.segment hops to next.1.borders leads.2)

-- some borders are used, and a run has reached a stop
abbrev pub over : Assigned → List ℕ → Assigned
over assigned borders = record assigned { used = marked_all assigned.used borders }

abbrev pub arrived : Task → PartialRun → ℕ → PartialRun
arrived task run to =
    record run {
      head = to;
      left = left_after (stop_in (node_at task to)) run.left;
      value = run.value + value_in (node_at task to);
      visited = marked_if (stop_in (node_at task to)) run.visited to;
    }

module _ (task : Task) (fit : IsFit task) where
  -- a side on the way changes nothing
  arrived_by : (run : PartialRun) (segment : Segment) (to : ℕ) → stop_in (node_at task segment.to) ≡ false
      → arrived task (along task run segment) to ≡ arrived task run to
  arrived_by run segment to side =
      let At : ℕ → ℕ → List Bool → PartialRun = λ left value visited. record run {
        head = to;
        left = left_after (stop_in (node_at task to)) left;
        value = value + value_in (node_at task to);
        visited = marked_if (stop_in (node_at task to)) visited to;
      } in
      let one : left_after (stop_in (node_at task segment.to)) run.left ≡ run.left =
      ap (λ b. left_after b run.left) side in
      let two : run.value + value_in (node_at task segment.to) ≡ run.value =
      omega (arith, side_value task fit segment.to side) in
      let three : marked_if (stop_in (node_at task segment.to)) run.visited segment.to ≡ run.visited =
      ap (λ b. marked_if b run.visited segment.to) side in
      ap (λ (l : ℕ). At l (run.value + value_in (node_at task segment.to))
      (marked_if (stop_in (node_at task segment.to)) run.visited segment.to)) one
      ∙ ap (λ (v : ℕ). At run.left v (marked_if (stop_in (node_at task segment.to)) run.visited segment.to)) two
      ∙ ap (λ (m : List Bool). At run.left run.value m) three

  come_by : (run : PartialRun) (segment : Segment) (to : ℕ) → stop_in (node_at task segment.to) ≡ false
      → may_come true (along task run segment) to ≡ may_come true run to
  come_by run segment to side =
      let one : left_after (stop_in (node_at task segment.to)) run.left ≡ run.left =
      ap (λ b. left_after b run.left) side in
      let three : marked_if (stop_in (node_at task segment.to)) run.visited segment.to ≡ run.visited =
      ap (λ b. marked_if b run.visited segment.to) side in
      ap (λ (l : ℕ). nat_lt 0 l && not (get_or (marked_if (stop_in (node_at task segment.to)) run.visited segment.to)
      to false)) one
      ∙ ap (λ (m : List Bool). nat_lt 0 run.left && not (get_or m to false)) three

  -- what comes after a segment begins with a leg
  pub record Chunk (assigned : Assigned) (run : PartialRun) (segment : Segment) (moves : List Move) : Type 0 where
    pub hops : List Hop
    pub to : ℕ
    pub later : List Move
    pub shorter : length later ≤ length moves
    pub leads : LeadsTo task segment hops to
    pub free : AreFree assigned.used segment hops
    pub come : may_come true run to ≡ true
    pub completes : Completes task (partial (over assigned (borders_by segment hops)) (arrived task run to)) later
    pub total : total_after task (partial (using assigned segment) (along task run segment)) moves
        ≡ total_after task (partial (over assigned (borders_by segment hops)) (arrived task run to)) later

  chunk_more : (assigned : Assigned) (run : PartialRun) (segment next : Segment) (place : ℕ) (moves : List Move)
      → stop_in (node_at task segment.to) ≡ false → ends_in (node_at task segment.to) ≡ false
      → LeadsFrom task segment.to place next → misses assigned.used segment.borders.items ≡ true
      → Chunk (using assigned segment) (along task run segment) next moves
      → Chunk assigned run segment (go place next ∷ moves)
  chunk_more assigned run segment next place moves side passes leads free rest =
      let same : partial (over (using assigned segment) (borders_by next rest.hops))
      (arrived task (along task run segment) rest.to)
      ≡ partial (over assigned (segment.borders.items ++ borders_by next rest.hops)) (arrived task run rest.to) =
      ap (λ (u : List Bool). partial (record assigned { used = u }) (arrived task (along task run segment) rest.to))
      (marked_append assigned.used segment.borders.items (borders_by next rest.hops))
      ∙ ap (λ (r : PartialRun). partial (over assigned (segment.borders.items ++ borders_by next rest.hops)) r)
      (arrived_by run segment rest.to side)
      in
      record {
        hops = record { place = place; segment = next } ∷ rest.hops;
        to = rest.to;
        later = rest.later;
        shorter = omega (arith, rest.shorter);
        leads = ((side, passes), leads, rest.leads);
        free = (free, rest.free);
        come = sym (come_by run segment rest.to side) ∙ rest.come;
        completes = subst (λ s. Completes task s rest.later) same rest.completes;
        total = rest.total ∙ ap (λ s. total_after task s rest.later) same;
      }

  pub chunk_of : (moves : List Move) (assigned : Assigned) (run : PartialRun) (segment : Segment) (stop : Bool)
      → stop_in (node_at task segment.to) ≡ stop → can_take task run assigned.used segment ≡ true
      → Completes task (partial (using assigned segment) (along task run segment)) moves
      → Chunk assigned run segment moves
  chunk_of moves assigned run segment true is can completes =
      record {
        hops = [];
        to = segment.to;
        later = moves;
        shorter = omega arith;
        leads = (is, refl);
        free = take_free task run assigned.used segment can;
        come = sym (ap (λ b. may_come b run segment.to) is)
            ∙ both_first (may_come (stop_in (node_at task segment.to)) run segment.to)
            (misses assigned.used segment.borders.items) can;
        completes = completes;
        total = refl;
      }
  chunk_of [] assigned run segment false is can completes = absurd completes
  chunk_of (pass ∷ moves) assigned run segment false is can completes = absurd completes.0
  chunk_of (begin stop place next ∷ moves) assigned run segment false is can completes = absurd completes.0
  chunk_of (go place next ∷ moves) assigned run segment false is can completes =
      let may = completes.0 in
      chunk_more assigned run segment next place moves is may.passes may.leads
      (take_free task run assigned.used segment can)
      (chunk_of moves (using assigned segment) (along task run segment) next (stop_in (node_at task next.to)) refl
      may.taken completes.1)
  chunk_of (turn place next ∷ moves) assigned run segment false is can completes =
      absurd (let wrong : false ≡ true = sym is ∙ completes.0.at_stop in cc)
  chunk_of (finish ∷ moves) assigned run segment false is can completes =
      absurd (let wrong : false ≡ true = sym is ∙ both_first (stop_in (node_at task segment.to))
      (may_earn assigned.kind assigned.cap (along task run segment).most (along task run segment).value)
      completes.0 in cc)

  -- whatever comes after a leg comes after its segments
  pub record Back (assigned : Assigned) (run : PartialRun) (segment : Segment) (hops : List Hop) (to : ℕ)
      (later : List Move) : Type 0 where
    pub can : can_take task run assigned.used segment ≡ true
    pub moves : List Move
    pub completes : Completes task (partial (using assigned segment) (along task run segment)) moves
    pub total : total_after task (partial (using assigned segment) (along task run segment)) moves
        ≡ total_after task (partial (over assigned (borders_by segment hops)) (arrived task run to)) later
    pub marks_are : Go segment.step ∷ marks_of moves ≡ go_along (steps_by segment hops) ++ marks_of later

  pub chunk_back : (hops : List Hop) (assigned : Assigned) (run : PartialRun) (segment : Segment) (to : ℕ)
      (later : List Move) → LeadsTo task segment hops to → AreFree assigned.used segment hops
      → may_come true run to ≡ true → Completes task
      (partial (over assigned (borders_by segment hops)) (arrived task run to)) later
      → Back assigned run segment hops to later
  chunk_back [] assigned run segment to later leads free come completes =
      let same : to ≡ segment.to = sym leads.1 in
      record {
        can = and_from (may_come (stop_in (node_at task segment.to)) run segment.to)
            (misses assigned.used segment.borders.items)
            (ap (λ b. may_come b run segment.to) leads.0 ∙ (ap (λ (n : ℕ). may_come true run n) leads.1 ∙ come)) free;
        moves = later;
        completes = subst (λ (n : ℕ). Completes task (partial (using assigned segment) (arrived task run n)) later)
            same completes;
        total = ap (λ (n : ℕ). total_after task (partial (using assigned segment) (arrived task run n)) later) leads.1;
        marks_are = refl;
      }
  chunk_back (hop ∷ hops) assigned run segment to later leads free come completes =
      let side = leads.0.0 in
      let same : partial (over (using assigned segment) (borders_by hop.segment hops))
      (arrived task (along task run segment) to) ≡ partial
      (over assigned (segment.borders.items ++ borders_by hop.segment hops)) (arrived task run to) =
      ap (λ (u : List Bool). partial (record assigned { used = u }) (arrived task (along task run segment) to))
      (marked_append assigned.used segment.borders.items (borders_by hop.segment hops))
      ∙ ap (λ (r : PartialRun). partial (over assigned (segment.borders.items ++ borders_by hop.segment hops)) r)
      (arrived_by run segment to side)
      in
      let rest : Back (using assigned segment) (along task run segment) hop.segment hops to later =
      chunk_back hops (using assigned segment) (along task run segment) hop.segment to later leads.2 free.1
      (come_by run segment to side ∙ come) (subst (λ s. Completes task s later) (sym same) completes) in
      record {
        can = and_from (may_come (stop_in (node_at task segment.to)) run segment.to)
            (misses assigned.used segment.borders.items) (ap (λ b. may_come b run segment.to) side) free.0;
        moves = go hop.place hop.segment ∷ rest.moves;
        completes = (record { passes = leads.0.1; leads = leads.1; taken = rest.can }, rest.completes);
        total = rest.total ∙ ap (λ s. total_after task s later) same;
        marks_are = ap (λ (marks : List Mark). Go segment.step ∷ marks) rest.marks_are;
      }
