-- A state of the search and the walk that it stands for: a segment is taken exactly if a step goes
-- on.
use Rattle.std.proofs.Common.{◌≡◌, ◌↔◌, ℕ, ◌+◌, ◌-◌, ◌<◌, Bool, true, ◌⊎◌, inl, inr, Option, Some, None, List, ◌∷◌}
use Rattle.std.proofs.Common.{◌++◌, length, set, sym, ap, subst, ◌∙◌, arith, length-set}
use Rattle.map_tables.specs.declared.place.Stop.{Stop}
use Rattle.reach.specs.Position.{Position, IsAmong}
use Rattle.reach.specs.Search.{spot_number}
use Rattle.reach.specs.Walk.{entered_at, left_at, stop_of}
use Rattle.reach.specs.declared.walk.Spot.{Spot}
use Rattle.reach.specs.declared.walk.WalkStep.{WalkStep}
use Rattle.tables.specs.declared.rolling_stock.Kind.{Kind}
use Rattle.tables.specs.declared.roster.Company.{Company}
use Rattle.legal_runs.specs.Legal.{border_at, worth}
use Rattle.legal_runs.proofs.Marks.{among_both}
use Rattle.search_task.specs.declared.task.Segment.{Segment}
use Rattle.search_task.specs.declared.task.Task.{Task}
use Rattle.best_run.specs.declared.state.Assigned.{Assigned}
use Rattle.best_run.specs.declared.state.PartialRun.{PartialRun}
use Rattle.search_task.specs.Described.{Describes, IsNodeAt, IsSegmentOf, IsSideNode, IsStopNode}
use Rattle.search_task.specs.Fit.{BordersFit}
use Rattle.search_task.specs.Marks.{IsMarked}
use Rattle.best_run.specs.Moves.{along, left_after, marked_if, own_before, turned_back, using}
use Rattle.search_task.specs.Crossed.{marked_all}
use Rattle.search_task.specs.Spots.{node_at, stop_in}
use Rattle.best_run.proofs.Backwards.{AreCanonical}
use Rattle.search_task.proofs.Marks.{length_marked}
use Rattle.search_task.proofs.Described.{border_fits, one_number, same_spot, spot_low}
use Rattle.search_task.proofs.Marked.{mark_more, marks_more}

-- what a state says of a run: where it is, its stops and its borders, beside those of other runs
pub record Tells (task : Task) (position : Position) (company : Company) (most : ℕ) (others : List ℕ) (at : Spot)
    (stops : List Stop) (borders : List ℕ) (assigned : Assigned) (run : PartialRun) : Type 0 where
  pub head : run.head ≡ spot_number at
  pub left : run.left + length stops ≡ most
  pub value : run.value ≡ worth position stops
  pub visited : (spot : Spot) (stop : Stop) → stop_of spot ≡ Some stop
      → IsMarked run.visited (spot_number spot) ↔ (IsAmong stop stops
      ⊎ IsMarked (own_before task run.home) (spot_number spot))
  pub used : (border : ℕ) → IsMarked assigned.used border ↔ (IsAmong border borders ⊎ IsAmong border others)
  pub spots : length run.visited ≡ 744
  pub whole : length assigned.used ≡ 279

module _ (position : Position) (company : Company) (kinds : List Kind) (task : Task)
    (describes : Describes position company kinds task) where
  -- what is known of the spot where a step is left
  pub node_left : (spot : Spot) (found : Option Stop) → stop_of spot ≡ found
      → IsNodeAt position company found (node_at task (spot_number spot))
  node_left spot found is = subst (λ o. IsNodeAt position company o (node_at task (spot_number spot))) is
      (describes.spots spot)

  used_more : (most : ℕ) (others : List ℕ) (at : Spot) (stops : List Stop) (borders : List ℕ) (assigned : Assigned)
      (run : PartialRun) → Tells task position company most others at stops borders assigned run
      → (step : WalkStep) (segment : Segment) → IsSegmentOf step segment → (border : ℕ)
      → IsMarked (using assigned segment).used border
      ↔ (IsAmong border (border_at (entered_at step).hex (entered_at step).end ++ borders) ⊎ IsAmong border others)
  used_more most others at stops borders assigned run tells step segment is border =
      let new = border_at (entered_at step).hex (entered_at step).end in
      let fits : BordersFit segment.borders.items = subst BordersFit (sym is.borders)
      (border_fits (entered_at step).hex (entered_at step).end) in
      let marks : IsMarked (marked_all assigned.used segment.borders.items) border
      ↔ (IsAmong border segment.borders.items ⊎ IsMarked assigned.used border) =
      marks_more assigned.used segment.borders.items fits tells.whole border in
      let both : IsAmong border (new ++ borders) ↔ (IsAmong border new ⊎ IsAmong border borders) =
      among_both border new borders in
      let old = tells.used border in (
        λ marked. elim (marks.0 marked) [
          | inl among ↦ inl (both.1 (inl (subst (IsAmong border) is.borders among)))
          | inr before ↦ elim (old.0 before) [ inl own ↦ inl (both.1 (inr own)) | inr other ↦ inr other ]
        ],
        λ among. elim among [
          | inl own ↦ elim (both.0 own) [
            | inl here ↦ marks.1 (inl (subst (IsAmong border) (sym is.borders) here))
            | inr before ↦ marks.1 (inr (old.1 (inl before)))
          ]
          | inr other ↦ marks.1 (inr (old.1 (inr other)))
        ],
      )

  -- a step to a stop
  pub to_stop : (most : ℕ) (others : List ℕ) (at : Spot) (stops : List Stop) (borders : List ℕ) (assigned : Assigned)
      (run : PartialRun) → Tells task position company most others at stops borders assigned run
      → (step : WalkStep) (segment : Segment) → IsSegmentOf step segment → (stop : Stop)
      → stop_of (left_at step) ≡ Some stop → 0 < run.left
      → Tells task position company most others (left_at step) (stop ∷ stops)
      (border_at (entered_at step).hex (entered_at step).end ++ borders) (using assigned segment)
      (along task run segment)
  to_stop most others at stops borders assigned run tells step segment is stop there some =
      let node : IsStopNode position company stop (node_at task (spot_number (left_at step))) =
      node_left (left_at step) (Some stop) there in
      let here : IsStopNode position company stop (node_at task segment.to) =
      subst (λ (n : ℕ). IsStopNode position company stop (node_at task n)) (sym is.to) node in
      let left : left_after (stop_in (node_at task segment.to)) run.left ≡ run.left - 1 =
      ap (λ b. left_after b run.left) here.stops in
      let low : segment.to < length run.visited = omega (arith, tells.spots, is.to, spot_low (left_at step)) in
      let marks : marked_if (stop_in (node_at task segment.to)) run.visited segment.to
      ≡ set run.visited segment.to true = ap (λ b. marked_if b run.visited segment.to) here.stops in
      record {
        head = is.to;
        left = omega (arith, tells.left);
        value = omega (arith, tells.value, here.value);
        visited = λ spot other other_is.
            let one : IsMarked (set run.visited segment.to true) (spot_number spot)
            ↔ ((spot_number spot ≡ segment.to) ⊎ IsMarked run.visited (spot_number spot)) =
            mark_more run.visited segment.to (spot_number spot) low in
            let old = tells.visited spot other other_is in
            subst (λ (marks : List Bool). IsMarked marks (spot_number spot)
            ↔ (IsAmong other (stop ∷ stops) ⊎ IsMarked (own_before task run.home) (spot_number spot))) (sym marks) (
              λ marked. elim (one.0 marked) [
                | inl same ↦ inl (inl (sym (same_spot spot (left_at step) other stop other_is there (same ∙ is.to))))
                | inr before ↦ elim (old.0 before) [ inl among ↦ inl (inr among) | inr passed ↦ inr passed ]
              ],
              λ either. elim either [
                | inl among ↦ elim among [
                  | inl same ↦ one.1 (inl (one_number spot (left_at step) other other_is
                      (there ∙ ap (λ (s : Stop). Some s) same) ∙ sym is.to))
                  | inr before ↦ one.1 (inr (old.1 (inl before)))
                ]
                | inr passed ↦ one.1 (inr (old.1 (inr passed)))
              ],
            );
        used = used_more most others at stops borders assigned run tells step segment is;
        spots = ap (λ (marks : List Bool). length marks) marks ∙ (length-set run.visited segment.to true ∙ tells.spots);
        whole = length_marked assigned.used segment.borders.items ∙ tells.whole;
      }

  -- a step to a side
  pub to_side : (most : ℕ) (others : List ℕ) (at : Spot) (stops : List Stop) (borders : List ℕ) (assigned : Assigned)
      (run : PartialRun) → Tells task position company most others at stops borders assigned run
      → (step : WalkStep) (segment : Segment) → IsSegmentOf step segment → stop_of (left_at step) ≡ None
      → Tells task position company most others (left_at step) stops
      (border_at (entered_at step).hex (entered_at step).end ++ borders) (using assigned segment)
      (along task run segment)
  to_side most others at stops borders assigned run tells step segment is side =
      let node : IsSideNode (node_at task (spot_number (left_at step))) = node_left (left_at step) None side in
      let here : IsSideNode (node_at task segment.to) =
      subst (λ (n : ℕ). IsSideNode (node_at task n)) (sym is.to) node in
      let left : left_after (stop_in (node_at task segment.to)) run.left ≡ run.left =
      ap (λ b. left_after b run.left) here.stops in
      let marks : marked_if (stop_in (node_at task segment.to)) run.visited segment.to ≡ run.visited =
      ap (λ b. marked_if b run.visited segment.to) here.stops in
      record {
        head = is.to;
        left = omega (arith, tells.left);
        value = omega (arith, tells.value, here.value);
        visited = λ spot other other_is.
            subst (λ (seen : List Bool). IsMarked seen (spot_number spot)
            ↔ (IsAmong other stops ⊎ IsMarked (own_before task run.home) (spot_number spot))) (sym marks)
            (tells.visited spot other other_is);
        used = used_more most others at stops borders assigned run tells step segment is;
        spots = ap (λ (seen : List Bool). length seen) marks ∙ tells.spots;
        whole = length_marked assigned.used segment.borders.items ∙ tells.whole;
      }

  -- a run that turns back is where it began; its stops and borders may be listed in another order
  pub to_home : (most : ℕ) (others : List ℕ) (at : Spot) (stops : List Stop) (borders : List ℕ) (assigned : Assigned)
      (run : PartialRun) → Tells task position company most others at stops borders assigned run
      → (home : Spot) (seen : List Stop) (gone : List ℕ) → run.home ≡ spot_number home → AreCanonical stops seen
      → worth position stops ≡ worth position seen → AreCanonical borders gone
      → Tells task position company most others home seen gone assigned (turned_back run)
  to_home most others at stops borders assigned run tells home seen gone is canonical earns same =
      record {
        head = is;
        left = omega (arith, tells.left, canonical.long);
        value = tells.value ∙ earns;
        visited = λ spot stop there.
            let old = tells.visited spot stop there in
            let among = canonical.among stop in (
              λ marked. elim (old.0 marked) [ inl here ↦ inl (among.0 here) | inr passed ↦ inr passed ],
              λ either. elim either [ inl here ↦ old.1 (inl (among.1 here)) | inr passed ↦ old.1 (inr passed) ],
            );
        used = λ border.
            let old = tells.used border in
            let among = same.among border in (
              λ marked. elim (old.0 marked) [ inl here ↦ inl (among.0 here) | inr other ↦ inr other ],
              λ either. elim either [ inl here ↦ old.1 (inl (among.1 here)) | inr other ↦ old.1 (inr other) ],
            );
        spots = tells.spots;
        whole = tells.whole;
      }
