-- What it is to follow steps, by the marks and by what waits: one step, steps after others, and
-- none.
use Rattle.std.proofs.Common.{◌≡◌, ℕ, ◌+◌, ◌<◌, Bool, true, false, cond, if◌then◌else◌, ◌⊎◌, inl, inr, List, [], ◌∷◌}
use Rattle.std.proofs.Common.{◌++◌, length, get_or, set, refl, ap, sym, ◌∙◌, subst, arith, get_or-set_same}
use Rattle.std.proofs.Common.{get_or-set_other, length-set, length-append}
use Rattle.std.proofs.lemmas.List.{set-get_or}
use Rattle.std.proofs.lemmas.List.Sums.{sum_by-set}
use Rattle.std.proofs.lemmas.Bool.{cases_eq}
use Rattle.map_tables.specs.declared.hex.Hex.{Hex}
use Rattle.map_tables.specs.declared.track.TrackEnd.{TrackEnd}
use Rattle.map_tables.specs.declared.track.TrackEnd.TheVariants.{Side as AtSide, Stop as AtStop}
use Rattle.reach.specs.Lawful.{IsLawful}
use Rattle.map_tables.specs.declared.track.Link.{Link}
use Rattle.reach.specs.Position.{Position, IsFull}
use Rattle.reach.specs.Search.{spot_number, number_at, IsMarked, IsMarking, IsEnteredAt, IsFollowed, IsKept}
use Rattle.reach.specs.Search.{KeepsAsMany, CanEnter, CanEnterAt, CanTake, CanTakeAll, marked, Waits, AllWait}
use Rattle.reach.specs.Search.{WasFollowed, Spreads}
use Rattle.reach.specs.Walk.{spot_at, entered_at, left_at, IsTrack}
use Rattle.reach.specs.declared.walk.Spot.{Spot}
use Rattle.reach.specs.declared.walk.WalkStep.{WalkStep}
use Rattle.reach.proofs.Following.{walk_by, arrives_same}
use Rattle.reach.proofs.Reaching.{entered_either}
use Rattle.reach.proofs.Spots.{are_one}
use Rattle.tables.specs.declared.roster.Company.{Company}

-- one more mark: there is one more
pub one_more : (marks : List Bool) (n : ℕ) → n < length marks → get_or marks n false ≡ false
    → marked (set marks n true) ≡ marked marks + 1
one_more marks n low was =
    let count : Bool → ℕ = λ mark. cond mark 1 0 in
    omega (arith, sum_by-set count marks n true false low, ap count was)

-- a mark at one number: the others stay
pub set_cases : (marks : List Bool) (n m : ℕ) → get_or (set marks n true) m false ≡ true
    → (n ≡ m) ⊎ (get_or marks m false ≡ true)
set_cases marks n m is =
    elim (cases_eq m n) [
      | inl same ↦ inl (sym same)
      | inr other ↦ inr (sym (get_or-set_other marks n m true false other) ∙ is)
    ]

pub set_keeps : (marks : List Bool) (n m : ℕ) → n < length marks → get_or marks m false ≡ true
    → get_or (set marks n true) m false ≡ true
set_keeps marks n m low is =
    elim (cases_eq m n) [
      | inl same ↦ subst (λ k. get_or (set marks n true) k false ≡ true) (sym same)
          (get_or-set_same marks n true false low)
      | inr other ↦ get_or-set_other marks n m true false other ∙ is
    ]

-- the spot at the end waits, by its number
pub waits_end : (waiting : List Spot) (last spot : Spot) → spot_number last ≡ spot_number spot
    → Waits (waiting ++ last ∷ []) spot
waits_end [] last spot same = inl same
waits_end (other ∷ others) last spot same = inr (waits_end others last spot same)

-- those before the end wait
pub waits_before : (waiting : List Spot) (last spot : Spot) → Waits waiting spot → Waits (waiting ++ last ∷ []) spot
waits_before [] last spot h = absurd h
waits_before (other ∷ others) last spot (inl h) = inl h
waits_before (other ∷ others) last spot (inr h) = inr (waits_before others last spot h)

-- what waits is before the end, or it is the last
pub waits_cases : (waiting : List Spot) (last spot : Spot) → Waits (waiting ++ last ∷ []) spot
    → Waits waiting spot ⊎ (spot_number last ≡ spot_number spot)
waits_cases [] last spot (inl h) = inr h
waits_cases [] last spot (inr h) = absurd h
waits_cases (other ∷ others) last spot (inl h) = inl (inl h)
waits_cases (other ∷ others) last spot (inr h) =
    elim (waits_cases others last spot h) [ inl before ↦ inl (inr before) | inr same ↦ inr same ]

-- a spot was marked before, and all is as it was; or it is marked, and waits
abbrev pub MarkingCases : Spot → List Bool → List Spot → List Bool → List Spot → Type 0
MarkingCases spot old waited new waiting =
    (IsMarked old spot × (new ≡ old) × (waiting ≡ waited))
    ⊎ ((get_or old (spot_number spot) false ≡ false) × (new ≡ set old (spot_number spot) true)
    × (waiting ≡ waited ++ spot ∷ []))

pub marking_cases : (spot : Spot) (old : List Bool) (waited : List Spot) (new : List Bool) (waiting : List Spot)
    → IsMarking spot old waited new waiting → MarkingCases spot old waited new waiting
marking_cases spot old waited new waiting marking = by_mark (get_or old (spot_number spot) false) refl
  where
    by_mark : (was : Bool) → get_or old (spot_number spot) false ≡ was → MarkingCases spot old waited new waiting
    by_mark true was = inl (
      was,
      subst (λ b. new ≡ (if b then old else set old (spot_number spot) true)) was marking.marks,
      subst (λ b. waiting ≡ (if b then waited else waited ++ spot ∷ [])) was marking.waits,
    )
    by_mark false was = inr (
      was,
      subst (λ b. new ≡ (if b then old else set old (spot_number spot) true)) was marking.marks,
      subst (λ b. waiting ≡ (if b then waited else waited ++ spot ∷ [])) was marking.waits,
    )

-- a spot that is marked is marked
pub marks_set : (spot : Spot) (old : List Bool) (waited : List Spot) (new : List Bool) (waiting : List Spot)
    → IsMarking spot old waited new waiting → new ≡ set old (spot_number spot) true
marks_set spot old waited new waiting marking =
    elim (marking_cases spot old waited new waiting marking) [
      | inl was ↦ was.1 ∙ sym (ap (set old (spot_number spot)) (sym was.0) ∙ set-get_or old (spot_number spot) false)
      | inr not_yet ↦ not_yet.1
    ]

-- where all that is marked waits, it does so once more is marked
pub wait_on : (spot : Spot) (old : List Bool) (waited : List Spot) (new : List Bool) (waiting : List Spot)
    → AllWait old waited → IsMarking spot old waited new waiting → AllWait new waiting
wait_on spot old waited new waiting wait marking =
    elim (marking_cases spot old waited new waiting marking) [
      | inl was ↦ subst (λ m. AllWait m waiting) (sym was.1) (subst (λ w. AllWait old w) (sym was.2) wait)
      | inr not_yet ↦ subst (λ m. AllWait m waiting) (sym not_yet.1)
          (subst (λ w. AllWait (set old (spot_number spot) true) w) (sym not_yet.2)
          (record {
            all = λ other is. elim (set_cases old (spot_number spot) (spot_number other) is) [
              | inl same ↦ waits_end waited spot other same
              | inr before ↦ waits_before waited spot other (wait.all other before)
            ];
            known = λ other waits. elim (waits_cases waited spot other waits) [
              | inl before ↦ set_keeps old (spot_number spot) (spot_number other) marking.low (wait.known other before)
              | inr same ↦ subst (λ m. get_or (set old (spot_number spot) true) m false ≡ true) same
                  (get_or-set_same old (spot_number spot) true false marking.low)
            ];
          }))
    ]

module _ (position : Position) (company : Company) where
  -- no steps
  spreads_same : (P : WalkStep → Type 0) (marks : List Bool) (waiting : List Spot) (first links : Link → Type 0)
      → KeepsAsMany first links → ((step : WalkStep) → ¬ P step)
      → Spreads position company P marks waiting first marks waiting links
  spreads_same P marks waiting first links same none =
      record {
        length_kept = refl;
        kept = λ spot is. is;
        arrive = λ arrive. arrive;
        stay = λ link is. (same link).0 is;
        taken = λ taken link is. taken link ((same link).1 is);
        followed = λ step is. absurd (none step is);
        fresh = λ spot is. inl is;
        still = λ spot waits. waits;
        known = λ spot waits. inl waits;
        balance = refl;
        grown = omega arith;
      }

  pub spreads_none : (P : WalkStep → Type 0) (marks : List Bool) (waiting : List Spot) (links : Link → Type 0)
      → ((step : WalkStep) → ¬ P step) → Spreads position company P marks waiting links marks waiting links
  spreads_none P marks waiting links none =
      spreads_same P marks waiting links links (λ link. (λ is. is, λ is. is)) none

  enters_still : (old new : List Bool) → ((spot : Spot) → IsMarked old spot → IsMarked new spot)
      → (hex : Hex) (end : TrackEnd) → CanEnterAt position company old hex end → CanEnterAt position company new hex end
  enters_still old new kept hex (AtSide side) can = (can.0, can.1, kept can.0 can.2)
  enters_still old new kept hex (AtStop number) can = (kept (spot_at hex (AtStop number)) can.0, can.1)

  -- where a link may be entered it may be once more is marked
  pub can_still : (old new : List Bool) → ((spot : Spot) → IsMarked old spot → IsMarked new spot) → (at : Spot)
      → CanEnter position company old at → CanEnter position company new at
  can_still old new kept at can = enters_still old new kept at.hex at.end can

  -- what may be taken may be once more is marked
  takes_still : (old new : List Bool) → ((spot : Spot) → IsMarked old spot → IsMarked new spot)
      → (links : Link → Type 0) → CanTakeAll position company old links → CanTakeAll position company new links
  takes_still old new kept links taken link is =
      let was : CanTake position company old link = taken link is in (
        was.0,
        elim was.1 [
          | inl first ↦ inl (can_still old new kept (spot_at link.hex link.a) first)
          | inr second ↦ inr (can_still old new kept (spot_at link.hex link.b) second)
        ],
      )

  -- and the link of a step that may be taken
  takes_more : (step : WalkStep) → IsTrack position step → (marks : List Bool) (first links : Link → Type 0)
      → IsKept step.link first links → CanEnter position company marks (entered_at step)
      → CanTakeAll position company marks first → CanTakeAll position company marks links
  takes_more step track marks first links more can taken link is =
      elim (more.only link is) [
        | inl before ↦ taken link before
        | inr last ↦ subst (λ l. CanTake position company marks l) last
            (track, entered_either position company marks step.link step.turned can)
      ]

  -- a step that may be taken, and leads to what is marked
  spreads_old : (step : WalkStep) → IsTrack position step
      → (marks : List Bool) (waiting : List Spot) (first links : Link → Type 0) → IsKept step.link first links
      → CanEnter position company marks (entered_at step) → IsMarked marks (left_at step)
      → Spreads position company (λ taken. taken ≡ step) marks waiting first marks waiting links
  spreads_old step track marks waiting first links more can was =
      record {
        length_kept = refl;
        kept = λ spot is. is;
        arrive = λ arrive. arrive;
        stay = more.stay;
        taken = λ taken. takes_more step track marks first links more can taken;
        followed = λ taken is. subst (λ (s : WalkStep). WasFollowed marks links s) (sym is) (was, more.here);
        fresh = λ spot is. inl is;
        still = λ spot waits. waits;
        known = λ spot waits. inl waits;
        balance = refl;
        grown = omega arith;
      }

  -- a step that may be taken, and leads to what is not marked
  spreads_new : IsLawful position → (step : WalkStep) → IsTrack position step
      → (old : List Bool) (waited : List Spot) (first links : Link → Type 0) → IsKept step.link first links
      → spot_number (left_at step) < length old → CanEnter position company old (entered_at step)
      → get_or old (spot_number (left_at step)) false ≡ false
      → Spreads position company (λ taken. taken ≡ step) old waited first (set old (spot_number (left_at step)) true)
      (waited ++ left_at step ∷ []) links
  spreads_new lawful step track old waited first links kept low can was =
      let n : ℕ = spot_number (left_at step) in
      let more : marked (set old n true) ≡ marked old + 1 = one_more old n low was in
      let keeps : (spot : Spot) → IsMarked old spot → IsMarked (set old n true) spot =
      λ spot is. set_keeps old n (spot_number spot) low is in
      record {
        length_kept = length-set old n true;
        kept = keeps;
        arrive = λ arrive spot is. elim (set_cases old n (spot_number spot) is) [
          | inl same ↦ arrives_same position company lawful (left_at step) spot same
              (let by : (before : List WalkStep) × _ = walk_by position company lawful old arrive step track can in inr
              (step, by.0, by.1, refl))
          | inr before ↦ arrive spot before
        ];
        stay = kept.stay;
        taken = λ taken. takes_more step track (set old n true) first links kept
            (can_still old (set old n true) keeps (entered_at step) can)
            (takes_still old (set old n true) keeps first taken);
        followed = λ taken is. subst (λ (s : WalkStep). WasFollowed (set old n true) links s) (sym is)
            (get_or-set_same old n true false low, kept.here);
        fresh = λ spot is. elim (set_cases old n (spot_number spot) is) [
          | inl same ↦ inr (waits_end waited (left_at step) spot same)
          | inr before ↦ inl before
        ];
        still = λ spot waits. waits_before waited (left_at step) spot waits;
        known = λ spot waits. elim (waits_cases waited (left_at step) spot waits) [
          | inl before ↦ inl before
          | inr same ↦ inr (subst (λ m. get_or (set old n true) m false ≡ true) same
              (get_or-set_same old n true false low))
        ];
        balance = omega (arith, more, length-append waited (left_at step ∷ []));
        grown = omega (arith, more);
      }

  -- a step that may be taken marks where it is left, and its link is kept
  spreads_step : IsLawful position → (step : WalkStep) → IsTrack position step
      → (old : List Bool) (waited : List Spot) (first : Link → Type 0) (new : List Bool) (waiting : List Spot)
      (links : Link → Type 0) → IsKept step.link first links → CanEnter position company old (entered_at step)
      → IsMarking (left_at step) old waited new waiting
      → Spreads position company (λ taken. taken ≡ step) old waited first new waiting links
  spreads_step lawful step track old waited first new waiting links kept can marking =
      elim (marking_cases (left_at step) old waited new waiting marking) [
        | inl was ↦ subst (λ m. Spreads position company (λ taken. taken ≡ step) old waited first m waiting links)
            (sym was.1)
            (subst (λ w. Spreads position company (λ taken. taken ≡ step) old waited first old w links) (sym was.2)
            (spreads_old step track old waited first links kept can was.0))
        | inr not_yet ↦ subst (λ m. Spreads position company (λ taken. taken ≡ step) old waited first m waiting links)
            (sym not_yet.1)
            (subst (λ w. Spreads position company (λ taken. taken ≡ step) old waited first
            (set old (spot_number (left_at step)) true) w links) (sym not_yet.2)
            (spreads_new lawful step track old waited first links kept marking.low can not_yet.0))
      ]

  -- steps after others
  pub spreads_on : (P Q R : WalkStep → Type 0) (a : List Bool) (u : List Spot) (x : Link → Type 0) (b : List Bool)
      (v : List Spot) (y : Link → Type 0) (c : List Bool) (w : List Spot) (z : Link → Type 0)
      → Spreads position company P a u x b v y → Spreads position company Q b v y c w z
      → ((step : WalkStep) → R step → P step ⊎ Q step) → Spreads position company R a u x c w z
  spreads_on P Q R a u x b v y c w z first next either =
      record {
        length_kept = next.length_kept ∙ first.length_kept;
        kept = λ spot is. next.kept spot (first.kept spot is);
        arrive = λ arrive. next.arrive (first.arrive arrive);
        stay = λ link among. next.stay link (first.stay link among);
        taken = λ taken. next.taken (first.taken taken);
        followed = λ step is. elim (either step is) [
          | inl of_first ↦
              let was = first.followed step of_first in (next.kept (left_at step) was.0, next.stay step.link was.1)
          | inr of_next ↦ next.followed step of_next
        ];
        fresh = λ spot is. elim (next.fresh spot is) [
          | inl between ↦ elim (first.fresh spot between)
              [ inl before ↦ inl before | inr waits ↦ inr (next.still spot waits) ]
          | inr waits ↦ inr waits
        ];
        still = λ spot waits. next.still spot (first.still spot waits);
        known = λ spot waits. elim (next.known spot waits) [
          | inl between ↦ elim (first.known spot between) [ inl before ↦ inl before | inr is ↦ inr (next.kept spot is) ]
          | inr is ↦ inr is
        ];
        balance = omega (arith, first.balance, next.balance);
        grown = omega (arith, first.grown, next.grown);
      }

  -- fewer steps
  pub spreads_fewer : (P R : WalkStep → Type 0) (a : List Bool) (u : List Spot) (x : Link → Type 0) (b : List Bool)
      (v : List Spot) (y : Link → Type 0) → Spreads position company P a u x b v y → ((step : WalkStep) → R step → P step)
      → Spreads position company R a u x b v y
  spreads_fewer P R a u x b v y spreads within =
      record {
        length_kept = spreads.length_kept;
        kept = spreads.kept;
        arrive = spreads.arrive;
        stay = spreads.stay;
        taken = spreads.taken;
        followed = λ step is. spreads.followed step (within step is);
        fresh = spreads.fresh;
        still = spreads.still;
        known = spreads.known;
        balance = spreads.balance;
        grown = spreads.grown;
      }

  enters_same : (marks : List Bool) (hex : Hex) (end : TrackEnd) (other : Hex) (other_end : TrackEnd)
      → number_at hex end ≡ number_at other other_end → CanEnterAt position company marks hex end
      → CanEnterAt position company marks other other_end
  enters_same marks hex (AtSide side) other (AtSide other_side) same can =
      (can.0, sym (are_one (spot_at hex (AtSide side)) (spot_at other (AtSide other_side)) same).1 ∙ can.1, can.2)
  enters_same marks hex (AtStop number) other (AtStop other_number) same can =
      let stops : _ = (are_one (spot_at hex (AtStop number)) (spot_at other (AtStop other_number)) same).0 in (
        subst (λ n. get_or marks n false ≡ true) same can.0,
        λ full. can.1
            (subst (λ s. IsFull position s company) (cc) full),
      )
  enters_same marks hex (AtSide side) other (AtStop number) same can =
      absurd (let apart : _ = (are_one (spot_at hex (AtSide side)) (spot_at other (AtStop number)) same).0 in cc)
  enters_same marks hex (AtStop number) other (AtSide side) same can =
      absurd (let apart : _ = (are_one (spot_at hex (AtStop number)) (spot_at other (AtSide side)) same).0 in cc)

  -- a step is followed from a spot where links may be entered
  pub spreads_followed : IsLawful position → (step : WalkStep) → IsTrack position step
      → (at : Spot) (old : List Bool) (waited : List Spot) (first : Link → Type 0) (new : List Bool)
      (waiting : List Spot) (links : Link → Type 0) → CanEnter position company old at
      → IsFollowed step at old waited first new waiting links
      → Spreads position company (λ taken. (taken ≡ step) × IsEnteredAt at taken) old waited first new waiting links
  spreads_followed lawful step track at old waited first new waiting links can followed =
      let P : WalkStep → Type 0 = λ taken. (taken ≡ step) × IsEnteredAt at taken in
      elim (cases_eq (spot_number (entered_at step)) (spot_number at)) [
        | inl same ↦ spreads_fewer (λ taken. taken ≡ step) P old waited first new waiting links
            (spreads_step lawful step track old waited first new waiting links (followed.link same)
            (enters_same old at.hex at.end (entered_at step).hex (entered_at step).end (sym same) can)
            (followed.entered same))
            (λ taken is. is.0)
        | inr apart ↦
            let unchanged : (new ≡ old) × (waiting ≡ waited) × KeepsAsMany first links = followed.other apart in
            subst (λ m. Spreads position company P old waited first m waiting links) (sym unchanged.0)
            (subst (λ w. Spreads position company P old waited first old w links) (sym unchanged.1)
            (spreads_same P old waited first links unchanged.2
            (λ taken is. apart (subst (λ (s : WalkStep). IsEnteredAt at s) is.0 is.1))))
      ]
