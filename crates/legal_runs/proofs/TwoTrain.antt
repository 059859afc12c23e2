-- A search from the tokens of a company finds a run for a 2-train exactly if there is one. What it
-- follows is such a run. It follows each such run from its beginning, or from its end if the token
-- is there.
use Rattle.std.proofs.Common.{◌≡◌, ◌↔◌, ℕ, ◌+◌, ◌<◌, ◌≤◌, Bool, true, false, inl, inr, Option, Some}
use Rattle.std.proofs.Common.{None, IfSome, option_map, List, [], ◌∷◌, ◌++◌, length, get_or, set, take, replicate, refl}
use Rattle.std.proofs.Common.{ap, sym, ◌∙◌, subst, arith, get_or-set_same, get_or-set_other}
use Rattle.std.specs.List.{AllByRecursion}
use Rattle.std.proofs.lemmas.Bool.{false_from_ne_true}
use Rattle.map_tables.specs.Border.{neighbour_of}
use Rattle.map_tables.specs.Laws.{NeighboursPair}
use Rattle.map_tables.specs.Side.{facing_of}
use Rattle.map_tables.specs.declared.hex.Hex.{Hex}
use Rattle.map_tables.specs.declared.place.Stop.{Stop}
use Rattle.map_tables.specs.declared.side.Side.{Side}
use Rattle.map_tables.specs.declared.track.TrackEnd.{TrackEnd}
use Rattle.map_tables.specs.declared.track.TrackEnd.TheVariants.{Side as AtSide, Stop as AtStop}
use Rattle.map_tables.specs.declared.track.Link.{Link}
use Rattle.reach.specs.Lawful.{IsLawful}
use Rattle.reach.specs.Position.{Position, HasToken, IsAmong, IsFull, is_red, links_of}
use Rattle.reach.specs.Walk.{AreJoined, IsTrack, IsWalk, PassesOnly, across, across_end, begins_at, entered_at, left_at}
use Rattle.reach.specs.Walk.{spot_at, stop_at_end, stop_of}
use Rattle.reach.specs.declared.walk.Spot.{Spot}
use Rattle.reach.specs.declared.walk.WalkStep.{WalkStep}
use Rattle.reach.proofs.Lists.{among_next}
use Rattle.reach.proofs.Marking.{set_cases, set_keeps}
use Rattle.reach.proofs.Spots.{back}
use Rattle.reach.proofs.Collected.{none_marked}
use Rattle.tables.specs.declared.rolling_stock.Kind.TheVariants.{Two}
use Rattle.tables.specs.declared.roster.Company.{Company}
use Rattle.legal_runs.specs.Legal.{AreDistinct, HasSuch, IsLegalRun, border_at, crossed, first_stop, listed, visited}
use Rattle.legal_runs.specs.Marks.{marked}
use Rattle.legal_runs.specs.TwoTrain.{CanRun, Continues, IsFree, LeadsOn, LeavesToken, crossing, crossing_end}
use Rattle.legal_runs.specs.TwoTrain.{none_used, over_border}
use Rattle.legal_runs.proofs.Borders.{faced}
use Rattle.legal_runs.proofs.TallyOfWalk.{crossed_low, length_marked}
use Rattle.legal_runs.proofs.RunReached.{flipped, flip_enters, flip_leaves, no_stop_across}

-- a border is marked where it was crossed, and nowhere else
marked_among : (borders : List ℕ) (border : ℕ) → get_or (marked none_used borders) border false ≡ true
    → IsAmong border borders
marked_among [] border is = let none : get_or (replicate 279 false) border false ≡ false =
    none_marked 279 border in absurd (let wrong : true ≡ false = sym is ∙ none in cc)
marked_among (other ∷ borders) border is =
    elim (set_cases (marked none_used borders) other border is) [
      | inl same ↦ inl same
      | inr before ↦ inr (marked_among borders border before)
    ]

among_marked : (borders : List ℕ) (border : ℕ) → AllByRecursion (λ b. b < 279) borders → IsAmong border borders
    → get_or (marked none_used borders) border false ≡ true
among_marked [] border low among = absurd among
among_marked (other ∷ borders) border low (inl same) = grind (arith, get_or-set_same, length_marked)
among_marked (other ∷ borders) border low (inr later) = grind (arith, set_keeps, length_marked, among_marked borders border low.1 later)

-- the border at an end that is free was not crossed, and is then
over_is : (hex : Hex) (end : TrackEnd) (borders : List ℕ)
    → over_border (marked none_used borders) hex end ≡ marked none_used (border_at hex end ++ borders)
over_is hex (AtSide side) borders = refl
over_is hex (AtStop number) borders = refl

distinct_over : (hex : Hex) (end : TrackEnd) (borders : List ℕ) → AllByRecursion (λ b. b < 279) borders
    → IsFree (marked none_used borders) hex end → AreDistinct borders → AreDistinct (border_at hex end ++ borders)
distinct_over hex (AtSide side) borders low free distinct = grind (arith, among_marked, distinct)
distinct_over hex (AtStop number) borders low free distinct = grind arith

free_there : (hex : Hex) (end : TrackEnd) (borders : List ℕ) → stop_at_end hex end ≡ None
    → AreDistinct (border_at hex end ++ borders) → IsFree (marked none_used borders) hex end
free_there hex (AtSide side) borders none distinct = grind (arith, marked_among, false_from_ne_true)
free_there hex (AtStop number) borders none distinct = absurd cc

pub others_distinct : (hex : Hex) (end : TrackEnd) (borders : List ℕ) → AreDistinct (border_at hex end ++ borders)
    → AreDistinct borders
others_distinct hex (AtSide side) borders distinct = grind arith
others_distinct hex (AtStop number) borders distinct = grind arith

-- no stop is passed at a border
passed_none : (P : Stop → Type 0) (marks : List Bool) (hex : Hex) (end : TrackEnd) → IsFree marks hex end
    → IfSome (stop_at_end hex end) P
passed_none P marks hex (AtSide side) free = tt
passed_none P marks hex (AtStop number) free = absurd free

none_there : (spot other : Spot) → across spot ≡ Some other → stop_of spot ≡ None
none_there spot other over = by_end spot.end over
  where
    by_end : (end : TrackEnd) → across_end spot.hex end ≡ Some other → stop_at_end spot.hex end ≡ None
    by_end (AtSide side) over = refl
    by_end (AtStop number) over = absurd cc

-- no border lies at a stop
pub no_border : (hex : Hex) (end : TrackEnd) (stop : Stop) → stop_at_end hex end ≡ Some stop → border_at hex end ≡ []
no_border hex (AtSide side) stop is = absurd cc
no_border hex (AtStop number) stop is = refl

none_crossed : (step : WalkStep) (stop : Stop) → stop_of (entered_at step) ≡ Some stop → crossed (step ∷ []) ≡ []
none_crossed step stop is = grind arith

-- nothing is used before
pub free_of_none : (borders : List ℕ) → AllByRecursion (λ border. ¬ IsAmong border []) borders
free_of_none [] = tt
free_of_none (border ∷ borders) = (λ none. none, free_of_none borders)

module _ (position : Position) (company : Company) (start : Stop) where
  -- a walk that began at the stop and has passed no other
  record Underway (step : WalkStep) (before : List WalkStep) : Type 0 where
    walk : IsWalk position (step ∷ before)
    begins : stop_of (begins_at step before) ≡ Some start
    stops : (first_stop before step ++ visited before) ≡ start ∷ []
    distinct : AreDistinct (crossed (step ∷ before))
    red : PassesOnly (λ stop. ¬ (is_red position stop ≡ true)) (step ∷ before)
    full : PassesOnly (λ stop. ¬ IsFull position stop company) (step ∷ before)

  -- it reaches another stop
  arrived : (step : WalkStep) (before : List WalkStep) → Underway step before → HasToken position start company
      → (stop : Stop) → stop_of (left_at step) ≡ Some stop → ¬ (stop ≡ start)
      → IsLegalRun position company Two [] (step ∷ before)
  arrived step before way token stop is other =
      let all : visited (step ∷ before) ≡ stop ∷ start ∷ [] =
      ap (λ (found : Option Stop). listed found ++ (first_stop before step ++ visited before)) is
      ∙ ap (λ (rest : List Stop). stop ∷ rest) way.stops in
      let count : length (visited (step ∷ before)) ≡ 2 = ap length all in
      record {
        walk = way.walk;
        begins = (start, way.begins, tt);
        ends = (stop, is);
        two = omega arith;
        most = omega arith;
        no_stop_twice = subst (λ (stops : List Stop). AreDistinct stops) (sym all)
            (λ h. elim h [ inl same ↦ other (sym same) | inr none ↦ none ], (λ none. none, tt));
        own_token = subst (λ (stops : List Stop). HasSuch (λ s. HasToken position s company) stops) (sym all)
            (inr (inl token));
        no_border_twice = way.distinct;
        no_used_border = free_of_none (crossed (step ∷ before));
        no_red_inside = way.red;
        no_full_inside = way.full;
      }

  -- or goes over a border
  further : (step : WalkStep) (before : List WalkStep) (next : WalkStep) → Underway step before → IsTrack position next
      → across (left_at step) ≡ Some (entered_at next)
      → IsFree (marked none_used (crossed (step ∷ before))) (entered_at next).hex (entered_at next).end
      → Underway next (step ∷ before)
  further step before next way track over free =
      let at : Spot = entered_at next in
      let marks : List Bool = marked none_used (crossed (step ∷ before)) in
      record {
        walk = (track, inr over, way.walk);
        begins = way.begins;
        stops = ap (λ (found : Option Stop). listed found ++ (first_stop before step ++ visited before))
            (none_there (left_at step) at over) ∙ way.stops;
        distinct = distinct_over at.hex at.end (crossed (step ∷ before))
            (crossed_low 279 (step ∷ before) (omega arith)) free way.distinct;
        red = (passed_none (λ stop. ¬ (is_red position stop ≡ true)) marks at.hex at.end free, way.red);
        full = (passed_none (λ stop. ¬ IsFull position stop company) marks at.hex at.end free, way.full);
      }

  onward : (later : List WalkStep) (step : WalkStep) (before : List WalkStep) → Underway step before
      → HasToken position start company → Continues position start (marked none_used (crossed (step ∷ before))) step
      later → CanRun position company
  onward [] step before way token leads = (step ∷ before, arrived step before way token leads.0 leads.1 leads.2)
  onward (next ∷ later) step before way token leads = grind (arith, onward later next (step ∷ before) (further step before next way leads.0 leads.1 leads.2) token (subst (λ (marks : List Bool). Continues position start marks next later) (over_is (entered_at next).hex (entered_at next).end (crossed (step ∷ before))) leads.3))

  begun : (step : WalkStep) → IsTrack position step → stop_of (entered_at step) ≡ Some start → Underway step []
  begun step track is = record {
    walk = (track, tt, tt);
    begins = is;
    stops = ap (λ (found : Option Stop). listed found ++ []) is;
    distinct = subst (λ (borders : List ℕ). AreDistinct borders) (sym (none_crossed step start is)) tt;
    red = (tt, tt);
    full = (tt, tt);
  }

-- what is gone over from a token is a run for a 2-train
pub run_found : (position : Position) (company : Company) (step : WalkStep) → IsTrack position step
    → LeavesToken position company step → CanRun position company
run_found position company step track leaves =
    let start : Stop = leaves.0 in
    onward position company start leaves.3.0 step [] (begun position company start step track leaves.1) leaves.2
    (subst (λ (borders : List ℕ). Continues position start (marked none_used borders) step leaves.3.0)
    (sym (none_crossed step start leaves.1)) leaves.3.1)

-- the stop where a walk begins is visited
start_among : (before : List WalkStep) (step : WalkStep) (start : Stop) → stop_of (begins_at step before) ≡ Some start
    → IsAmong start (first_stop before step ++ visited before)
start_among [] step start is = subst (λ (found : Option Stop). IsAmong start (listed found ++ [])) (sym is) (inl refl)
start_among (earlier ∷ before) step start is = grind (arith, start_among before earlier start is)

-- of at most one stop, of which one is known, there is no other
no_other : (found : Option Stop) (stop : Stop) (rest : List Stop) → IsAmong stop rest
    → length (listed found ++ rest) ≤ 1 → (found ≡ None) × (length rest ≤ 1)
no_other None stop rest among few = (refl, few)
no_other (Some other) stop [] among few = absurd among
no_other (Some other) stop (first ∷ rest) among few = absurd (omega arith)

one_only : (stop : Stop) (rest : List Stop) → IsAmong stop rest → length rest ≤ 1 → rest ≡ stop ∷ []
one_only stop [] among few = absurd among
one_only stop (first ∷ []) (inl same) few = ap (λ s. s ∷ []) same
one_only stop (first ∷ []) (inr none) few = absurd none
one_only stop (first ∷ second ∷ rest) among few = absurd (omega arith)

-- spots that are joined, and are no stop, are the two sides of a border
joined_over : (spot other : Spot) → AreJoined spot other → stop_of spot ≡ None → across spot ≡ Some other
joined_over spot other (inl stop) none = absurd (let wrong : None ≡ Some stop.0 = sym none ∙ stop.1 in cc)
joined_over spot other (inr over) none = over

-- the two sides of a border are one border
pub one_border : NeighboursPair → (spot other : Spot) → across spot ≡ Some other
    → border_at spot.hex spot.end ≡ border_at other.hex other.end
one_border pair spot other over = by_end spot.end over
  where
    by_hex : (side : Side) (beyond : Option Hex) → neighbour_of spot.hex side ≡ beyond
        → option_map (λ next. spot_at next (AtSide (facing_of side))) beyond ≡ Some other
        → border_at spot.hex (AtSide side) ≡ border_at other.hex other.end
    by_hex side None is over = absurd cc
    by_hex side (Some next) is over =
        let there : spot_at next (AtSide (facing_of side)) ≡ other = cc in
        ap (λ (border : ℕ). border ∷ []) (faced spot.hex next side is (pair spot.hex side next is))
        ∙ ap (λ (s : Spot). border_at s.hex s.end) there

    by_end : (end : TrackEnd) → across_end spot.hex end ≡ Some other → border_at spot.hex end ≡ border_at other.hex other.end
    by_end (AtSide side) over = grind (arith, by_hex)
    by_end (AtStop number) over = absurd cc

-- borders that are not marked
abbrev AreFree : List Bool → List ℕ → Type 0
AreFree marks borders = AllByRecursion (λ border. get_or marks border false ≡ false) borders

all_free : (borders : List ℕ) → AreFree none_used borders
all_free [] = tt
all_free (border ∷ borders) = (none_marked 279 border, all_free borders)

first_free : (marks : List Bool) (hex : Hex) (end : TrackEnd) (borders : List ℕ)
    → AreFree marks (border_at hex end ++ borders) → AreFree marks (border_at hex end)
first_free marks hex (AtSide side) borders free = (free.0, tt)
first_free marks hex (AtStop number) borders free = tt

free_at : (marks : List Bool) (hex : Hex) (end : TrackEnd) → stop_at_end hex end ≡ None → AreFree marks (border_at hex end)
    → IsFree marks hex end
free_at marks hex (AtSide side) none free = free.0
free_at marks hex (AtStop number) none free = absurd cc

over_at : (marks : List Bool) (hex : Hex) (end : TrackEnd) → over_border marks hex end ≡ marked marks (border_at hex end)
over_at marks hex (AtSide side) = refl
over_at marks hex (AtStop number) = refl

free_without : (marks : List Bool) (one : ℕ) (borders : List ℕ) → (IsAmong one borders → ⊥) → AreFree marks borders
    → AreFree (set marks one true) borders
free_without marks one [] none free = tt
free_without marks one (border ∷ borders) none free = grind (arith, get_or-set_other, free_without marks one borders (λ later. none (inr later)) free.1)

still_free : (marks : List Bool) (hex : Hex) (end : TrackEnd) (borders : List ℕ)
    → AreDistinct (border_at hex end ++ borders) → AreFree marks (border_at hex end ++ borders)
    → AreFree (marked marks (border_at hex end)) borders
still_free marks hex (AtSide side) borders distinct free = grind (arith, distinct, free_without)
still_free marks hex (AtStop number) borders distinct free = free

-- a walk the other way
abbrev pub returning : List WalkStep → List WalkStep
returning [] = []
returning (step ∷ before) = flipped step ∷ returning before

module _ (position : Position) (lawful : IsLawful position) (company : Company) where
  -- from the beginning of a walk to where it is
  ahead : (start : Stop) (before : List WalkStep) (step : WalkStep) (later : List WalkStep) → HasToken position start company
      → IsWalk position (step ∷ before) → stop_of (begins_at step before) ≡ Some start
      → length (first_stop before step ++ visited before) ≤ 1 → AreDistinct (crossed (step ∷ before))
      → Continues position start (marked none_used (crossed (step ∷ before))) step later
      → (first : WalkStep) × IsTrack position first × LeavesToken position company first
  ahead start [] step later token walk begins few distinct leads = grind (arith, none_crossed, walk, begins)
  ahead start (earlier ∷ before) step later token walk begins few distinct leads =
      let rest : List Stop = first_stop before earlier ++ visited before in
      let one : (stop_of (left_at earlier) ≡ None) × (length rest ≤ 1) =
      no_other (stop_of (left_at earlier)) start rest (start_among before earlier start begins) few in
      let over : across (left_at earlier) ≡ Some (entered_at step) =
      joined_over (left_at earlier) (entered_at step) walk.1 one.0 in
      let at : Spot = entered_at step in
      let borders : List ℕ = crossed (earlier ∷ before) in
      ahead start before earlier (step ∷ later) token walk.2 begins one.1
      (others_distinct at.hex at.end borders distinct) (
        walk.0,
        over,
        free_there at.hex at.end borders (back position lawful (left_at earlier) at over).1 distinct,
        subst (λ (marks : List Bool). Continues position start marks step later)
            (sym (over_is at.hex at.end borders)) leads,
      )

  -- from the end of a walk back to its beginning
  backwards : (own start : Stop) → ¬ (start ≡ own) → (before : List WalkStep) (step : WalkStep) (marks : List Bool)
      → IsWalk position (step ∷ before) → stop_of (begins_at step before) ≡ Some start
      → length (first_stop before step ++ visited before) ≤ 1 → AreDistinct (crossed (step ∷ before))
      → AreFree marks (crossed (step ∷ before)) → Continues position own marks (flipped step) (returning before)
  backwards own start other [] step marks walk begins few distinct free =
      (start, ap stop_of (flip_leaves step) ∙ begins, other)
  backwards own start other (earlier ∷ before) step marks walk begins few distinct free =
      let rest : List Stop = first_stop before earlier ++ visited before in
      let one : (stop_of (left_at earlier) ≡ None) × (length rest ≤ 1) =
      no_other (stop_of (left_at earlier)) start rest (start_among before earlier start begins) few in
      let over : across (left_at earlier) ≡ Some (entered_at step) =
      joined_over (left_at earlier) (entered_at step) walk.1 one.0 in
      let at : Spot = entered_at step in
      let there : Spot = left_at earlier in
      let borders : List ℕ = crossed (earlier ∷ before) in
      let same : border_at there.hex there.end ≡ border_at at.hex at.end =
      one_border lawful.borders_pair there at over in
      let free_here : IsFree marks there.hex there.end =
      free_at marks there.hex there.end one.0 (subst (λ (bs : List ℕ). AreFree marks bs) (sym same)
      (first_free marks at.hex at.end borders free)) in
      let then_free : AreFree (over_border marks there.hex there.end) borders =
      subst (λ (ms : List Bool). AreFree ms borders)
      (sym (over_at marks there.hex there.end ∙ ap (marked marks) same))
      (still_free marks at.hex at.end borders distinct free) in
      let on : Continues position own (over_border marks there.hex there.end) (flipped earlier) (returning before) =
      backwards own start other before earlier (over_border marks there.hex there.end) walk.2 begins one.1
      (others_distinct at.hex at.end borders distinct) then_free in (
        walk.2.0,
        ap across (flip_leaves step) ∙ (back position lawful there at over).0
            ∙ ap (λ (s : Spot). Some s) (sym (flip_enters earlier)),
        subst (λ (s : Spot). IsFree marks s.hex s.end) (sym (flip_enters earlier)) free_here,
        subst (λ (s : Spot). Continues position own (over_border marks s.hex s.end) (flipped earlier)
            (returning before)) (sym (flip_enters earlier)) on,
      )

  -- each run for a 2-train is gone over from a token
  from_token : (step : WalkStep) (before : List WalkStep) → IsLegalRun position company Two [] (step ∷ before)
      → (first : WalkStep) × IsTrack position first × LeavesToken position company first
  from_token step before run =
      let stop : Stop = run.ends.0 in
      let start : Stop = run.begins.0 in
      let rest : List Stop = first_stop before step ++ visited before in
      let head : visited (step ∷ before) ≡ stop ∷ rest =
      ap (λ (found : Option Stop). listed found ++ rest) run.ends.1 in
      let count : length (visited (step ∷ before)) ≡ length (stop ∷ rest) = ap length head in
      let most : length (visited (step ∷ before)) ≤ 2 = run.most in
      let few : length rest ≤ 1 = omega arith in
      let tail : rest ≡ start ∷ [] = one_only start rest (start_among before step start run.begins.1) few in
      let all : visited (step ∷ before) ≡ stop ∷ start ∷ [] = head ∙ ap (λ (stops : List Stop). stop ∷ stops) tail in
      let distinct : AreDistinct (stop ∷ start ∷ []) =
      subst (λ (stops : List Stop). AreDistinct stops) all run.no_stop_twice in
      let owns : HasSuch (λ s. HasToken position s company) (stop ∷ start ∷ []) =
      subst (λ (stops : List Stop). HasSuch (λ s. HasToken position s company) stops) all run.own_token in
      elim owns [
        | inl at_end ↦ (
          flipped step,
          run.walk.0,
          (
            stop,
            ap stop_of (flip_enters step) ∙ run.ends.1,
            at_end,
            (
              returning before,
              backwards stop start (λ same. distinct.0 (inl same)) before step none_used run.walk
                  run.begins.1 few run.no_border_twice (all_free (crossed (step ∷ before))),
            ),
          ),
        )
        | inr first ↦ elim first [
          | inl at_start ↦ ahead start before step [] at_start run.walk run.begins.1 few run.no_border_twice
              (stop, run.ends.1, λ same. distinct.0 (inl (sym same)))
          | inr none ↦ absurd none
        ]
      ]

  pub run_begins : CanRun position company → (first : WalkStep) × IsTrack position first
      × LeavesToken position company first
  run_begins run = by_steps run.0 run.1
    where
      by_steps : (steps : List WalkStep) → IsLegalRun position company Two [] steps
          → (first : WalkStep) × IsTrack position first × LeavesToken position company first
      by_steps [] run = absurd run.ends
      by_steps (step ∷ before) run = from_token step before run

crossed_by : (marks : List Bool) (hex : Hex) (end : TrackEnd) (over : List Bool) → crossing_end marks hex end ≡ Some over
    → IsFree marks hex end × (over_border marks hex end ≡ over)
crossed_by marks hex (AtSide side) over is = grind arith
crossed_by marks hex (AtStop number) over is = absurd cc

not_crossed : (marks : List Bool) (hex : Hex) (end : TrackEnd) → crossing_end marks hex end ≡ None → IsFree marks hex end → ⊥
not_crossed marks hex (AtSide side) is free = grind arith
not_crossed marks hex (AtStop number) is free = free

-- where no step by the links before one is such, and none by that one, none is by the links up to
-- it
pub one_link_more : (P : WalkStep → Type 0) (here all : List Link) → here ≡ all → (i : ℕ) (d : Link) → i < length here
    → ((step : WalkStep) → IsAmong step.link (take i all) → P step → ⊥)
    → (((step : WalkStep) × (step.link ≡ get_or here i d) × P step) → ⊥) → (step : WalkStep)
    → IsAmong step.link (take (i + 1) all) → P step → ⊥
one_link_more P here all is i d low before none step among leads =
    elim (among_next here i step.link d low (subst (λ (ls : List Link). IsAmong step.link (take (i + 1) ls)) (sym is)
    among)) [
      | inl earlier ↦ before step (subst (λ (ls : List Link). IsAmong step.link (take i ls)) is earlier) leads
      | inr last ↦ none (step, last, leads)
    ]

-- a step by a link is one of two
pub by_turn : (P : WalkStep → Type 0) (link : Link) (first second : Bool)
    → (first ≡ true) ↔ P (record { link = link; turned = false })
    → (second ≡ true) ↔ P (record { link = link; turned = true }) → first ≡ false
    → ((step : WalkStep) × (step.link ≡ link) × P step) → second ≡ true
by_turn P link first second forward back none found = by_step found.0.link found.0.turned found.1 found.2
  where
    by_step : (its : Link) (turned : Bool) → its ≡ link → P (record { link = its; turned = turned }) → second ≡ true
    by_step its true is holds = back.1 (subst (λ (l : Link). P (record { link = l; turned = true })) is holds)
    by_step its false is holds = grind arith

module _ (position : Position) (start : Stop) (marks : List Bool) (step : WalkStep) where
  -- a step that is left at a stop leads on where that is not the first one
  pub leads_to_stop : (stop : Stop) → stop_of (left_at step) ≡ Some stop → LeadsOn position start marks step
      → stop ≡ start → ⊥
  leads_to_stop stop is leads same = by_later leads.0 leads.1
    where
      by_later : (later : List WalkStep) → Continues position start marks step later → ⊥
      by_later [] here = here.2 (let one : here.0 ≡ stop =
          (let both : Some here.0 ≡ Some stop = sym here.1 ∙ is in cc) in one ∙ same)
      by_later (next ∷ later) on = no_stop_across (left_at step) (entered_at next) stop is on.1

  -- one that is left nowhere does not
  pub leads_nowhere : stop_of (left_at step) ≡ None → across (left_at step) ≡ None → LeadsOn position start marks step
      → ⊥
  leads_nowhere none over leads = by_later leads.0 leads.1
    where
      by_later : (later : List WalkStep) → Continues position start marks step later → ⊥
      by_later [] here = let wrong : None ≡ Some here.0 = sym none ∙ here.1 in cc
      by_later (next ∷ later) on = let wrong : None ≡ Some (entered_at next) = sym over ∙ on.1 in cc

  module _ (none : stop_of (left_at step) ≡ None) (there : Spot) (over : across (left_at step) ≡ Some there) where
    -- and one that is left at a border leads on by a step that is entered beyond it
    next_step : LeadsOn position start marks step → (next : WalkStep) × IsTrack position next × (entered_at next ≡ there)
        × IsFree marks there.hex there.end × LeadsOn position start (over_border marks there.hex there.end) next
    next_step leads = by_later leads.0 leads.1
      where
        by_later : (later : List WalkStep) → Continues position start marks step later
            → (next : WalkStep) × IsTrack position next × (entered_at next ≡ there) × IsFree marks there.hex there.end
            × LeadsOn position start (over_border marks there.hex there.end) next
        by_later [] here = absurd (let wrong : None ≡ Some here.0 = sym none ∙ here.1 in cc)
        by_later (next ∷ later) on =
            let same : entered_at next ≡ there = (let both : Some (entered_at next) ≡ Some there =
            sym on.1 ∙ over in cc) in (
              next,
              on.0,
              same,
              subst (λ (s : Spot). IsFree marks s.hex s.end) same on.2,
              (
                later,
                subst (λ (s : Spot). Continues position start (over_border marks s.hex s.end) next later) same
                    on.3,
              ),
            )

    pub leads_over_none : crossing marks there ≡ None → LeadsOn position start marks step → ⊥
    leads_over_none closed leads = not_crossed marks there.hex there.end closed (next_step leads).3

    pub leads_over : (crossed : List Bool) → crossing marks there ≡ Some crossed → LeadsOn position start marks step
        → (next : WalkStep) × IsAmong next.link (links_of position there.hex) × (entered_at next ≡ there)
        × LeadsOn position start crossed next
    leads_over crossed crosses leads =
        let on = next_step leads in
        let next : WalkStep = on.0 in (
          next,
          subst (λ (s : Spot). IsAmong next.link (links_of position s.hex)) on.2 on.1,
          on.2,
          subst (λ (ms : List Bool). LeadsOn position start ms next)
              (crossed_by marks there.hex there.end crossed crosses).1 on.4,
        )

    pub over_leads : (crossed : List Bool) → crossing marks there ≡ Some crossed → (next : WalkStep)
        → IsAmong next.link (links_of position there.hex) → entered_at next ≡ there
        → LeadsOn position start crossed next → LeadsOn position start marks step
    over_leads crossed crosses next among same leads =
        let parts = crossed_by marks there.hex there.end crossed crosses in (
          next ∷ leads.0,
          (
            subst (λ (s : Spot). IsAmong next.link (links_of position s.hex)) (sym same) among,
            over ∙ ap (λ (s : Spot). Some s) (sym same),
            subst (λ (s : Spot). IsFree marks s.hex s.end) (sym same) parts.0,
            subst (λ (s : Spot). Continues position start (over_border marks s.hex s.end) next leads.0) (sym same)
                (subst (λ (ms : List Bool). Continues position start ms next leads.0) (sym parts.1) leads.1),
          ),
        )
