-- Where a walk over the choice tree is, step by step.
use Rattle.std.proofs.Common.{◌≡◌, ℕ, suc, ◌+◌, ◌-◌, ◌*◌, ◌<◌, ◌≤◌, ◌==◌, eqb, nat_lt, Bool, true, false, not, ◌||◌}
use Rattle.std.proofs.Common.{Option, Some, None, option_map, List, [], ◌∷◌, length, get_or, set, drop, replicate, refl}
use Rattle.std.proofs.Common.{ap, sym, ◌∙◌, arith}
use Rattle.std.proofs.lemmas.Bool.{eq-eqb, ne_eqb, ltb-false, ltb-true}
use Rattle.std.proofs.lemmas.List.{set-set, set-get_or, length-set, drop_all, drop_more}
use Rattle.map_tables.specs.declared.place.Stop.{Stop}
use Rattle.map_tables.specs.declared.track.TrackEnd.{TrackEnd}
use Rattle.map_tables.specs.declared.track.TrackEnd.TheVariants.{Side as AtSide, Stop as AtStop}
use Rattle.reach.specs.Reached.{stop_order}
use Rattle.certificate.specs.Ranking.{most_of}
use Rattle.certificate.specs.Tree.{is_used_up, still_to_come}
use Rattle.certificate.specs.Walked.{capped}
use Rattle.certificate.specs.Walking.{AreCrossed, AreVisited, earned_from, is_none_left, still_left}
use Rattle.certificate.specs.declared.tree.Group.{Group}
use Rattle.reach.proofs.Collected.{none_marked}
use Rattle.legal_runs.proofs.TallyOfWalk.{mark_more}

-- a step that is entered at a border may reach a stop
abbrev pub end_rank : TrackEnd → ℕ
end_rank (AtSide side) = 50
end_rank (AtStop number) = 0

-- a mark more
pub crossed_more :
    (marks : List Bool) (border : ℕ) (borders : List ℕ) → border < length marks → AreCrossed marks borders →
    AreCrossed (set marks border true) (border ∷ borders)
crossed_more marks border borders low are = (
  length-set marks border true ∙ are.0,
  λ k. mark_more marks border k low
      ∙ ap (λ (b : Bool). eqb border k || b) (are.1 k),
)

pub visited_more :
    (marks : List Bool) (stop : Stop) (stops : List Stop) → stop_order stop < length marks → AreVisited marks stops →
    AreVisited (set marks (stop_order stop) true) (stop ∷ stops)
visited_more marks stop stops low are = (
  length-set marks (stop_order stop) true ∙ are.0,
  λ other. mark_more marks (stop_order stop) (stop_order other) low
      ∙ ap (λ (b : Bool). eqb (stop_order stop) (stop_order other) || b) (are.1 other),
)

-- a mark more, and taken away again
pub mark_undone : (marks : List Bool) (n : ℕ) → get_or marks n false ≡ false → set (set marks n true) n false ≡ marks
mark_undone marks n was =
    set-set marks n true false ∙ ap (λ (b : Bool). set marks n b) (sym was) ∙ set-get_or marks n false

pub none_visited : AreVisited (replicate 186 false) []
none_visited = (refl, λ stop. none_marked 186 (stop_order stop))

pub none_crossed : AreCrossed (replicate 279 false) []
none_crossed = (refl, λ border. none_marked 279 border)

-- how many stops are left
pub still_is : (most : Option ℕ) (count : ℕ) (values : List ℕ)
    → still_to_come most count values ≡ most_of (still_left most count) values
still_is (Some most) count values = refl
still_is None count values = refl

pub one_fewer : (most : Option ℕ) (count : ℕ) → option_map (λ n. n - 1) (still_left most count)
    ≡ still_left most (suc count)
one_fewer (Some most) count =
    let e : (most - count) - 1 ≡ most - suc count = omega arith in ap (λ (n : ℕ). Some n) e
one_fewer None count = refl

none_fewer : (most : Option ℕ) → most ≡ still_left most 0
none_fewer (Some most) = let e : most ≡ most - 0 = omega arith in ap (λ (n : ℕ). Some n) e
none_fewer None = refl

pub one_left : (most : Option ℕ) → option_map (λ n. n - 1) most ≡ still_left most 1
one_left most = ap (option_map (λ n. n - 1)) (none_fewer most) ∙ one_fewer most 0

used_by : (most count : ℕ) (b : Bool) → nat_lt count most ≡ b → not b ≡ ((most - count) == 0)
used_by most count true is =
    let low : count < most = ltb-true count most is in
    sym (ne_eqb (most - count) 0 (λ none. omega arith))
used_by most count false is =
    let high : most ≤ count = ltb-false count most is in
    sym (eq-eqb (most - count) 0 (omega arith))

pub used_up_is : (most : Option ℕ) (count : ℕ) → is_used_up most count ≡ is_none_left (still_left most count)
used_up_is (Some most) count = used_by most count (nat_lt count most) refl
used_up_is None count = refl

-- the amounts
pub bound_is :
    (value still later assigned here may all : ℕ) → value ≡ capped (assigned + here) → still ≡ may
    → later ≡ capped all → capped (capped (value + still) + later) ≡ capped (assigned + (here + (may + all)))
bound_is value still later assigned here may all is also too = omega arith

pub value_more : (value stop assigned here : ℕ) → value ≡ capped (assigned + here)
    → capped (value + stop) ≡ capped (assigned + (here + stop))
value_more value stop assigned here is = omega arith

-- what the trains of some groups may earn, group by group
pub sum_start : (groups items : List Group) (place : ℕ) → items ≡ groups
    → capped (0 + earned_from (drop 0 items) place) ≡ capped (earned_from groups place)
sum_start groups items place is =
    let e : 0 + earned_from items place ≡ earned_from items place = omega arith in
    ap capped e ∙ ap (λ (l : List Group). capped (earned_from l place)) is

pub sum_more :
    (items : List Group) (index : ℕ) (none : Group) (sum before count amount next rest all : ℕ) → index < length items →
    capped (sum + earned_from (drop index items) before) ≡ capped all →
    count ≡ (get_or items index none).count - before → amount ≡ capped (count * (get_or items index none).may_earn)
    → next ≡ capped (sum + amount) → rest ≡ before - (get_or items index none).count →
    capped (next + earned_from (drop (index + 1) items) rest) ≡ capped all
sum_more items index none sum before count amount next rest all low earns counted earned added left =
    let group : Group = get_or items index none in
    let later : ℕ = earned_from (drop (index + 1) items) rest in
    let product : ℕ = count * group.may_earn in
    let here : earned_from (drop index items) before ≡ product + later =
    ap (λ (l : List Group). earned_from l before) (drop_more items index none low)
    ∙ (ap (λ (n : ℕ). n * group.may_earn + earned_from (drop (index + 1) items) (before - group.count)) (sym counted)
    ∙ ap (λ (n : ℕ). product + earned_from (drop (index + 1) items) n) (sym left)) in
    summed sum product amount next later (earned_from (drop index items) before) all earns earned added here
  where
    summed : (sum product amount next later here all : ℕ) → capped (sum + here) ≡ capped all → amount ≡ capped product
        → next ≡ capped (sum + amount) → here ≡ product + later → capped (next + later) ≡ capped all
    summed sum product amount next later here all earns earned added is = omega arith

pub sum_end :
    (items : List Group) (index sum before all : ℕ) → length items ≤ index → sum ≤ 18446744073709551615
    → capped (sum + earned_from (drop index items) before) ≡ capped all → sum ≡ capped all
sum_end items index sum before all high low earns =
    let none : earned_from (drop index items) before ≡ 0 =
    ap (λ (l : List Group). earned_from l before) (drop_all index items high) in
    omega arith

pub rank_low : (end : TrackEnd) → end_rank end ≤ 50
rank_low (AtSide side) = omega arith
rank_low (AtStop number) = omega arith
