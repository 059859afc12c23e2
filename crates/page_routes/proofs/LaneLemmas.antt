-- Of two runs over a border each has a lane of its own.
use Rattle.std.proofs.Common.{◌≡◌, ◌≢◌, ℕ, ◌+◌, ◌-◌, ◌<◌, ◌≤◌, Bool, true, false, cond, List, take, slice_get, Some, ap, sym, ◌∙◌, subst, arith}
use Rattle.std.specs.List.{count_by}
use Rattle.std.proofs.lemmas.List.{take-take}
use Rattle.std.proofs.lemmas.List.Sums.{count_by_more_yes, sum_by-take-le}
use Rattle.std.proofs.lemmas.Option.{get_or_from_slice_get, slice_get_within}
use Rattle.map_tables.specs.declared.side.Side.{Side}
use Rattle.picture.specs.Lanes.{lane_shift}
use Rattle.markup.specs.declared.point.Point.{Point}
use Rattle.page_routes.specs.Lanes.{RunsHaveTheirLanes, counted_from, crosses, is_among, lane_of, lanes_before, lanes_of, shift_of}
use Rattle.page_routes.specs.declared.lanes.Border.{Border}
use Rattle.page_routes.specs.declared.routes.Route.{Route}

-- one more of the first elements passes the test, if the next does
one_more : {X : Type 0} (p : X → Bool) (xs : List X) (n : ℕ) (x : X) → slice_get xs n ≡ Some x → p x ≡ true
    → count_by p (take (n + 1) xs) ≡ count_by p (take n xs) + 1
one_more p xs n x at passes =
    count_by_more_yes p xs n x (slice_get_within xs n x at) (ap p (get_or_from_slice_get xs n x x at) ∙ passes)

-- of more of the first elements no fewer pass the test
no_fewer : {X : Type 0} (p : X → Bool) (xs : List X) (n m : ℕ) → n ≤ m → count_by p (take n xs) ≤ count_by p (take m xs)
no_fewer {X = X} p xs n m below =
    let P : List X → Type 0 = λ first. count_by p first ≤ count_by p (take m xs) in
    subst P (take-take n m xs below) (sum_by-take-le (λ x. cond (p x) 1 0) (take m xs) n)

-- places from either end are apart where places are
apart : (is_turned : Bool) (lanes a b : ℕ) → a < b → b < lanes → counted_from is_turned lanes a ≢ counted_from is_turned lanes b
apart true lanes a b less within same = omega (arith, less, within, same)
apart false lanes a b less within same = omega (arith, less, same)

pub lanes_differ : RunsHaveTheirLanes
lanes_differ border routes turned n m one other less at_n at_m crosses_n crosses_m =
    let p : Route → Bool = crosses border in
    let more_n : count_by p (take (n + 1) routes) ≡ lanes_before border routes n + 1 = one_more p routes n one at_n crosses_n in
    let up_to_m : count_by p (take (n + 1) routes) ≤ lanes_before border routes m = no_fewer p routes (n + 1) m (omega (arith, less)) in
    let more_m : count_by p (take (m + 1) routes) ≡ lanes_before border routes m + 1 = one_more p routes m other at_m crosses_m in
    let up_to_all : count_by p (take (m + 1) routes) ≤ lanes_of border routes =
    sum_by-take-le (λ route. cond (p route) 1 0) routes (m + 1) in
    apart (is_among border turned) (lanes_of border routes) (lanes_before border routes n) (lanes_before border routes m)
    (omega (arith, more_n, up_to_m)) (omega (arith, more_m, up_to_all))

-- a place from either end is within the lanes
within : (is_turned : Bool) (lanes place : ℕ) → place ≤ lanes → counted_from is_turned lanes place ≤ lanes
within true lanes place below = omega arith
within false lanes place below = below

-- the lane of a run is at most as far on as the border has lanes
pub lane_within : (border : Border) (routes : List Route) (turned : List Border) (number : ℕ)
    → lane_of border routes turned number ≤ lanes_of border routes
lane_within border routes turned number =
    within (is_among border turned) (lanes_of border routes) (lanes_before border routes number)
    (sum_by-take-le (λ route. cond (crosses border route) 1 0) routes number)

-- how far a run crosses a border from its middle, by what each call says
pub shift_by : (border at : Border) (routes : List Route) (turned : List Border) (number lane lanes : ℕ) (side : Side) (shift : Point)
    → at ≡ border → lane ≡ lane_of at routes turned number → lanes ≡ lanes_of at routes
    → (lane ≤ 99 → lanes ≤ 99 → shift ≡ lane_shift side lane lanes)
    → lanes_of border routes ≤ 99 → shift ≡ shift_of border routes turned number side
shift_by border at routes turned number lane lanes side shift is_at is_lane is_lanes shifted few =
    let Few : ℕ → Type 0 = λ n. n ≤ 99 in
    let FewAt : Border → Type 0 = λ one. lanes_of one routes ≤ 99 in
    let few_at : lanes_of at routes ≤ 99 = subst FewAt (sym is_at) few in
    let within_few : lane_of at routes turned number ≤ 99 = omega (arith, lane_within at routes turned number, few_at) in
    shifted (subst Few (sym is_lane) within_few) (subst Few (sym is_lanes) few_at)
    ∙ ap (λ n. lane_shift side n lanes) is_lane
    ∙ ap (λ n. lane_shift side (lane_of at routes turned number) n) is_lanes
    ∙ ap (λ one. shift_of one routes turned number side) is_at
