-- The walk goes over the children of each node, in their order, and leaves the marks as they were.
use Rattle.std.proofs.Common.{◌≤◌, Option, map}
use Rattle.std.proofs.Common.{◌≡◌, ◌<◌, rules, ℕ, ◌-◌, Bool, true, false, not, ◌&&◌, count_by, option_map, if◌then◌else◌, Some, None, List, [], ◌∷◌, ◌++◌, length, get_or, set, replicate, refl, ap, sym, ◌∙◌, subst, arith}
use Rattle.map_tables.specs.Border.{neighbour_of}
use Rattle.map_tables.specs.declared.hex.Hex.{Hex}
use Rattle.map_tables.specs.Place.{stop_at}
use Rattle.map_tables.specs.declared.place.Stop.{Stop}
use Rattle.map_tables.specs.declared.side.Side.{Side}
use Rattle.map_tables.specs.declared.track.TrackEnd.TheVariants.{Side as AtSide, Stop as AtStop}
use Rattle.map_tables.specs.declared.track.Link.{Link}
use Rattle.reach.proofs.Lists.{among_at}
use Rattle.reach.specs.Position.{IsAmong, links_of}
use Rattle.reach.specs.Reached.{stop_order}
use Rattle.reach.specs.Search.{twin_of}
use Rattle.reach.specs.Walk.{across, across_end, entered_at, left_at, spot_at, stop_of}
use Rattle.reach.specs.declared.walk.Spot.{Spot}
use Rattle.reach.specs.declared.walk.WalkStep.{WalkStep}
use Rattle.reach.proofs.Collected.{none_marked}
use Rattle.reach.proofs.Spots.{names_itself, order_low}
use Rattle.reach.proofs.Looking.{twin_joined}
use Rattle.legal_runs.specs.Fault.{has_border, has_stop}
use Rattle.legal_runs.specs.Legal.{border_of, visited}
use Rattle.legal_runs.specs.Set.{TrainRun}
use Rattle.certificate.specs.LinkEnds.{ends_of, place_left, way_into}
use Rattle.certificate.specs.declared.link_ends.LinkEnds.{LinkEnds}
use Rattle.certificate.specs.Tree.{Node, children, for_each, from_stop, goes_over, is_free_end, is_last_stop, node_if}
use Rattle.certificate.specs.Tree.{run_borders, setting_out, taken_borders, with_step, with_steps, steps_at, steps_by}
use Rattle.certificate.specs.Tree.{steps_from}
use Rattle.certificate.specs.Walked.{capped}
use Rattle.certificate.specs.Walking.{AreCrossed, Continues, LeavesOver, IsOnRun, WalksOver, earned_from, may_take, node_at, node_from, reached_in, trains_of_tree}
use Rattle.certificate.proofs.Going.{hexes_steps, no_step_found, none_ahead, one_cut, one_end, one_hex, one_split}
use Rattle.certificate.proofs.Going.{over_none, thing_ends, thing_over, things_over, up_ends}
use Rattle.certificate.proofs.Going.{beyond_it, default_link, default_stop, up_over, up_whole}
use Rattle.certificate.proofs.LinkEnds.{ends_there, link_high, link_low, no_step_there}
use Rattle.certificate.proofs.LinkEnds.{ways}
use Rattle.certificate.proofs.Places.{none_is}
use Rattle.certificate.proofs.OnRun.{and_false, and_true, border_continues, children_at_border, children_at_stop, finished_crossed, finished_is_between, finishing_is, is_free, is_last, no_beyond, not_free, same_node, both_false, on_run_at_stop, on_run_over, same_state, stop_continues, takes_no_stop, takes_over, takes_stop, two_stops, with_run}
use Rattle.certificate.proofs.SettingOut.{left_from}
use Rattle.certificate.proofs.StepTaken.{IsStepBy, step_by, step_taken}
use Rattle.certificate.proofs.Walked.{walks_both, walks_ended}
use Rattle.certificate.proofs.Walking.{end_rank, mark_undone, rank_low}
use Rattle.certificate.proofs.tree_walk.+walk.Goals as goal

pub choose-trains-init : goal.choose-trains-init
choose-trains-init g t c = (
  refl,
  λ assigned at_node crossed low.
      let down = c.in-Some.ensures (g.N.Network.position c.args.network.now) assigned at_node low in
      (down.1, down.2),
)

pub choose-set_out-requires : goal.choose-set_out-requires
choose-set_out-requires g t c = λ lifetimes within.
    (omega (arith, ap (λ (u : List Bool). count_by not u) c.trains.invariant.0), (search rules, search rules))

pub choose-returns-then-not-set_out-clause-walks : goal.choose-returns-then-not-set_out-clause-walks
choose-returns-then-not-set_out-clause-walks g t c = λ assigned at_node crossed low.
    let position = g.N.Network.position c.args.network.now in
    let tree = c.args.tree.now in
    let ahead = c.trains.invariant.1 assigned at_node crossed low in
    let before : c.trains.place - 1 < length (trains_of_tree tree) = omega (arith, ahead.0, c.trains-test.true) in
    let here : AreCrossed c.trains.used (run_borders assigned) =
    subst (λ (u : List Bool). AreCrossed u (run_borders assigned)) (sym c.trains.invariant.0) crossed in
    let walk = c.set_out.ensures.walks assigned at_node here before in
    up_ends g.D.Decider.decides position tree c.args.value assigned at_node c.args.decider.now c.trains.decider
    c.set_out.new.decider c.args.first c.trains.place (node_from tree assigned c.args.first ∷ []) c.trains-test.true
    ahead.1 (subst (λ (b : Bool). WalksOver g.D.Decider.decides position tree c.trains.decider
    (setting_out position tree.company (reached_in tree) (node_from tree assigned (c.trains.place - 1))) b
    c.set_out.new.decider) c.if-not-set_out.true walk)

pub choose-returns-then-not-set_out-clause-used : goal.choose-returns-then-not-set_out-clause-used
choose-returns-then-not-set_out-clause-used g t c = c.set_out.ensures.used ∙ c.trains.invariant.0

pub choose-trains-preserved : goal.choose-trains-preserved
choose-trains-preserved g t c = (
  c.set_out.ensures.used ∙ c.trains.invariant.0,
  λ assigned at_node crossed low.
      let position = g.N.Network.position c.args.network.now in
      let tree = c.args.tree.now in
      let ahead = c.trains.invariant.1 assigned at_node crossed low in
      let before : c.trains.place - 1 < length (trains_of_tree tree) = omega (arith, ahead.0, c.trains-test.true) in
      let here : AreCrossed c.trains.used (run_borders assigned) =
      subst (λ (u : List Bool). AreCrossed u (run_borders assigned)) (sym c.trains.invariant.0) crossed in
      let walk = c.set_out.ensures.walks assigned at_node here before in (
        omega (arith, ahead.0),
        up_over g.D.Decider.decides position tree c.args.value assigned at_node c.args.decider.now c.trains.decider
            c.set_out.new.decider
            c.args.first c.trains.place (node_from tree assigned c.args.first ∷ []) c.trains-test.true ahead.1
            (subst (λ (b : Bool). WalksOver g.D.Decider.decides position tree c.trains.decider
            (setting_out position tree.company (reached_in tree) (node_from tree assigned (c.trains.place - 1))) b
            c.set_out.new.decider) c.if-not-set_out.false walk),
      ),
)

pub choose-trains-smaller : goal.choose-trains-smaller
choose-trains-smaller g t c = omega (arith, c.trains-test.true)

pub choose-returns-clause-walks : goal.choose-returns-clause-walks
choose-returns-clause-walks g t c = λ assigned at_node crossed low.
    let ahead = c.trains.invariant.1 assigned at_node crossed low in
    up_whole g.D.Decider.decides (g.N.Network.position c.args.network.now) c.args.tree.now c.args.value assigned at_node
    c.args.decider.now c.trains.decider c.args.first c.trains.place (node_from c.args.tree.now assigned c.args.first ∷
    []) c.trains-test.false ahead.1

pub choose-returns-clause-used : goal.choose-returns-clause-used
choose-returns-clause-used g t c = c.trains.invariant.0

pub set_out-returns-in_default-clause-walks : goal.set_out-returns-in_default-clause-walks
set_out-returns-in_default-clause-walks g t c = λ assigned at_node crossed low.
    let high = none_is c.args.tree.now.groups c.args.place (sym c.kind_at.ensures ∙ c.in_default.is) in
    absurd (omega (arith, high, low))

pub set_out-loop-stop-init : goal.set_out-loop-stop-init
set_out-loop-stop-init g t c = (
  refl,
  c.none-seen.ensures,
  λ assigned at_node crossed low.
      let position = g.N.Network.position c.args.network.now in
      let tree = c.args.tree.now in
      let node : Node = node_from tree assigned c.args.place in
      subst (λ (l : List Stop). LeavesOver g.D.Decider.decides position tree c.args.decider.now
      (setting_out position tree.company (reached_in tree) node) c.args.decider.now
      (with_steps (goes_over (taken_borders node)) node (for_each (steps_from position) l)))
      (sym c.stops-stop-items.ensures.value) (none_ahead g.D.Decider.decides position tree c.args.decider.now
      (setting_out position tree.company (reached_in tree) node)),
)

pub set_out-leave-whole-requires : goal.set_out-leave-whole-requires
set_out-leave-whole-requires g t c = λ lifetimes within.
    (omega (arith, ap (λ (u : List Bool). count_by not u) c.loop-stop.invariant.0), (search rules, search rules))

pub set_out-returns-then-not-whole-clause-walks : goal.set_out-returns-then-not-whole-clause-walks
set_out-returns-then-not-whole-clause-walks g t c = λ assigned at_node crossed low.
    let position = g.N.Network.position c.args.network.now in
    let tree = c.args.tree.now in
    let node : Node = node_from tree assigned c.args.place in
    let items : List Stop = c.stops-stop-items.result.now in
    let stop : Stop = get_or items c.loop-stop.stop-index default_stop in
    let here : AreCrossed c.loop-stop.used (run_borders assigned) =
    subst (λ (u : List Bool). AreCrossed u (run_borders assigned)) (sym c.loop-stop.invariant.0) crossed in
    let among : IsAmong stop (reached_in tree) = subst (λ (l : List Stop). IsAmong stop l) c.stops-stop-items.ensures.value
    (among_at items c.loop-stop.stop-index default_stop c.loop-stop-test.true) in
    let walk = left_from g.D.Decider.decides position tree c.args.value c.args.place c.loop-stop.used c.mark.new.self
    assigned c.in-Some.kind stop c.visiting-begun.result c.loop-stop.decider c.leave-whole.new.decider
    c.leave-whole.result at_node here low (sym c.kind_at.ensures ∙ c.in-Some.is) c.visiting-begun.ensures.train
    (c.visiting-begun.ensures.next ∙ c.saturating_add-next.ensures)
    (c.visiting-begun.ensures.later ∙ (c.may_earn_from.ensures
    ∙ ap (λ (n : ℕ). capped (earned_from tree.groups n)) c.saturating_add-next.ensures))
    (c.visiting-begun.ensures.value at_node.tree_is) (c.visiting-begun.ensures.left ∙ ap (option_map (λ n. n - 1)) c.stops.ensures)
    (c.visiting-begun.ensures.own at_node.tree_is)
    (c.mark.ensures ∙ ap (λ (m : List Bool). set m (stop_order stop) true) c.loop-stop.invariant.1) among
    (c.leave-whole.ensures.walks assigned) in
    thing_ends g.D.Decider.decides position tree (steps_from position) (goes_over (taken_borders node)) node items
    c.args.decider.now c.loop-stop.decider c.leave-whole.new.decider
    (setting_out position tree.company (reached_in tree) node) c.loop-stop.stop-index default_stop
    c.loop-stop-test.true (c.loop-stop.invariant.2 assigned at_node crossed low)
    (subst (λ (b : Bool). WalksOver g.D.Decider.decides position tree c.loop-stop.decider
    (with_steps (goes_over (taken_borders node)) node (steps_from position stop)) b c.leave-whole.new.decider)
    c.if-not-whole.true walk)

pub set_out-returns-then-not-whole-clause-used : goal.set_out-returns-then-not-whole-clause-used
set_out-returns-then-not-whole-clause-used g t c = c.leave-whole.ensures.used ∙ c.loop-stop.invariant.0

pub set_out-loop-stop-preserved : goal.set_out-loop-stop-preserved
set_out-loop-stop-preserved g t c = (
  c.leave-whole.ensures.used ∙ c.loop-stop.invariant.0,
  let stop : Stop = get_or c.stops-stop-items.result.now c.loop-stop.stop-index default_stop in
      let marked : c.mark.new.self ≡ set (replicate 186 false) (stop_order stop) true =
      c.mark.ensures ∙ ap (λ (m : List Bool). set m (stop_order stop) true) c.loop-stop.invariant.1 in
      c.unmark.ensures ∙ (ap (λ (m : List Bool). set m (stop_order stop) false) (c.leave-whole.ensures.seen ∙ marked)
      ∙ mark_undone (replicate 186 false) (stop_order stop) (none_marked 186 (stop_order stop))),
  λ assigned at_node crossed low.
      let position = g.N.Network.position c.args.network.now in
      let tree = c.args.tree.now in
      let node : Node = node_from tree assigned c.args.place in
      let items : List Stop = c.stops-stop-items.result.now in
      let stop : Stop = get_or items c.loop-stop.stop-index default_stop in
      let here : AreCrossed c.loop-stop.used (run_borders assigned) =
      subst (λ (u : List Bool). AreCrossed u (run_borders assigned)) (sym c.loop-stop.invariant.0) crossed in
      let among : IsAmong stop (reached_in tree) = subst (λ (l : List Stop). IsAmong stop l) c.stops-stop-items.ensures.value
      (among_at items c.loop-stop.stop-index default_stop c.loop-stop-test.true) in
      let walk = left_from g.D.Decider.decides position tree c.args.value c.args.place c.loop-stop.used c.mark.new.self
      assigned c.in-Some.kind stop c.visiting-begun.result c.loop-stop.decider c.leave-whole.new.decider
      c.leave-whole.result at_node here low (sym c.kind_at.ensures ∙ c.in-Some.is) c.visiting-begun.ensures.train
      (c.visiting-begun.ensures.next ∙ c.saturating_add-next.ensures)
      (c.visiting-begun.ensures.later ∙ (c.may_earn_from.ensures
      ∙ ap (λ (n : ℕ). capped (earned_from tree.groups n)) c.saturating_add-next.ensures))
      (c.visiting-begun.ensures.value at_node.tree_is) (c.visiting-begun.ensures.left ∙ ap (option_map (λ n. n - 1)) c.stops.ensures)
      (c.visiting-begun.ensures.own at_node.tree_is)
      (c.mark.ensures ∙ ap (λ (m : List Bool). set m (stop_order stop) true) c.loop-stop.invariant.1) among
      (c.leave-whole.ensures.walks assigned) in
      thing_over g.D.Decider.decides position tree (steps_from position) (goes_over (taken_borders node)) node items
      c.args.decider.now c.loop-stop.decider c.leave-whole.new.decider
      (setting_out position tree.company (reached_in tree) node) c.loop-stop.stop-index default_stop
      c.loop-stop-test.true (c.loop-stop.invariant.2 assigned at_node crossed low)
      (subst (λ (b : Bool). WalksOver g.D.Decider.decides position tree c.loop-stop.decider
      (with_steps (goes_over (taken_borders node)) node (steps_from position stop)) b c.leave-whole.new.decider)
      c.if-not-whole.false walk),
)

pub set_out-returns-clause-walks : goal.set_out-returns-clause-walks
set_out-returns-clause-walks g t c = λ assigned at_node crossed low.
    let position = g.N.Network.position c.args.network.now in
    let tree = c.args.tree.now in
    let node : Node = node_from tree assigned c.args.place in
    things_over g.D.Decider.decides position tree (steps_from position) (goes_over (taken_borders node)) node
    c.stops-stop-items.result.now c.args.decider.now c.loop-stop.decider
    (setting_out position tree.company (reached_in tree) node) c.loop-stop.stop-index c.loop-stop-test.false
    (c.loop-stop.invariant.2 assigned at_node crossed low)

pub set_out-returns-clause-used : goal.set_out-returns-clause-used
set_out-returns-clause-used g t c = c.loop-stop.invariant.0

pub leave-follow-requires : goal.leave-follow-requires
leave-follow-requires g t c = λ lifetimes within. (omega arith, (search rules, search rules))

pub leave-returns-in_default-clause-walks : goal.leave-returns-in_default-clause-walks
leave-returns-in_default-clause-walks g t c = λ assigned steps stops at_node continues named.
    let position = g.N.Network.position c.args.network.now in
    let tree = c.args.tree.now in
    let stop : Stop = c.args.stop in
    let node : Node = node_at tree c.args.begun.now assigned steps in
    let test : WalkStep → Bool = goes_over (taken_borders node) in
    let at_own : (step : WalkStep) → entered_at step ≡ spot_at stop.hex (AtStop stop.number) → Continues steps stops step =
    λ step at. continues step (ap stop_of at ∙ ap (λ (s : Stop). Some s) named) in
    let walk = c.follow.ensures.walks assigned steps stops at_node at_own in
    subst (λ (l : List WalkStep). WalksOver g.D.Decider.decides position tree c.args.decider.now (with_steps test node l) c.follow.result
    c.follow.new.decider) (sym (one_hex position stop (sym c.twin.ensures ∙ c.in_default.is))) walk

pub leave-returns-then-not-follow-clause-walks : goal.leave-returns-then-not-follow-clause-walks
leave-returns-then-not-follow-clause-walks g t c = λ assigned steps stops at_node continues named.
    let position = g.N.Network.position c.args.network.now in
    let tree = c.args.tree.now in
    let stop : Stop = c.args.stop in
    let node : Node = node_at tree c.args.begun.now assigned steps in
    let test : WalkStep → Bool = goes_over (taken_borders node) in
    let at_own : (step : WalkStep) → entered_at step ≡ spot_at stop.hex (AtStop stop.number) → Continues steps stops step =
    λ step at. continues step (ap stop_of at ∙ ap (λ (s : Stop). Some s) named) in
    let other : Hex = c.in-Some.other in
    let beside : twin_of stop.hex ≡ Some other = sym c.twin.ensures ∙ c.in-Some.is in
    let first : List Node = with_steps test node (steps_at position other (AtStop stop.number)) in
    let second : List Node = with_steps test node (steps_at position stop.hex (AtStop stop.number)) in
    let at_other : (step : WalkStep) → entered_at step ≡ spot_at other (AtStop stop.number) → Continues steps stops step =
    λ step at. continues step (ap stop_of at ∙ ap (λ (h : Hex). Some (stop_at h stop.number)) (twin_joined stop.hex other beside)) in
    let walk = c.follow-2.ensures.walks assigned steps stops at_node at_other in
    subst (λ (l : List Node). WalksOver g.D.Decider.decides position tree c.args.decider.now l false c.follow-2.new.decider)
    (sym (hexes_steps position test node stop other beside))
    (walks_ended g.D.Decider.decides position tree.company (reached_in tree) c.args.decider.now c.follow-2.new.decider first second
    (subst (λ (b : Bool). WalksOver g.D.Decider.decides position tree c.args.decider.now first b c.follow-2.new.decider)
    c.if-not-follow.true walk))

pub leave-returns-clause-walks : goal.leave-returns-clause-walks
leave-returns-clause-walks g t c = λ assigned steps stops at_node continues named.
    let position = g.N.Network.position c.args.network.now in
    let tree = c.args.tree.now in
    let stop : Stop = c.args.stop in
    let node : Node = node_at tree c.args.begun.now assigned steps in
    let test : WalkStep → Bool = goes_over (taken_borders node) in
    let at_own : (step : WalkStep) → entered_at step ≡ spot_at stop.hex (AtStop stop.number) → Continues steps stops step =
    λ step at. continues step (ap stop_of at ∙ ap (λ (s : Stop). Some s) named) in
    let other : Hex = c.in-Some.other in
    let beside : twin_of stop.hex ≡ Some other = sym c.twin.ensures ∙ c.in-Some.is in
    let first : List Node = with_steps test node (steps_at position other (AtStop stop.number)) in
    let second : List Node = with_steps test node (steps_at position stop.hex (AtStop stop.number)) in
    let at_other : (step : WalkStep) → entered_at step ≡ spot_at other (AtStop stop.number) → Continues steps stops step =
    λ step at. continues step (ap stop_of at ∙ ap (λ (h : Hex). Some (stop_at h stop.number)) (twin_joined stop.hex other beside)) in
    let walk = c.follow-2.ensures.walks assigned steps stops at_node at_other in
    let later = c.follow-3.ensures.walks assigned steps stops
    (same_state position tree c.args.begun.now c.args.used.now c.args.seen.now c.follow-2.new.used c.follow-2.new.seen
    assigned steps stops c.follow-2.ensures.used c.follow-2.ensures.seen at_node) at_own in
    subst (λ (l : List Node). WalksOver g.D.Decider.decides position tree c.args.decider.now l c.follow-3.result c.follow-3.new.decider)
    (sym (hexes_steps position test node stop other beside))
    (walks_both g.D.Decider.decides position tree.company (reached_in tree) c.args.decider.now c.follow-2.new.decider
    c.follow-3.new.decider first second c.follow-3.result
    (subst (λ (b : Bool). WalksOver g.D.Decider.decides position tree c.args.decider.now first b c.follow-2.new.decider)
    c.if-not-follow.false walk) later)

pub follow-loop-ends-init : goal.follow-loop-ends-init
follow-loop-ends-init g t c = (
  refl,
  refl,
  λ assigned steps stops at_node continues.
      let position = g.N.Network.position c.args.network.now in
      let tree = c.args.tree.now in
      let at = c.args.at in
      let node : Node = node_at tree c.args.begun.now assigned steps in
      let test : WalkStep → Bool = may_take (reached_in tree) node at.end in
      let all : List Node = with_steps test node (steps_at position at.hex at.end) in
      none_ahead g.D.Decider.decides position tree c.args.decider.now all,
)

pub follow-take-requires : goal.follow-take-requires
follow-take-requires g t c = λ lifetimes within.
    (omega (arith, ap (λ (u : List Bool). count_by not u) c.loop-ends.invariant.0), (search rules, search rules))

pub follow-returns-then-not-take-clause-walks : goal.follow-returns-then-not-take-clause-walks
follow-returns-then-not-take-clause-walks g t c = λ assigned steps stops at_node continues.
    let position = g.N.Network.position c.args.network.now in
    let tree = c.args.tree.now in
    let at = c.args.at in
    let node : Node = node_at tree c.args.begun.now assigned steps in
    let test : WalkStep → Bool = may_take (reached_in tree) node at.end in
    let items : List Link = links_of position at.hex in
    let all : List Node = with_steps test node (steps_at position at.hex at.end) in
    let held : List LinkEnds = c.at-ends-items.result.now in
    let is : held ≡ map ends_of items = c.at-ends-items.ensures position at_node.tree_is.links in
    let link : Link = get_or items c.loop-ends.ends-index default_link in
    let low : c.loop-ends.ends-index < length items = link_low items held c.loop-ends.ends-index is c.loop-ends-test.true in
    let among : IsAmong link items = among_at items c.loop-ends.ends-index default_link low in
    let walk = c.take.ensures.walks assigned steps stops link
    (same_state position tree c.args.begun.now c.args.used.now c.args.seen.now c.loop-ends.used c.loop-ends.seen
    assigned steps stops c.loop-ends.invariant.0 c.loop-ends.invariant.1 at_node) among
    (ends_there items held c.loop-ends.ends-index is low) (sym c.order-entered.ensures) continues in
    thing_ends g.D.Decider.decides position tree (steps_by at.end) test node items c.args.decider.now
    c.loop-ends.decider c.take.new.decider all c.loop-ends.ends-index default_link low
    (c.loop-ends.invariant.2 assigned steps stops at_node continues) (subst
    (λ (b : Bool). WalksOver g.D.Decider.decides position tree c.loop-ends.decider
    (with_steps test node (steps_by at.end link)) b c.take.new.decider) c.if-not-take.true walk)

pub follow-returns-then-not-take-clause-used : goal.follow-returns-then-not-take-clause-used
follow-returns-then-not-take-clause-used g t c = c.take.ensures.used ∙ c.loop-ends.invariant.0

pub follow-returns-then-not-take-clause-seen : goal.follow-returns-then-not-take-clause-seen
follow-returns-then-not-take-clause-seen g t c = c.take.ensures.seen ∙ c.loop-ends.invariant.1

pub follow-loop-ends-preserved : goal.follow-loop-ends-preserved
follow-loop-ends-preserved g t c = (
  c.take.ensures.used ∙ c.loop-ends.invariant.0,
  c.take.ensures.seen ∙ c.loop-ends.invariant.1,
  λ assigned steps stops at_node continues.
      let position = g.N.Network.position c.args.network.now in
      let tree = c.args.tree.now in
      let at = c.args.at in
      let node : Node = node_at tree c.args.begun.now assigned steps in
      let test : WalkStep → Bool = may_take (reached_in tree) node at.end in
      let items : List Link = links_of position at.hex in
      let all : List Node = with_steps test node (steps_at position at.hex at.end) in
      let held : List LinkEnds = c.at-ends-items.result.now in
      let is : held ≡ map ends_of items = c.at-ends-items.ensures position at_node.tree_is.links in
      let link : Link = get_or items c.loop-ends.ends-index default_link in
      let low : c.loop-ends.ends-index < length items = link_low items held c.loop-ends.ends-index is c.loop-ends-test.true in
      let among : IsAmong link items = among_at items c.loop-ends.ends-index default_link low in
      let walk = c.take.ensures.walks assigned steps stops link
      (same_state position tree c.args.begun.now c.args.used.now c.args.seen.now c.loop-ends.used c.loop-ends.seen
      assigned steps stops c.loop-ends.invariant.0 c.loop-ends.invariant.1 at_node) among
      (ends_there items held c.loop-ends.ends-index is low) (sym c.order-entered.ensures) continues in
      thing_over g.D.Decider.decides position tree (steps_by at.end) test node items c.args.decider.now
      c.loop-ends.decider c.take.new.decider all c.loop-ends.ends-index default_link low
      (c.loop-ends.invariant.2 assigned steps stops at_node continues) (subst
      (λ (b : Bool). WalksOver g.D.Decider.decides position tree c.loop-ends.decider
      (with_steps test node (steps_by at.end link)) b c.take.new.decider) c.if-not-take.false walk),
)

pub follow-returns-clause-walks : goal.follow-returns-clause-walks
follow-returns-clause-walks g t c = λ assigned steps stops at_node continues.
    let position = g.N.Network.position c.args.network.now in
    let tree = c.args.tree.now in
    let at = c.args.at in
    let node : Node = node_at tree c.args.begun.now assigned steps in
    let test : WalkStep → Bool = may_take (reached_in tree) node at.end in
    let items : List Link = links_of position at.hex in
    let all : List Node = with_steps test node (steps_at position at.hex at.end) in
    let held : List LinkEnds = c.at-ends-items.result.now in
    let is : held ≡ map ends_of items = c.at-ends-items.ensures position at_node.tree_is.links in
    let high : length items ≤ c.loop-ends.ends-index = link_high items held c.loop-ends.ends-index is c.loop-ends-test.false in
    things_over g.D.Decider.decides position tree (steps_by at.end) test node items c.args.decider.now
    c.loop-ends.decider all c.loop-ends.ends-index high
    (c.loop-ends.invariant.2 assigned steps stops at_node continues)

pub follow-returns-clause-used : goal.follow-returns-clause-used
follow-returns-clause-used g t c = c.loop-ends.invariant.0

pub follow-returns-clause-seen : goal.follow-returns-clause-seen
follow-returns-clause-seen g t c = c.loop-ends.invariant.1

pub take-returns-in_default-clause-walks : goal.take-returns-in_default-clause-walks
take-returns-in_default-clause-walks g t c = λ assigned steps stops link at_node among ends from continues.
    let position = g.N.Network.position c.args.network.now in
    let tree = c.args.tree.now in
    let at = c.args.at in
    let found : Option WalkStep = way_into at.end link in
    let way : c.leads_to.result ≡ option_map place_left found = c.leads_to.ensures link at.end ends from in
    let node : Node = node_at tree c.args.begun.now assigned steps in
    let test : WalkStep → Bool = may_take (reached_in tree) node at.end in
    over_none g.D.Decider.decides position tree c.args.decider.now (with_steps test node (steps_by at.end link))
    (no_step_found test node at.end link found (no_step_there found (sym way ∙ c.in_default.is)) (ways at.end link))

pub take-returns-in_default-stop-clause-walks : goal.take-returns-in_default-stop-clause-walks
take-returns-in_default-stop-clause-walks g t c = λ assigned steps stops link at_node among ends from continues.
    let position = g.N.Network.position c.args.network.now in
    let tree = c.args.tree.now in
    let at = c.args.at in
    let node : Node = node_at tree c.args.begun.now assigned steps in
    let test : WalkStep → Bool = may_take (reached_in tree) node at.end in
    let step : WalkStep = step_by at link in
    let made : Node = with_step node step in
    let taken : IsStepBy at link c.end_at.result step =
    step_taken position at_node.tree_is.lawful at link c.in-Some.place c.end_at.result among
    (sym (c.leads_to.ensures link at.end ends from) ∙ c.in-Some.is) c.end_at.ensures in
    let none : stop_of (left_at step) ≡ None = sym (c.stop.ensures ∙ ap stop_of (sym taken.leaves)) ∙ c.in_default-stop.is in
    let walk = c.cross.ensures.walks assigned steps stops step at_node (continues step taken.enters) taken.leaves
    (sym c.stop.ensures ∙ c.in_default-stop.is) in
    subst (λ (l : List Node). WalksOver g.D.Decider.decides position tree c.args.decider.now l c.cross.result c.cross.new.decider)
    (ap (λ (b : Bool). node_if b made) (sym (takes_over (reached_in tree) node at.end step none)) ∙ taken.one test node)
    walk

pub take-returns-in_default-end-clause-walks : goal.take-returns-in_default-end-clause-walks
take-returns-in_default-end-clause-walks g t c = λ assigned steps stops link at_node among ends from continues.
    let position = g.N.Network.position c.args.network.now in
    let tree = c.args.tree.now in
    let at = c.args.at in
    let node : Node = node_at tree c.args.begun.now assigned steps in
    let test : WalkStep → Bool = may_take (reached_in tree) node at.end in
    let step : WalkStep = step_by at link in
    let made : Node = with_step node step in
    let taken : IsStepBy at link c.end_at.result step =
    step_taken position at_node.tree_is.lawful at link c.in-Some.place c.end_at.result among
    (sym (c.leads_to.ensures link at.end ends from) ∙ c.in-Some.is) c.end_at.ensures in
    let stop : Stop = c.in-Some-stop.stop in
    let left : stop_of (left_at step) ≡ Some stop = sym (c.stop.ensures ∙ ap stop_of (sym taken.leaves)) ∙ c.in-Some-stop.is in
    over_none g.D.Decider.decides position tree c.args.decider.now (with_steps test node (steps_by at.end link))
    (sym (taken.one test node) ∙ ap (λ (b : Bool). node_if b made) (takes_no_stop (reached_in tree) node at.end c.in_default-end.field-0 step stop
    c.in_default-end.is left))

pub take-returns-then-not-reaches-clause-walks : goal.take-returns-then-not-reaches-clause-walks
take-returns-then-not-reaches-clause-walks g t c = λ assigned steps stops link at_node among ends from continues.
    let position = g.N.Network.position c.args.network.now in
    let tree = c.args.tree.now in
    let at = c.args.at in
    let node : Node = node_at tree c.args.begun.now assigned steps in
    let test : WalkStep → Bool = may_take (reached_in tree) node at.end in
    let step : WalkStep = step_by at link in
    let made : Node = with_step node step in
    let taken : IsStepBy at link c.end_at.result step =
    step_taken position at_node.tree_is.lawful at link c.in-Some.place c.end_at.result among
    (sym (c.leads_to.ensures link at.end ends from) ∙ c.in-Some.is) c.end_at.ensures in
    let stop : Stop = c.in-Some-stop.stop in
    let left : stop_of (left_at step) ≡ Some stop = sym (c.stop.ensures ∙ ap stop_of (sym taken.leaves)) ∙ c.in-Some-stop.is in
    let side : Side = c.in-Side.field-0 in
    let at_side : (entered_at step).end ≡ AtSide side = ap (λ (s : Spot). s.end) taken.enters ∙ c.in-Side.is in
    let reaches : c.reaches.result ≡ has_stop stop (reached_in tree) = c.reaches.ensures in
    let tests : test step ≡ (has_stop stop (reached_in tree) && not (has_stop stop (visited steps))) =
    takes_stop (reached_in tree) node at.end side step stop c.in-Side.is left in
    over_none g.D.Decider.decides position tree c.args.decider.now (with_steps test node (steps_by at.end link))
    (sym (taken.one test node) ∙ ap (λ (b : Bool). node_if b made) (tests
    ∙ and_false (has_stop stop (reached_in tree)) (has_stop stop (visited steps)) (sym reaches ∙ c.if-not-reaches.true)))

pub take-returns-then-has-clause-walks : goal.take-returns-then-has-clause-walks
take-returns-then-has-clause-walks g t c = λ assigned steps stops link at_node among ends from continues.
    let position = g.N.Network.position c.args.network.now in
    let tree = c.args.tree.now in
    let at = c.args.at in
    let node : Node = node_at tree c.args.begun.now assigned steps in
    let test : WalkStep → Bool = may_take (reached_in tree) node at.end in
    let step : WalkStep = step_by at link in
    let made : Node = with_step node step in
    let taken : IsStepBy at link c.end_at.result step =
    step_taken position at_node.tree_is.lawful at link c.in-Some.place c.end_at.result among
    (sym (c.leads_to.ensures link at.end ends from) ∙ c.in-Some.is) c.end_at.ensures in
    let stop : Stop = c.in-Some-stop.stop in
    let left : stop_of (left_at step) ≡ Some stop = sym (c.stop.ensures ∙ ap stop_of (sym taken.leaves)) ∙ c.in-Some-stop.is in
    let side : Side = c.in-Side.field-0 in
    let at_side : (entered_at step).end ≡ AtSide side = ap (λ (s : Spot). s.end) taken.enters ∙ c.in-Side.is in
    let reaches : c.reaches.result ≡ has_stop stop (reached_in tree) = c.reaches.ensures in
    let tests : test step ≡ (has_stop stop (reached_in tree) && not (has_stop stop (visited steps))) =
    takes_stop (reached_in tree) node at.end side step stop c.in-Side.is left in
    let seen : has_stop stop (visited steps) ≡ c.has.result =
    ap (has_stop stop) ((continues step taken.enters).same side at_side) ∙ (sym (at_node.seen.1 stop) ∙ sym c.has.ensures) in
    over_none g.D.Decider.decides position tree c.args.decider.now (with_steps test node (steps_by at.end link))
    (sym (taken.one test node) ∙ ap (λ (b : Bool). node_if b made) (tests
    ∙ both_false (has_stop stop (reached_in tree)) (has_stop stop (visited steps)) (seen ∙ c.if-has.true)))

pub take-arrive-requires : goal.take-arrive-requires
take-arrive-requires g t c = λ lifetimes within. (omega (arith, ap end_rank c.in-Side.is), (search rules, search rules))

pub take-returns-clause-walks : goal.take-returns-clause-walks
take-returns-clause-walks g t c = λ assigned steps stops link at_node among ends from continues.
    let position = g.N.Network.position c.args.network.now in
    let tree = c.args.tree.now in
    let at = c.args.at in
    let node : Node = node_at tree c.args.begun.now assigned steps in
    let test : WalkStep → Bool = may_take (reached_in tree) node at.end in
    let step : WalkStep = step_by at link in
    let made : Node = with_step node step in
    let taken : IsStepBy at link c.end_at.result step =
    step_taken position at_node.tree_is.lawful at link c.in-Some.place c.end_at.result among
    (sym (c.leads_to.ensures link at.end ends from) ∙ c.in-Some.is) c.end_at.ensures in
    let stop : Stop = c.in-Some-stop.stop in
    let left : stop_of (left_at step) ≡ Some stop = sym (c.stop.ensures ∙ ap stop_of (sym taken.leaves)) ∙ c.in-Some-stop.is in
    let side : Side = c.in-Side.field-0 in
    let at_side : (entered_at step).end ≡ AtSide side = ap (λ (s : Spot). s.end) taken.enters ∙ c.in-Side.is in
    let reaches : c.reaches.result ≡ has_stop stop (reached_in tree) = c.reaches.ensures in
    let tests : test step ≡ (has_stop stop (reached_in tree) && not (has_stop stop (visited steps))) =
    takes_stop (reached_in tree) node at.end side step stop c.in-Side.is left in
    let seen : has_stop stop (visited steps) ≡ c.has.result =
    ap (has_stop stop) ((continues step taken.enters).same side at_side) ∙ (sym (at_node.seen.1 stop) ∙ sym c.has.ensures) in
    let passes : test step ≡ true = tests ∙ and_true (has_stop stop (reached_in tree)) (has_stop stop (visited steps))
    (sym reaches ∙ c.if-not-reaches.false) (seen ∙ c.if-has.false) in
    let walk = c.arrive.ensures.walks assigned steps stops step at_node (continues step taken.enters) left in
    subst (λ (l : List Node). WalksOver g.D.Decider.decides position tree c.args.decider.now l c.arrive.result
    c.arrive.new.decider) (ap (λ (b : Bool). node_if b made) (sym passes) ∙ taken.one test node) walk

pub take-returns-clause-seen : goal.take-returns-clause-seen
take-returns-clause-seen g t c = c.arrive.ensures.seen (sym c.has.ensures ∙ c.if-has.false)

pub arrive-at_stop-whole-requires : goal.arrive-at_stop-whole-requires
arrive-at_stop-whole-requires g t c = λ lifetimes within. (omega arith, (search rules, search rules))

pub arrive-returns-clause-walks : goal.arrive-returns-clause-walks
arrive-returns-clause-walks g t c = λ assigned steps stops step at_node continues left.
    let position = g.N.Network.position c.args.network.now in
    let tree = c.args.tree.now in
    let stop = c.args.stop in
    let here = c.visiting-here.result in
    let begun = c.args.begun.now in
    let made : Node = with_step (node_at tree begun assigned steps) step in
    let low : stop_order stop < length c.args.seen.now = omega (arith, order_low stop, at_node.seen.0) in
    let there = on_run_at_stop position tree begun c.args.used.now c.args.seen.now assigned steps stops at_node step
    stop here continues left low
    c.visiting-here.ensures.train c.visiting-here.ensures.next c.visiting-here.ensures.later
    (c.visiting-here.ensures.value at_node.tree_is) c.visiting-here.ensures.left
    (c.visiting-here.ensures.own at_node.tree_is) in
    let marked : IsOnRun position tree here c.args.used.now c.mark.new.self assigned (step ∷ steps)
    (visited (step ∷ steps)) =
    same_state position tree here c.args.used.now (set c.args.seen.now (stop_order stop) true) c.args.used.now
    c.mark.new.self assigned (step ∷ steps) (visited (step ∷ steps)) refl c.mark.ensures there in
    let two = two_stops position tree begun c.args.used.now c.args.seen.now assigned steps stops at_node step stop
    continues left in
    let walk = c.at_stop-whole.ensures.walks assigned steps step marked two left in
    let same : node_at tree here assigned (step ∷ steps) ≡ made =
    same_node tree here begun assigned (step ∷ steps) c.visiting-here.ensures.train c.visiting-here.ensures.next in
    subst (λ (l : List Node). WalksOver g.D.Decider.decides position tree c.args.decider.now l c.at_stop-whole.result
    c.at_stop-whole.new.decider) (ap (λ (n : Node). n ∷ []) same) walk

pub arrive-returns-clause-seen : goal.arrive-returns-clause-seen
arrive-returns-clause-seen g t c = λ unseen. let stop : Stop = c.args.stop in
    c.unmark.ensures ∙ (ap (λ (m : List Bool). set m (stop_order stop) false) (c.at_stop-whole.ensures.seen ∙ c.mark.ensures)
    ∙ mark_undone c.args.seen.now (stop_order stop) unseen)

pub cross-border_to-number-requires : goal.cross-border_to-number-requires
cross-border_to-number-requires g t c =
    let head = c.args.head in
    let side : Side = c.in-Side.side in
    let over : across_end head.hex (AtSide side) ≡ Some c.in-Some.beyond =
    sym (ap (across_end head.hex) c.in-Side.is) ∙ (sym c.across.ensures ∙ c.in-Some.is) in
    beyond_it side c.in-Some.beyond (neighbour_of head.hex side) over

pub cross-returns-in_default-clause-walks : goal.cross-returns-in_default-clause-walks
cross-returns-in_default-clause-walks g t c = λ assigned steps stops step at_node continues at none.
    let position = g.N.Network.position c.args.network.now in
    let tree = c.args.tree.now in
    let head = c.args.head in
    let node : Node = node_at tree c.args.begun.now assigned steps in
    let made : Node = with_step node step in
    let taken : List ℕ = taken_borders node in
    over_none g.D.Decider.decides position tree c.args.decider.now (node_if (goes_over taken step) made)
    (ap (λ (b : Bool). node_if b made) (ap (λ (s : Spot). is_free_end taken s.hex s.end) at
    ∙ no_beyond taken head.hex head.end (sym c.across.ensures ∙ c.in_default.is)))

pub cross-returns-in_default-end-clause-walks : goal.cross-returns-in_default-end-clause-walks
cross-returns-in_default-end-clause-walks g t c = λ assigned steps stops step at_node continues at none.
    let position = g.N.Network.position c.args.network.now in
    let tree = c.args.tree.now in
    let head = c.args.head in
    let node : Node = node_at tree c.args.begun.now assigned steps in
    let made : Node = with_step node step in
    let taken : List ℕ = taken_borders node in
    let wrong : None ≡ Some c.in-Some.beyond = sym (ap (across_end head.hex) c.in_default-end.is) ∙ (sym c.across.ensures ∙ c.in-Some.is) in
    absurd cc

pub cross-returns-then-has-clause-walks : goal.cross-returns-then-has-clause-walks
cross-returns-then-has-clause-walks g t c = λ assigned steps stops step at_node continues at none.
    let position = g.N.Network.position c.args.network.now in
    let tree = c.args.tree.now in
    let head = c.args.head in
    let node : Node = node_at tree c.args.begun.now assigned steps in
    let made : Node = with_step node step in
    let taken : List ℕ = taken_borders node in
    let side : Side = c.in-Side.side in
    let marks : has_border (border_of head.hex side) taken ≡ c.has.result =
    ap (λ (n : ℕ). has_border n taken) (sym c.border_to-number.ensures.value)
    ∙ (sym (at_node.crossed.1 c.border_to-number.result) ∙ sym c.has.ensures) in
    over_none g.D.Decider.decides position tree c.args.decider.now (node_if (goes_over taken step) made)
    (ap (λ (b : Bool). node_if b made) (ap (λ (s : Spot). is_free_end taken s.hex s.end) at
    ∙ not_free taken head.hex head.end side c.in-Side.is (marks ∙ c.if-has.true)))

pub cross-at_border-whole-requires : goal.cross-at_border-whole-requires
cross-at_border-whole-requires g t c = λ lifetimes within.
    (omega (arith, c.add.ensures.fewer (sym c.has.ensures ∙ c.if-has.false)), (search rules, search rules))

pub cross-returns-clause-walks : goal.cross-returns-clause-walks
cross-returns-clause-walks g t c = λ assigned steps stops step at_node continues at none.
    let position = g.N.Network.position c.args.network.now in
    let tree = c.args.tree.now in
    let head = c.args.head in
    let node : Node = node_at tree c.args.begun.now assigned steps in
    let made : Node = with_step node step in
    let taken : List ℕ = taken_borders node in
    let side : Side = c.in-Side.side in
    let marks : has_border (border_of head.hex side) taken ≡ c.has.result =
    ap (λ (n : ℕ). has_border n taken) (sym c.border_to-number.ensures.value)
    ∙ (sym (at_node.crossed.1 c.border_to-number.result) ∙ sym c.has.ensures) in
    let number : border_of (left_at step).hex side ≡ c.border_to-number.result =
    ap (λ (s : Spot). border_of s.hex side) at ∙ sym c.border_to-number.ensures.value in
    let low : border_of (left_at step).hex side < length c.args.used.now =
    omega (arith, number, c.border_to-number.ensures.bound, at_node.crossed.0) in
    let at_side : (left_at step).end ≡ AtSide side = ap (λ (s : Spot). s.end) at ∙ c.in-Side.is in
    let over : across (left_at step) ≡ Some c.in-Some.beyond = ap across at ∙ (sym c.across.ensures ∙ c.in-Some.is) in
    let left : stop_of (left_at step) ≡ None = ap stop_of at ∙ none in
    let there = on_run_over position tree c.args.begun.now c.args.used.now c.args.seen.now assigned steps stops at_node
    step side continues left at_side low in
    let marked : IsOnRun position tree c.args.begun.now c.add.new.self c.args.seen.now assigned (step ∷ steps)
    (visited (step ∷ steps)) =
    same_state position tree c.args.begun.now (set c.args.used.now (border_of (left_at step).hex side) true) c.args.seen.now
    c.add.new.self c.args.seen.now assigned (step ∷ steps) (visited (step ∷ steps))
    (c.add.ensures.marked ∙ ap (λ (n : ℕ). set c.args.used.now n true) (sym number)) refl there in
    let walk = c.at_border-whole.ensures.walks assigned steps step marked left over in
    let passes : goes_over taken step ≡ true = ap (λ (s : Spot). is_free_end taken s.hex s.end) at
    ∙ is_free taken head.hex head.end side c.in-Some.beyond c.in-Side.is (sym c.across.ensures ∙ c.in-Some.is)
    (marks ∙ c.if-has.false) in
    subst (λ (b : Bool). WalksOver g.D.Decider.decides position tree c.args.decider.now (node_if b made) c.at_border-whole.result
    c.at_border-whole.new.decider) (sym passes) walk

pub cross-returns-clause-used : goal.cross-returns-clause-used
cross-returns-clause-used g t c = c.remove.ensures
    ∙ (ap (λ (m : List Bool). set m c.border_to-number.result false) (c.at_border-whole.ensures.used ∙ c.add.ensures.marked)
    ∙ mark_undone c.args.used.now c.border_to-number.result (sym c.has.ensures ∙ c.if-has.false))

pub at_border-returns-in-Cut-clause-walks : goal.at_border-returns-in-Cut-clause-walks
at_border-returns-in-Cut-clause-walks g t c = λ assigned before step at_node none over.
    let position = g.N.Network.position c.args.network.now in
    let tree = c.args.tree.now in
    let node : Node = node_at tree c.args.begun.now assigned (step ∷ before) in
    one_cut g.D.Decider.decides position tree c.args.decider.now c.ask.new.decider node
    (c.in-Cut.ensures position c.args.used.now assigned (step ∷ before) at_node)

pub at_border-returns-in-Stop-clause-walks : goal.at_border-returns-in-Stop-clause-walks
at_border-returns-in-Stop-clause-walks g t c = λ assigned before step at_node none over.
    let position = g.N.Network.position c.args.network.now in
    let tree = c.args.tree.now in
    let node : Node = node_at tree c.args.begun.now assigned (step ∷ before) in
    one_end g.D.Decider.decides position tree c.args.decider.now c.ask.new.decider node
    (c.in-Stop.ensures position c.args.used.now assigned (step ∷ before) at_node)

pub at_border-follow-requires : goal.at_border-follow-requires
at_border-follow-requires g t c = λ lifetimes within. (omega (arith, rank_low c.args.beyond.end), (search rules, search rules))

pub at_border-returns-in-Split-clause-walks : goal.at_border-returns-in-Split-clause-walks
at_border-returns-in-Split-clause-walks g t c = λ assigned before step at_node none over.
    let position = g.N.Network.position c.args.network.now in
    let tree = c.args.tree.now in
    let node : Node = node_at tree c.args.begun.now assigned (step ∷ before) in
    let walk = c.follow.ensures.walks assigned (step ∷ before) (visited (step ∷ before)) at_node
    (λ next at. border_continues position at_node.tree_is.lawful before step c.args.beyond next over at) in
    one_split g.D.Decider.decides position tree c.args.decider.now c.ask.new.decider c.follow.new.decider node c.follow.result
    (c.in-Split.ensures position c.args.used.now assigned (step ∷ before) at_node)
    (subst (λ (l : List Node). WalksOver g.D.Decider.decides position tree c.ask.new.decider l c.follow.result c.follow.new.decider)
    (sym (children_at_border position tree c.args.begun.now assigned before step c.args.beyond none over)) walk)

pub at_stop-returns-in-Cut-clause-walks : goal.at_stop-returns-in-Cut-clause-walks
at_stop-returns-in-Cut-clause-walks g t c = λ assigned before step at_node two at.
    let position = g.N.Network.position c.args.network.now in
    let tree = c.args.tree.now in
    let begun = c.args.begun.now in
    let steps : List WalkStep = step ∷ before in
    let node : Node = node_at tree begun assigned steps in
    one_cut g.D.Decider.decides position tree c.args.decider.now c.ask.new.decider node
    (c.in-Cut.ensures position c.args.used.now assigned (step ∷ before) at_node)

pub at_stop-returns-in-Stop-clause-walks : goal.at_stop-returns-in-Stop-clause-walks
at_stop-returns-in-Stop-clause-walks g t c = λ assigned before step at_node two at.
    let position = g.N.Network.position c.args.network.now in
    let tree = c.args.tree.now in
    let begun = c.args.begun.now in
    let steps : List WalkStep = step ∷ before in
    let node : Node = node_at tree begun assigned steps in
    one_end g.D.Decider.decides position tree c.args.decider.now c.ask.new.decider node
    (c.in-Stop.ensures position c.args.used.now assigned (step ∷ before) at_node)

pub at_stop-returns-then-not-begun-clause-walks : goal.at_stop-returns-then-not-begun-clause-walks
at_stop-returns-then-not-begun-clause-walks g t c = λ assigned before step at_node two at.
    let position = g.N.Network.position c.args.network.now in
    let tree = c.args.tree.now in
    let begun = c.args.begun.now in
    let steps : List WalkStep = step ∷ before in
    let node : Node = node_at tree begun assigned steps in
    let run : List TrainRun = with_run begun assigned steps in
    let passed : List Node = from_stop position tree.company (reached_in tree) node begun.kind c.args.stop in
    let all : children position tree.company (reached_in tree) node ≡ node_if begun.own_token (node_from tree run begun.next) ++ passed =
    children_at_stop position tree begun assigned before step c.args.stop at
    ∙ ap (λ (l : List Node). l ++ passed) (finishing_is position tree begun assigned steps begun.own_token two
    at_node.own) in
    let parts : children position tree.company (reached_in tree) node ≡ node_if false (node_from tree run begun.next) ++ passed =
    all ∙ ap (λ (b : Bool). node_if b (node_from tree run begun.next) ++ passed) c.if-not-begun.true in
    one_split g.D.Decider.decides position tree c.args.decider.now c.ask.new.decider c.pass.new.decider node c.pass.result
    (c.in-Split.ensures position c.args.used.now assigned (step ∷ before) at_node)
    (subst (λ (l : List Node). WalksOver g.D.Decider.decides position tree c.ask.new.decider l c.pass.result c.pass.new.decider)
    (sym parts) (c.pass.ensures.walks assigned before step at_node at))

pub at_stop-returns-then-not-choose-clause-walks : goal.at_stop-returns-then-not-choose-clause-walks
at_stop-returns-then-not-choose-clause-walks g t c = λ assigned before step at_node two at.
    let position = g.N.Network.position c.args.network.now in
    let tree = c.args.tree.now in
    let begun = c.args.begun.now in
    let steps : List WalkStep = step ∷ before in
    let node : Node = node_at tree begun assigned steps in
    let run : List TrainRun = with_run begun assigned steps in
    let passed : List Node = from_stop position tree.company (reached_in tree) node begun.kind c.args.stop in
    let all : children position tree.company (reached_in tree) node ≡ node_if begun.own_token (node_from tree run begun.next) ++ passed =
    children_at_stop position tree begun assigned before step c.args.stop at
    ∙ ap (λ (l : List Node). l ++ passed) (finishing_is position tree begun assigned steps begun.own_token two
    at_node.own) in
    let parts : children position tree.company (reached_in tree) node ≡ node_if true (node_from tree run begun.next) ++ passed =
    all ∙ ap (λ (b : Bool). node_if b (node_from tree run begun.next) ++ passed) c.if-not-begun.false in
    let first : List Node = node_from tree run begun.next ∷ [] in
    let walk = c.choose.ensures.walks run (finished_is_between position tree begun c.args.used.now c.args.seen.now
    assigned before step c.args.stop at_node at) (finished_crossed position tree begun c.args.used.now c.args.seen.now
    assigned before step c.args.stop at_node at) at_node.within in
    let over : WalksOver g.D.Decider.decides position tree c.ask.new.decider first false c.choose.new.decider =
    subst (λ (b : Bool). WalksOver g.D.Decider.decides position tree c.ask.new.decider first b c.choose.new.decider)
    c.if-not-choose.true walk in
    one_split g.D.Decider.decides position tree c.args.decider.now c.ask.new.decider c.choose.new.decider node false
    (c.in-Split.ensures position c.args.used.now assigned (step ∷ before) at_node)
    (subst (λ (l : List Node). WalksOver g.D.Decider.decides position tree c.ask.new.decider l false c.choose.new.decider) (sym parts)
    (walks_ended g.D.Decider.decides position tree.company (reached_in tree) c.ask.new.decider c.choose.new.decider first passed over))

pub at_stop-returns-clause-walks : goal.at_stop-returns-clause-walks
at_stop-returns-clause-walks g t c = λ assigned before step at_node two at.
    let position = g.N.Network.position c.args.network.now in
    let tree = c.args.tree.now in
    let begun = c.args.begun.now in
    let steps : List WalkStep = step ∷ before in
    let node : Node = node_at tree begun assigned steps in
    let run : List TrainRun = with_run begun assigned steps in
    let passed : List Node = from_stop position tree.company (reached_in tree) node begun.kind c.args.stop in
    let all : children position tree.company (reached_in tree) node ≡ node_if begun.own_token (node_from tree run begun.next) ++ passed =
    children_at_stop position tree begun assigned before step c.args.stop at
    ∙ ap (λ (l : List Node). l ++ passed) (finishing_is position tree begun assigned steps begun.own_token two
    at_node.own) in
    let parts : children position tree.company (reached_in tree) node ≡ node_if true (node_from tree run begun.next) ++ passed =
    all ∙ ap (λ (b : Bool). node_if b (node_from tree run begun.next) ++ passed) c.if-not-begun.false in
    let first : List Node = node_from tree run begun.next ∷ [] in
    let walk = c.choose.ensures.walks run (finished_is_between position tree begun c.args.used.now c.args.seen.now
    assigned before step c.args.stop at_node at) (finished_crossed position tree begun c.args.used.now c.args.seen.now
    assigned before step c.args.stop at_node at) at_node.within in
    let over : WalksOver g.D.Decider.decides position tree c.ask.new.decider first true c.choose.new.decider =
    subst (λ (b : Bool). WalksOver g.D.Decider.decides position tree c.ask.new.decider first b c.choose.new.decider)
    c.if-not-choose.false walk in
    let later = c.pass-2.ensures.walks assigned before step
    (same_state position tree begun c.args.used.now c.args.seen.now c.choose.new.used c.args.seen.now assigned steps
    (visited steps) c.choose.ensures.used refl at_node) at in
    one_split g.D.Decider.decides position tree c.args.decider.now c.ask.new.decider c.pass-2.new.decider node c.pass-2.result
    (c.in-Split.ensures position c.args.used.now assigned (step ∷ before) at_node)
    (subst (λ (l : List Node). WalksOver g.D.Decider.decides position tree c.ask.new.decider l c.pass-2.result c.pass-2.new.decider)
    (sym parts) (walks_both g.D.Decider.decides position tree.company (reached_in tree) c.ask.new.decider c.choose.new.decider
    c.pass-2.new.decider first passed c.pass-2.result over later))

pub pass-returns-then-ends_at-clause-walks : goal.pass-returns-then-ends_at-clause-walks
pass-returns-then-ends_at-clause-walks g t c = λ assigned before step at_node at.
    let position = g.N.Network.position c.args.network.now in
    let tree = c.args.tree.now in
    let begun = c.args.begun.now in
    let steps : List WalkStep = step ∷ before in
    let node : Node = node_at tree begun assigned steps in
    let stop : Stop = c.args.stop in
    let last : is_last_stop position tree.company (reached_in tree) node begun.kind stop ≡ true =
    is_last position tree begun c.args.used.now c.args.seen.now assigned before step stop at_node at
    ∙ (sym (c.ends_at.ensures at_node.tree_is) ∙ c.if-ends_at.true) in
    let over : List Node = with_steps (goes_over (taken_borders node)) node (steps_from position stop) in
    over_none g.D.Decider.decides position tree c.args.decider.now
    (from_stop position tree.company (reached_in tree) node begun.kind stop) (ap (λ (b : Bool). if b then [] else over) last)

pub pass-returns-clause-walks : goal.pass-returns-clause-walks
pass-returns-clause-walks g t c = λ assigned before step at_node at.
    let position = g.N.Network.position c.args.network.now in
    let tree = c.args.tree.now in
    let begun = c.args.begun.now in
    let steps : List WalkStep = step ∷ before in
    let node : Node = node_at tree begun assigned steps in
    let stop : Stop = c.args.stop in
    let last : is_last_stop position tree.company (reached_in tree) node begun.kind stop ≡ false =
    is_last position tree begun c.args.used.now c.args.seen.now assigned before step stop at_node at
    ∙ (sym (c.ends_at.ensures at_node.tree_is) ∙ c.if-ends_at.false) in
    let over : List Node = with_steps (goes_over (taken_borders node)) node (steps_from position stop) in
    let walk = c.leave.ensures.walks assigned steps (visited steps) at_node
    (λ next is. stop_continues before step stop next at is) (names_itself (left_at step) stop at) in
    subst (λ (l : List Node). WalksOver g.D.Decider.decides position tree c.args.decider.now l c.leave.result c.leave.new.decider)
    (sym (ap (λ (b : Bool). if b then [] else over) last)) walk
